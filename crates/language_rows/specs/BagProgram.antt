-- The typed program of the bag, written by hand. Own.
use Rattle.std.specs.Prelude.{pos, true, false, None, List, [], ◌∷◌}
use Rattle.int_ranges.specs.declared.ctype.CType.TheVariants.{Int as SignedInt, Unsigned, LongLong}
use Rattle.method.specs.declared.program.DeclaredType.TheVariants.{Integer, Pointer, Object, Claim}
use Rattle.method.specs.declared.program.Sort.TheVariants.{IntSort, RefSort}
use Rattle.method.specs.declared.program.Comparison.TheVariants.{Equal, GreaterEqual}
use Rattle.method.specs.declared.program.Hole.TheVariants.{OfVariable}
use Rattle.method.specs.declared.program.Expr.TheVariants as e
use Rattle.method.specs.declared.program.Spec.{Spec, end_of-Spec, more_of-Spec}
use Rattle.method.specs.declared.program.Spec.TheVariants as s
use Rattle.method.specs.declared.program.RightSide.TheVariants.{NewClaim}
use Rattle.method.specs.declared.program.Simple.TheVariants.{EndClaim}
use Rattle.method.specs.declared.program.Action.TheVariants.{Simply, Define, WrapObject, AssertSpec}
use Rattle.method.specs.declared.program.Stmt.TheVariants.{Do}
use Rattle.method.specs.declared.program.Claimed.TheVariants.{ClaimedVariable}
use Rattle.method.specs.declared.program.ClaimSite.{ClaimSite}
use Rattle.method.specs.declared.program.Shape.{Shape}
use Rattle.method.specs.declared.program.Item.TheVariants.{Struct, Function}
use Rattle.method.specs.declared.program.FieldInfo.{FieldInfo}
use Rattle.method.specs.declared.program.StructInfo.{StructInfo}
use Rattle.method.specs.declared.program.VariableInfo.{VariableInfo}
use Rattle.method.specs.declared.program.FunctionInfo.{FunctionInfo}
use Rattle.method.specs.declared.program.Program.{Program}
use Rattle.method.specs.Trace.{Memory, vec, box}
use Rattle.lock_conditions.specs.LockProgram.{name, concrete, ghost_variable}

module _ (m : Memory) where
  -- c -> next == NULL for each member c
  abbrev pub members_are_last : Spec
  members_are_last =
      s.ForAll' 0 (Pointer 3) (box m) s.This (box m)
      (s.Compare' Equal (box m) (s.Field' (box m) (s.Bound 0) 1) (box m) s.Null)

  abbrev pub structs : List StructInfo
  structs =
      record {
        name = name m "Cell";
        line = 1;
        is_claimable = true;
        has_dynamic_owns = false;
        has_volatile_owns = false;
        first_field = 0;
        fields = 2;
        invariants = vec m (s.Compare' GreaterEqual (box m) (s.Field' (box m) s.This 0) (box m) (s.Number (pos 0)) ∷ []);
        has_approval = false;
        mine = vec m [];
      }
      ∷ record {
        name = name m "Bag";
        line = 2;
        is_claimable = false;
        has_dynamic_owns = true;
        has_volatile_owns = false;
        first_field = 2;
        fields = 2;
        invariants = vec m (members_are_last ∷ []);
        has_approval = false;
        mine = vec m [];
      }
      ∷ []

  abbrev pub fields : List FieldInfo
  fields =
      record { name = name m "n"; of = 3; ty = Integer LongLong; is_volatile = true; is_ghost = false; is_approved = false }
      ∷ record { name = name m "next"; of = 3; ty = Pointer 3; is_volatile = false; is_ghost = false; is_approved = false }
      ∷ record { name = name m "size"; of = 4; ty = Integer Unsigned; is_volatile = false; is_ghost = false; is_approved = false }
      ∷ record { name = name m "key"; of = 4; ty = Claim; is_volatile = false; is_ghost = true; is_approved = false }
      ∷ []

  -- its variables are b, p, k, c and d
  abbrev pub lists_cell_alone : Spec
  lists_cell_alone =
      s.And' (box m) (s.Wrapped' (box m) (s.Variable 3))
      (box m) (s.ClaimsOnly' 1 (box m) (s.Variable 3) (vec m (tt ∷ [])) (more_of-Spec (s.Variable 1) end_of-Spec))

  abbrev pub owns_cell : Spec
  owns_cell =
      s.Exists' 2 (Pointer 3) (box m) (s.Variable 0) (vec m (tt ∷ []))
      (more_of-Spec (s.Compare' Equal (box m) (s.Bound 0) (box m) (s.Variable 1)) end_of-Spec)

  abbrev pub members_are_closed : Spec
  members_are_closed = s.ForAll' 3 Object (box m) (s.Variable 0) (box m) (s.Closed' (box m) (s.Bound 0))

  abbrev pub variables : List VariableInfo
  variables =
      concrete m "b" (Pointer 4) ∷ concrete m "p" (Pointer 3) ∷ concrete m "k" (Integer SignedInt)
      ∷ ghost_variable m "c" Claim ∷ ghost_variable m "d" Claim
      ∷ []

  abbrev pub keep : FunctionInfo
  keep =
      record {
        name = name m "Keep";
        result = None;
        parameters = 4;
        variables = vec m variables;
        requires_ = vec m (record { line = 5; spec = lists_cell_alone } ∷ record { line = 6; spec = owns_cell } ∷ []);
        ensures_ = vec m [];
        writes = vec m (s.Variable 0 ∷ s.Variable 3 ∷ []);
        body = vec m (
            Do 9 (AssertSpec members_are_closed)
            ∷ Do 10 (WrapObject 4 4 (e.Variable 0))
            ∷ Do 11 (Define 4 (NewClaim 0))
            ∷ Do 12 (Simply (EndClaim 5 (e.Variable 3) (vec m (e.Variable 1 ∷ []))))
            ∷ []);
        end = 13;
      }

  abbrev pub main : FunctionInfo
  main =
      record {
        name = name m "main";
        result = None;
        parameters = 0;
        variables = vec m [];
        requires_ = vec m [];
        ensures_ = vec m [];
        writes = vec m [];
        body = vec m [];
        end = 14;
      }

  -- the claim that Keep makes, of p, over the values of p and k
  abbrev pub site : ClaimSite
  site =
      record {
        function = 0;
        line = 11;
        variables = vec m (1 ∷ 2 ∷ []);
        claimed = vec m (ClaimedVariable 1 ∷ []);
        conjuncts = vec m (record { shape = 0; holes = vec m (OfVariable 1 ∷ OfVariable 2 ∷ []) } ∷ []);
      }

  -- p -> n >= k, with holes for p and k
  abbrev pub shape : Shape
  shape =
      record {
        holes = vec m (RefSort ∷ IntSort ∷ []);
        conjunct = s.Compare' GreaterEqual (box m) (s.Field' (box m) (s.Variable 0) 0) (box m) (s.Variable 1);
      }

  abbrev pub bag : Program
  bag =
      record {
        structs = vec m structs;
        fields = vec m fields;
        functions = vec m (keep ∷ main ∷ []);
        sites = vec m (site ∷ []);
        shapes = vec m (shape ∷ []);
        items = vec m (Struct 0 ∷ Struct 1 ∷ Function 0 ∷ Function 1 ∷ []);
        main = 1;
      }

-- The typed program of the shop, written by hand. Own. A variable that a quantifier binds has the number of quantifiers between it and where it stands.
use Rattle.std.specs.Prelude.{true, false, None, List, [], ◌∷◌}
use Rattle.int_ranges.specs.declared.ctype.CType.TheVariants.{Int as SignedInt}
use Rattle.method.specs.declared.program.DeclaredType.{DeclaredType}
use Rattle.method.specs.declared.program.DeclaredType.TheVariants.{Integer, Pointer}
use Rattle.method.specs.declared.program.Comparison.TheVariants.{Equal, LessEqual, GreaterEqual}
use Rattle.method.specs.declared.program.Spec.{Spec, end_of-Spec, more_of-Spec}
use Rattle.method.specs.declared.program.Spec.TheVariants as s
use Rattle.method.specs.declared.program.Action.TheVariants.{AssertSpec}
use Rattle.method.specs.declared.program.Stmt.TheVariants.{Do}
use Rattle.method.specs.declared.program.Item.TheVariants.{Struct, Function}
use Rattle.method.specs.declared.program.FieldInfo.{FieldInfo}
use Rattle.method.specs.declared.program.StructInfo.{StructInfo}
use Rattle.method.specs.declared.program.VariableInfo.{VariableInfo}
use Rattle.method.specs.declared.program.FunctionInfo.{FunctionInfo}
use Rattle.method.specs.declared.program.Program.{Program}
use Rattle.method.specs.Trace.{Memory, vec, box}
use Rattle.lock_conditions.specs.LockProgram.{name, concrete}

-- Types 3 to 5.
abbrev item : DeclaredType
item = Pointer 3

abbrev shelf : DeclaredType
shelf = Pointer 4

abbrev store : DeclaredType
store = Pointer 5

module _ (m : Memory) where
  abbrev next : Spec → Spec
  next x = s.Field' (box m) x 0

  abbrev rank : Spec → Spec
  rank x = s.Field' (box m) x 1

  -- for each p of the shelf there is a q of it that is p -> next
  abbrev pub each_has_next : Spec
  each_has_next =
      s.ForAll' 0 item (box m) s.This
      (box m)
      (s.Exists' 1 item (box m) s.This (vec m (tt ∷ []))
      (more_of-Spec (s.Compare' Equal (box m) (s.Bound 0) (box m) (next (s.Bound 1))) end_of-Spec))

  -- there is a p of t, not below least, such that no q of t ranks below p
  abbrev pub has_lowest : Spec
  has_lowest =
      s.Exists' 2 item (box m) (s.Variable 1) (vec m (tt ∷ tt ∷ []))
      (more_of-Spec (s.Compare' GreaterEqual (box m) (rank (s.Bound 0)) (box m) (s.Variable 2))
      (more_of-Spec
      (s.ForAll' 3 item (box m) (s.Variable 1)
      (box m)
      (s.Compare' LessEqual (box m) (rank (s.Bound 1)) (box m) (rank (s.Bound 0))))
      end_of-Spec))

  -- for each p of each shelf a of the shop there is a q of a that comes before p, and whose rank at entry was no greater than that of the best
  abbrev pub each_comes_next : Spec
  each_comes_next =
      s.ForAll' 4 shelf (box m) (s.Variable 0)
      (box m)
      (s.ForAll' 5 item (box m) (s.Bound 0)
      (box m)
      (s.Exists' 6 item (box m) (s.Bound 1) (vec m (tt ∷ tt ∷ []))
      (more_of-Spec (s.Compare' Equal (box m) (next (s.Bound 0)) (box m) (s.Bound 1))
      (more_of-Spec
      (s.Compare' LessEqual (box m) (s.Old' (box m) (rank (s.Bound 0))) (box m) (rank (s.Field' (box m) (s.Variable 0) 3)))
      end_of-Spec))))

  abbrev pub structs : List StructInfo
  structs =
      record {
        name = name m "Item";
        line = 1;
        is_claimable = false;
        has_dynamic_owns = false;
        has_volatile_owns = false;
        first_field = 0;
        fields = 2;
        invariants = vec m [];
        has_approval = false;
        mine = vec m [];
      }
      ∷ record {
        name = name m "Shelf";
        line = 2;
        is_claimable = false;
        has_dynamic_owns = true;
        has_volatile_owns = false;
        first_field = 2;
        fields = 1;
        invariants = vec m (each_has_next ∷ []);
        has_approval = false;
        mine = vec m [];
      }
      ∷ record {
        name = name m "Shop";
        line = 5;
        is_claimable = false;
        has_dynamic_owns = true;
        has_volatile_owns = false;
        first_field = 3;
        fields = 1;
        invariants = vec m [];
        has_approval = false;
        mine = vec m [];
      }
      ∷ []

  abbrev pub fields : List FieldInfo
  fields =
      record { name = name m "next"; of = 3; ty = item; is_volatile = false; is_ghost = false; is_approved = false }
      ∷ record { name = name m "rank"; of = 3; ty = Integer SignedInt; is_volatile = false; is_ghost = false; is_approved = false }
      ∷ record { name = name m "first"; of = 4; ty = item; is_volatile = false; is_ghost = false; is_approved = false }
      ∷ record { name = name m "best"; of = 5; ty = item; is_volatile = false; is_ghost = false; is_approved = false }
      ∷ []

  abbrev pub variables : List VariableInfo
  variables = concrete m "s" store ∷ concrete m "t" shelf ∷ concrete m "least" (Integer SignedInt) ∷ []

  abbrev pub stock : FunctionInfo
  stock =
      record {
        name = name m "Stock";
        result = None;
        parameters = 3;
        variables = vec m variables;
        requires_ = vec m (record { line = 7; spec = has_lowest } ∷ []);
        ensures_ = vec m [];
        writes = vec m [];
        body = vec m (Do 10 (AssertSpec each_comes_next) ∷ []);
        end = 13;
      }

  abbrev pub main : FunctionInfo
  main =
      record {
        name = name m "main";
        result = None;
        parameters = 0;
        variables = vec m [];
        requires_ = vec m [];
        ensures_ = vec m [];
        writes = vec m [];
        body = vec m [];
        end = 14;
      }

  abbrev pub shop : Program
  shop =
      record {
        structs = vec m structs;
        fields = vec m fields;
        functions = vec m (stock ∷ main ∷ []);
        sites = vec m [];
        shapes = vec m [];
        items = vec m (Struct 0 ∷ Struct 1 ∷ Struct 2 ∷ Function 0 ∷ Function 1 ∷ []);
        main = 1;
      }

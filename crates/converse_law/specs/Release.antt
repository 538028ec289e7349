-- A program that ends a claim. Own.
use Rattle.std.specs.Prelude.{true, false, None, [], ◌∷◌}
use Rattle.int_ranges.specs.declared.ctype.CType.TheVariants.{Int as SignedInt}
use Rattle.method.specs.declared.program.DeclaredType.TheVariants.{Integer, Pointer, Claim}
use Rattle.method.specs.declared.program.Expr.TheVariants as e
use Rattle.method.specs.declared.program.Spec.{end_of-Spec, more_of-Spec}
use Rattle.method.specs.declared.program.Spec.TheVariants as s
use Rattle.method.specs.declared.program.Simple.TheVariants.{EndClaim}
use Rattle.method.specs.declared.program.Action.TheVariants.{Simply}
use Rattle.method.specs.declared.program.Stmt.TheVariants.{Do}
use Rattle.method.specs.declared.program.Item.TheVariants.{Struct, Function}
use Rattle.method.specs.declared.program.FieldInfo.{FieldInfo}
use Rattle.method.specs.declared.program.StructInfo.{StructInfo}
use Rattle.method.specs.declared.program.FunctionInfo.{FunctionInfo}
use Rattle.method.specs.declared.program.Program.{Program}
use Rattle.method.specs.Trace.{Memory, vec, box}

module _ (m : Memory) where
  -- `struct A { int n; };`, which may be claimed
  abbrev pub release_struct : StructInfo
  release_struct = record { name = m.text; line = 1; is_claimable = true; has_dynamic_owns = false; has_volatile_owns = false; first_field = 0; fields = 1; has_approval = false; invariants = vec m []; mine = vec m [] }

  abbrev pub release_field : FieldInfo
  release_field = record { name = m.text; of = 3; ty = Integer SignedInt; is_volatile = false; is_ghost = false; is_approved = false }

  -- `void release(\claim c, struct A *p) _(requires \wrapped(c)) _(requires \wrapped(p)) _(requires \claims_only(c, p)) _(writes c, p) { \destroy_claim(c, {p}); }`
  abbrev pub release_function : FunctionInfo
  release_function =
      record {
        name = m.text;
        result = None;
        parameters = 2;
        variables = vec m (record { name = m.text; ty = Claim; is_ghost = true } ∷ record { name = m.text; ty = Pointer 3; is_ghost = false } ∷ []);
        requires_ = vec m (
            record { line = 2; spec = s.Wrapped' (box m) (s.Variable 0) }
            ∷ record { line = 3; spec = s.Wrapped' (box m) (s.Variable 1) }
            ∷ record { line = 4; spec = s.ClaimsOnly' 0 (box m) (s.Variable 0) (vec m (tt ∷ [])) (more_of-Spec (s.Variable 1) end_of-Spec) }
            ∷ []);
        ensures_ = vec m [];
        writes = vec m (s.Variable 0 ∷ s.Variable 1 ∷ []);
        body = vec m (Do 5 (Simply (EndClaim 1 (e.Variable 0) (vec m (e.Variable 1 ∷ [])))) ∷ []);
        end = 6;
      }

  abbrev pub release_program : Program
  release_program =
      record {
        structs = vec m (release_struct ∷ []);
        fields = vec m (release_field ∷ []);
        functions = vec m (release_function ∷ []);
        sites = vec m [];
        shapes = vec m [];
        items = vec m (Struct 0 ∷ Function 0 ∷ []);
        main = 0;
      }

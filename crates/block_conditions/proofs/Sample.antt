-- The premise of blocks' and claims' actions is met: a function that ends one claim outside and one inside an atomic block has the formulas of both.
use Rattle.std.proofs.Common.{ℕ, true, false, [], ◌∷◌, None, refl}
use Rattle.int_ranges.specs.declared.ctype.CType.TheVariants.{Int as SignedInt}
use Rattle.method.specs.declared.program.DeclaredType.TheVariants.{Integer, Pointer, Claim}
use Rattle.method.specs.declared.program.Expr.TheVariants as e
use Rattle.method.specs.declared.program.Simple.{Simple}
use Rattle.method.specs.declared.program.Simple.TheVariants.{EndClaim}
use Rattle.method.specs.declared.program.Inner.TheVariants.{Inside}
use Rattle.method.specs.declared.program.Action.{Action}
use Rattle.method.specs.declared.program.Action.TheVariants.{Simply, Atomic}
use Rattle.method.specs.declared.program.Stmt.TheVariants.{Do}
use Rattle.method.specs.declared.program.Item.TheVariants.{Struct, Function}
use Rattle.method.specs.declared.program.FunctionInfo.{FunctionInfo}
use Rattle.method.specs.declared.program.Program.{Program}
use Rattle.method.specs.Trace.{Memory, vec, box}
use Rattle.block_conditions.proofs.Every.{IsOther}

module _ (m : Memory) where
  -- `\destroy_claim(c, {p})`, whose formula has this number
  abbrev ending : ℕ → Simple
  ending number = EndClaim number (e.Variable 0) (vec m (e.Variable 1 ∷ []))

  abbrev outside : Action
  outside = Simply (ending 0)

  abbrev inside : Action
  inside = Atomic (vec m []) (vec m (Inside 4 (ending 1) ∷ []))

  -- `void release(\claim c, struct A *p) { \destroy_claim(c, {p}); atomic() { \destroy_claim(c, {p}); } }`
  abbrev release : FunctionInfo
  release = record {
    name = m.text;
    result = None;
    parameters = 2;
    variables = vec m (record { name = m.text; ty = Claim; is_ghost = true } ∷ record { name = m.text; ty = Pointer 3; is_ghost = false } ∷ []);
    requires_ = vec m [];
    ensures_ = vec m [];
    writes = vec m [];
    body = vec m (Do 3 outside ∷ Do 4 inside ∷ []);
    end = 5;
  }

  abbrev program : Program
  program = record {
    structs = vec m (record { name = m.text; line = 1; is_claimable = true; has_dynamic_owns = false; has_volatile_owns = false; first_field = 0; fields = 1; has_approval = false; invariants = vec m []; mine = vec m [] } ∷ []);
    fields = vec m (record { name = m.text; of = 3; ty = Integer SignedInt; is_volatile = false; is_ghost = false; is_approved = false } ∷ []);
    functions = vec m (release ∷ []);
    sites = vec m [];
    shapes = vec m [];
    items = vec m (Struct 0 ∷ Function 0 ∷ []);
    main = 0;
  }

  outside_is : IsOther program outside
  outside_is = refl

  inside_is : IsOther program inside
  inside_is = (refl, tt)

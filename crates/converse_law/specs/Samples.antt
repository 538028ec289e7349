-- Programs that meet the premises of the law. Own.
use Rattle.std.specs.Prelude.{false, [], ◌∷◌, None}
use Rattle.method.specs.declared.program.DeclaredType.TheVariants.{Pointer}
use Rattle.method.specs.declared.program.Expr.TheVariants as e
use Rattle.method.specs.declared.program.Spec.TheVariants as s
use Rattle.method.specs.declared.program.Action.{Action}
use Rattle.method.specs.declared.program.Action.TheVariants.{SpawnThread}
use Rattle.method.specs.declared.program.Stmt.TheVariants.{Do}
use Rattle.method.specs.declared.program.FunctionInfo.{FunctionInfo}
use Rattle.method.specs.declared.program.Program.{Program}
use Rattle.method.specs.Trace.{Memory, vec, box}
use Rattle.method.specs.Admissible.{ClaimStable}
use Rattle.method.specs.LocalRuns.{AllLocalOk}
use Rattle.conditions.specs.Rows.{store_program}
use Rattle.safe_counter.specs.Shared.{program as shared_program}
use Rattle.condition_meaning.specs.Promises.{EachSite, ConditionsAreValid}
use Rattle.conditions_law.specs.Texts.{IsVerifiable}
use Rattle.converse_law.specs.Release.{release_program}

-- `struct A { int n; }; void f(struct A *p) _(requires \mutable(p)) _(writes p) { p->n = 1; }`: typed, scoped, its annotations fit, it has no claim site, and no local run of it fails a check
abbrev pub StoreIsLocallySafe : Type 0
StoreIsLocallySafe = (m : Memory) → IsVerifiable (store_program m) × EachSite (store_program m) (ClaimStable (store_program m)) × AllLocalOk (store_program m)

-- the same of a program that ends a claim
abbrev pub ReleaseIsLocallySafe : Type 0
ReleaseIsLocallySafe = (m : Memory) → IsVerifiable (release_program m) × EachSite (release_program m) (ClaimStable (release_program m)) × AllLocalOk (release_program m)

-- `struct A { int n; }; void f(struct A *p) _(requires \wrapped(p)) _(writes p) { vcc_spawn(f, p); }`: each thread passes the object on to a new one
module _ (m : Memory) where
  abbrev pub the_start : Action
  the_start = SpawnThread 0 (vec m (e.Variable 0 ∷ []))

  abbrev pub start_function : FunctionInfo
  start_function =
      record { name = m.text; result = None; parameters = 1; variables = vec m (record { name = m.text; ty = Pointer 3; is_ghost = false } ∷ []); requires_ = vec m (record { line = 2; spec = s.Wrapped' (box m) (s.Variable 0) } ∷ []); ensures_ = vec m []; writes = vec m (s.Variable 0 ∷ []); body = vec m (Do 2 the_start ∷ []); end = 2 }

  abbrev pub start_program : Program
  start_program = record (store_program m) { functions = vec m (start_function ∷ []) }

-- it is typed, scoped, its annotations fit, it has no claim site, and no local run of it fails a check
abbrev pub StartIsLocallySafe : Type 0
StartIsLocallySafe = (m : Memory) → IsVerifiable (start_program m) × EachSite (start_program m) (ClaimStable (start_program m)) × AllLocalOk (start_program m)

-- all conditions are valid of a program whose two threads write one object in atomic blocks, the one owning it and the other with a claim that the first has made
abbrev pub SharedConditionsAreValid : Type 0
SharedConditionsAreValid = (m : Memory) → ConditionsAreValid (shared_program m)

-- From an environment to a run: an expression whose checks are known true has a value, and what its term says as a test is known; one of which a check isn't known true fails there.
use Rattle.std.proofs.Common.{◌≡◌, ℕ, ◌⊎◌, inl, inr, Bool, true, false, not, List, [], refl, ap, IsTrue, IsFalse}
use Rattle.object_types.specs.declared.references.Ref.{Ref}
use Rattle.object_types.specs.declared.values.Value.{Value}
use Rattle.object_types.specs.References.{is_thread}
use Rattle.object_types.specs.Values.{truth}
use Rattle.object_types.specs.Heap.{Heap}
use Rattle.method.specs.declared.program.Expr.{Expr}
use Rattle.method.specs.declared.program.FunctionInfo.{FunctionInfo}
use Rattle.method.specs.declared.program.Program.{Program}
use Rattle.method.specs.Typing.{WellTyped}
use Rattle.method.specs.Expressions.{Context, Spot as MachineSpot, Gave, eval}
use Rattle.method.specs.Actions.{Progress, Chosen, spot, starting}
use Rattle.method.specs.LocalRuns.{FailsAt}
use Rattle.term_meaning.specs.Meaning.{Language}
use Rattle.conditions.specs.Symbolic.{test as tested_as}
use Rattle.conditions.specs.Formulas.{not'}
use Rattle.conditions.specs.Paths.{facts}
use Rattle.conditions.specs.Code.{Spot, State, code}
use Rattle.conditions.specs.Ways.{AllHold, FailsIn}
use Rattle.conditions.proofs.Tests.{plain, tests, ends_eval, ends_all}
use Rattle.conditions.proofs.FailingTests.{ends_false}
use Rattle.condition_meaning.proofs.Environments.{Environment, Is, is_not}
use Rattle.condition_meaning.proofs.Known.{Known, known_by}
use Rattle.condition_walks.proofs.Fitting.{FitsExpr}
use Rattle.action_conditions.proofs.Places.{Stated, stands_test}
use Rattle.action_conditions.proofs.Stores.{code_tested, code_stands}
use Rattle.action_conditions.proofs.Scopes.{fits_expr}
use Rattle.action_conditions.proofs.Steady.{Steady}
use Rattle.action_conditions.proofs.Back.{known_tested, unknown_tested}

module _ (l : Language) (typed : WellTyped l.program) (t : Ref) (f : FunctionInfo) (x : Context) (mine : x.me ≡ t) (thread : is_thread x.me ≡ true) (a : Spot) where
  abbrev P : Program
  P = l.program

  module _ (hid : ℕ → Bool) (line n : ℕ) (y : Expr) (st : State) (h : Heap) (v : List Value) (fit : FitsExpr P x.function f hid y) (s : Steady P f h v) (e : Environment l t) (k : Stated l t hid a (spot x [] line) st h v e) where
    abbrev here : MachineSpot
    here = spot x [] line

    abbrev g0 : Progress
    g0 = starting h v (Chosen [])

    abbrev value : Value
    value = plain P here h v y

    pub code_back : AllHold (Environment l t) (Known l t) e (facts (code P a st y).path)
        → ((eval P here h v y n).end ≡ Gave value) × ((IsTrue (truth value) × Known l t e (tested_as (code P a st y).gives)) ⊎ (IsFalse (truth value) × Known l t e (not' (tested_as (code P a st y).gives))))
    code_back all =
        let fits = fits_expr P x.function f hid y fit in
        let told = code_tested l typed t f a here mine thread refl hid e st g0 s k y fits in (
          ends_all (tests P here h v y) n value (eval P here h v y n) (ends_eval P here h v y n) (known_tested l t e (code P a st y).path (tests P here h v y) told all),
          by_truth (truth value) refl (stands_test l t e (code P a st y).gives value (code_stands l typed t f a here mine thread refl hid e st g0 s k y fits)),
        )
      where
        by_truth : (b : Bool) → truth value ≡ b → Is l t e (tested_as (code P a st y).gives) (truth value) → (IsTrue (truth value) × Known l t e (tested_as (code P a st y).gives)) ⊎ (IsFalse (truth value) × Known l t e (not' (tested_as (code P a st y).gives)))
        by_truth true d i = inl (d, known_by l t e (tested_as (code P a st y).gives) (truth value) i d)
        by_truth false d i = inr (d, known_by l t e (not' (tested_as (code P a st y).gives)) (not (truth value)) (is_not l t e (tested_as (code P a st y).gives) (truth value) i) (ap not d))

    pub code_fails_back : (label : ℕ) → FailsIn (Environment l t) (Known l t) label n (code P a st y).path e → FailsAt label (eval P here h v y n)
    code_fails_back label r =
        ends_false (tests P here h v y) n label value (eval P here h v y n) (ends_eval P here h v y n)
        (unknown_tested l t e label n (code P a st y).path (tests P here h v y) (code_tested l typed t f a here mine thread refl hid e st g0 s k y (fits_expr P x.function f hid y fit)) r)

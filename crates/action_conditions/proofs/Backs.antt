-- The way back along a path of checks: in an environment where its facts hold all tests pass, and where one of its checks fails the run fails it.
use Rattle.std.proofs.Common.{◌≡◌, ℕ, suc, ⊎_elim, Bool, true, false, List, [], ◌∷◌, refl}
use Rattle.conditions.proofs.FailingTests.{ends_false}
use Rattle.object_types.specs.declared.references.Ref.{Ref}
use Rattle.object_types.specs.declared.values.Value.{Value}
use Rattle.object_types.specs.Heap.{Heap}
use Rattle.method.specs.Expressions.{Spot as MachineSpot, Outcome, Gave}
use Rattle.method.specs.Actions.{Progress}
use Rattle.method.specs.LocalRuns.{FailsAt}
use Rattle.term_meaning.specs.Meaning.{Language}
use Rattle.conditions.specs.Paths.{Path, Done, Check, Fact, Branch, Standalone as Apart, Execution, facts}
use Rattle.conditions.specs.Code.{Spot, State}
use Rattle.conditions.specs.Ways.{AllHold, FailsIn}
use Rattle.conditions.proofs.Tests.{AllTrue, FirstFalse, ends_all}
use Rattle.conditions.proofs.PathTests.{IsChecks, InOrder, Tested}
use Rattle.condition_meaning.proofs.Environments.{Environment, Is, Holds, holds_is, is_false}
use Rattle.action_conditions.proofs.Places.{Stated}
use Rattle.action_conditions.proofs.Alone.{Alone}

module _ (l : Language) (t : Ref) (e : Environment l t) where
  abbrev E : Type 0
  E = Environment l t

  facts_passed : (q : Path) (bs : List Bool) → IsChecks q → InOrder (Is l t e) (facts q) bs → AllHold E (Holds l t) e (facts q) → AllTrue bs
  facts_passed Done [] c k h = tt
  facts_passed Done (b ∷ bs) c k h = absurd k
  facts_passed (Check f q) [] c k h = absurd k
  facts_passed (Check f q) (true ∷ bs) c k h = facts_passed q bs c (k.1 refl) h.1
  facts_passed (Check f q) (false ∷ bs) c k h = absurd (is_false l t e f k.0 h.0)
  facts_passed (Fact f q) bs c k h = absurd c
  facts_passed (Branch b q) bs c k h = absurd c
  facts_passed (Apart f q) bs c k h = absurd c

  facts_failed : (label n : ℕ) (q : Path) (bs : List Bool) → IsChecks q → InOrder (Is l t e) (facts q) bs → FailsIn E (Holds l t) label n q e → FirstFalse label n bs
  facts_failed label n Done bs c k z = absurd z
  facts_failed label n (Check f q) [] c k z = absurd k
  facts_failed label n (Check f q) (true ∷ bs) c k z = ⊎_elim (λ y. absurd (y.1 (holds_is l t e f k.0))) (λ y. facts_failed label (suc n) q bs c (k.1 refl) y.1) z
  facts_failed label n (Check f q) (false ∷ bs) c k z = ⊎_elim (λ y. y.0) (λ y. absurd (is_false l t e f k.0 y.0)) z
  facts_failed label n (Fact f q) bs c k z = absurd c
  facts_failed label n (Branch b q) bs c k z = absurd c
  facts_failed label n (Apart f q) bs c k z = absurd c

  -- where the path's facts hold, each test passes; where its check fails, that test is the first that doesn't
  pub passed_back : (q : Path) (bs : List Bool) → Tested (Is l t e) q bs → AllHold E (Holds l t) e (facts q) → AllTrue bs
  passed_back q bs x h = facts_passed q bs x.only_checks x.all h

  pub failed_back : (label n : ℕ) (q : Path) (bs : List Bool) → Tested (Is l t e) q bs → FailsIn E (Holds l t) label n q e → FirstFalse label n bs
  failed_back label n q bs x z = facts_failed label n q bs x.only_checks x.all z

  -- the run of an action that is checks and an effect
  module _ (a : Spot) (at_ : MachineSpot) (hid hid' : ℕ → Bool) (n : ℕ) (o : Outcome Progress) (st : State) (h : Heap) (v : List Value) (q : Execution State) (x : Alone l t a at_ hid hid' n o st h v q) (here : Stated l t hid a at_ st h v e) where
    pub alone_back : AllHold E (Holds l t) e (facts q.path) → (o.end ≡ Gave x.result) × Stated l t hid' a at_ q.gives x.result.heap x.result.locals e
    alone_back k =
        let b = passed_back q.path x.passed (x.tested e here) k in
        (ends_all x.passed n x.result o x.ends b, x.stated e here b)

    pub alone_fails_back : (label : ℕ) → FailsIn E (Holds l t) label n q.path e → FailsAt label o
    alone_fails_back label z = ends_false x.passed n label x.result o x.ends (failed_back label n q.path x.passed (x.tested e here) z)

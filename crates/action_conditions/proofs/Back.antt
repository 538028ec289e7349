-- From an environment to a run: expressions, and actions that are checks and an effect. What is known true, and what is a heap of the program, is as the induction takes it.
use Rattle.std.proofs.Common.{◌≡◌, ℕ, Bool, true, List, refl}
use Rattle.object_types.specs.declared.references.Ref.{Ref}
use Rattle.object_types.specs.declared.values.Value.{Value}
use Rattle.object_types.specs.Heap.{Heap}
use Rattle.method.specs.Expressions.{Spot as MachineSpot, Outcome, Gave}
use Rattle.method.specs.Actions.{Progress}
use Rattle.method.specs.LocalRuns.{FailsAt}
use Rattle.terms.specs.Formula.{Formula}
use Rattle.term_meaning.specs.Meaning.{Language}
use Rattle.axiom_instances.proofs.Kit.{given_has}
use Rattle.conditions.specs.Paths.{Execution, Path, facts}
use Rattle.conditions.specs.Code.{Spot, State}
use Rattle.conditions.specs.Ways.{AllHold, FailsIn}
use Rattle.conditions.proofs.Tests.{AllTrue, FirstFalse, ends_all}
use Rattle.conditions.proofs.PathTests.{Tested}
use Rattle.conditions.proofs.FailingTests as back
use Rattle.condition_meaning.proofs.Environments.{Environment, Is}
use Rattle.condition_meaning.proofs.Known.{Known, known_by}
use Rattle.action_conditions.proofs.Places.{Stated}
use Rattle.action_conditions.proofs.Alone.{Alone}

module _ (l : Language) (t : Ref) where
  is_known : (e : Environment l t) (x : Formula) → Is l t e x true → Known l t e x
  is_known e x i = known_by l t e x true i refl

  known_is : (e : Environment l t) (x : Formula) (b : Bool) → Is l t e x b → Known l t e x → b ≡ true
  known_is e x b i k = given_has i k

  -- where what a path of checks says is known, its tests pass; where a check isn't known true, it is the first false test
  pub known_tested : (e : Environment l t) (q : Path) (bs : List Bool) → Tested (Is l t e) q bs → AllHold (Environment l t) (Known l t) e (facts q) → AllTrue bs
  known_tested e q bs k h = back.tested_true (Environment l t) e (Known l t) (Is l t e) (is_known e) (known_is e) q bs k h

  pub unknown_tested : (e : Environment l t) (label n : ℕ) (q : Path) (bs : List Bool) → Tested (Is l t e) q bs → FailsIn (Environment l t) (Known l t) label n q e → FirstFalse label n bs
  unknown_tested e label n q bs k y = back.tested_false (Environment l t) e (Known l t) (Is l t e) (is_known e) (known_is e) label n q bs k y

  module _ (a : Spot) (at_ : MachineSpot) (hid hid' : ℕ → Bool) (n : ℕ) (o : Outcome Progress) (st : State) (h : Heap) (v : List Value) (q : Execution State) (x : Alone l t a at_ hid hid' n o st h v q) where
    -- where what its path says is known, the action gives its result, for which the path's end stands
    pub alone_back : (e : Environment l t) → Stated l t hid a at_ st h v e → AllHold (Environment l t) (Known l t) e (facts q.path) → (g : Progress) × (o.end ≡ Gave g) × Stated l t hid' a at_ q.gives g.heap g.locals e
    alone_back e k all =
        let b = known_tested e q.path x.passed (x.tested e k) all in
        (x.result, ends_all x.passed n x.result o x.ends b, x.stated e k b)

    -- where a check of its path isn't known true, it fails there
    pub alone_fails_back : (e : Environment l t) (label : ℕ) → Stated l t hid a at_ st h v e → FailsIn (Environment l t) (Known l t) label n q.path e → FailsAt label o
    alone_fails_back e label k y = back.ends_false x.passed n label x.result o x.ends (unknown_tested e label n q.path x.passed (x.tested e k) y)

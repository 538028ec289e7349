-- An action that is checks and an effect, in the run and on its path.
use Rattle.std.proofs.Common.{◌≡◌, ℕ, Bool, List, subst}
use Rattle.object_types.specs.declared.references.Ref.{Ref}
use Rattle.object_types.specs.declared.values.Value.{Value}
use Rattle.object_types.specs.Heap.{Heap}
use Rattle.method.specs.Expressions.{Spot as MachineSpot, Outcome, Gave}
use Rattle.method.specs.Actions.{Progress}
use Rattle.method.specs.LocalRuns.{FailsAt}
use Rattle.term_meaning.specs.Meaning.{Language}
use Rattle.conditions.specs.Paths.{Execution}
use Rattle.conditions.specs.Code.{Spot, State}
use Rattle.conditions.proofs.FromRuns.{IsWithin, count_of}
use Rattle.conditions.proofs.Tests.{AllTrue, Ends, ends_gave, ends_failed}
use Rattle.conditions.proofs.PathTests.{Tested}
use Rattle.condition_meaning.proofs.Environments.{Environment, Is}
use Rattle.action_conditions.proofs.Places.{Stated}
use Rattle.action_conditions.proofs.Goes.{Goes, Fails, goes_tested, fails_tested}

module _ (l : Language) (t : Ref) (a : Spot) (at_ : MachineSpot) where
  -- It ends at the first of these tests that is false, and otherwise there; and so does its path.
  pub record Alone (hid hid' : ℕ → Bool) (n : ℕ) (o : Outcome Progress) (st : State) (h : Heap) (v : List Value) (q : Execution State) : Type 0 where
    pub passed : List Bool
    pub result : Progress
    pub ends : Ends passed n result o
    pub within : IsWithin (count_of st) (count_of q.gives)
    pub tested : (e : Environment l t) → Stated l t hid a at_ st h v e → Tested (Is l t e) q.path passed
    pub stated : (e : Environment l t) → Stated l t hid a at_ st h v e → AllTrue passed → Stated l t hid' a at_ q.gives result.heap result.locals e

  module _ (hid hid' : ℕ → Bool) (n : ℕ) (o : Outcome Progress) (st : State) (h : Heap) (v : List Value) (q : Execution State) (x : Alone hid hid' n o st h v q) where
    pub alone_goes : (g : Progress) → o.end ≡ Gave g → Goes l t (count_of st) (count_of q.gives) q.path (Stated l t hid a at_ st h v) (Stated l t hid' a at_ q.gives g.heap g.locals)
    alone_goes g e =
        let z = ends_gave x.passed n x.result g o x.ends e in
        subst (λ (g : Progress). Goes l t (count_of st) (count_of q.gives) q.path (Stated l t hid a at_ st h v) (Stated l t hid' a at_ q.gives g.heap g.locals)) z.1
        (goes_tested l t (count_of st) (count_of q.gives) q.path x.passed (Stated l t hid a at_ st h v) (Stated l t hid' a at_ q.gives x.result.heap x.result.locals) x.within z.0 (λ e k. (x.tested e k, x.stated e k)))

    pub alone_fails : (label : ℕ) → FailsAt label o → Fails l t label n (count_of st) (count_of q.gives) q.path (Stated l t hid a at_ st h v)
    alone_fails label e = fails_tested l t label n (count_of st) (count_of q.gives) q.path x.passed (Stated l t hid a at_ st h v) x.within (ends_failed x.passed n label e.0 e.1 x.result o x.ends e.2) x.tested

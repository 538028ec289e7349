-- A branch: its two ways, and what is known behind them.
use Rattle.std.specs.Prelude.{◌≡◌, ℕ, Bool, List}
use Rattle.std.proofs.Common.{subst}
use Rattle.terms.specs.declared.term.Term.{Term}
use Rattle.terms.specs.Formula.{Formula}
use Rattle.conditions.specs.Code as spec
use Rattle.conditions.specs.Formulas.{not'}
use Rattle.conditions.specs.Paths.{Execution}
use Rattle.conditions.specs.Actions.{join, branches_end, join_branches}
use Rattle.condition_formulas.specs.Standing.{Later}
use Rattle.condition_formulas.proofs.Rows.{all_later}
use Rattle.condition_code.specs.declared.state.State.{State}
use Rattle.condition_code.specs.declared.walk.Step.{Step}
use Rattle.condition_code.specs.declared.walk.Walk.{Walk}
use Rattle.condition_code.specs.States.{IsState}
use Rattle.condition_code.specs.Walks.{GoesTo}
use Rattle.condition_code.proofs.States.{state_later}
use Rattle.condition_code.proofs.Walks.{branch_then}
use Rattle.condition_branches.specs.declared.ways.Way.{Way}
use Rattle.condition_branches.specs.Ways.{IsWay, EndsWay}

pub way_later : {old new : List Term} {c : Way} {x : Execution spec.State} → Later old new → IsWay old c x → IsWay new c x
way_later later h = record { state = state_later later h.state; facts = all_later later h.facts }

-- What the ends of both ways and what is known behind them come to. With y = second (with_counters s x.gives) this is
-- `conditional_on declared s f a b x second`.
pub branches_ran : {start turned joined : Walk} {new : List Term} {behind : List Step} {c d : Way} {r : State} {f : Formula} {x y : Execution spec.State} (declared : List ℕ) (s : spec.State) (a b : Bool) → c.returns ≡ a → d.returns ≡ b → EndsWay start turned c f x → EndsWay turned joined d (not' f) y → GoesTo IsState joined.graph new joined.path.items behind r (branches_end s f c.returns d.returns x y (join declared s x.gives y.gives)) → GoesTo IsState start.graph new start.path.items behind r (join_branches declared s f a b x y)
branches_ran {start} {turned} {joined} {new} {behind} {c} {d} {r} {f} {x} {y} declared s a b one other first second last =
    let known : GoesTo IsState joined.graph new joined.path.items behind r (branches_end s f a b x y (join declared s x.gives y.gives)) =
    subst (λ (v : Bool). GoesTo IsState joined.graph new joined.path.items behind r (branches_end s f a v x y (join declared s x.gives y.gives))) other (subst (λ (u : Bool). GoesTo IsState joined.graph new joined.path.items behind r (branches_end s f u d.returns x y (join declared s x.gives y.gives))) one last) in
    branch_then first.went (branch_then second.went known)

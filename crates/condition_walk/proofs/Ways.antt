-- Both ways of a branch, put together.
use Rattle.std.specs.Prelude.{Bool, List, ℕ}
use Rattle.terms.specs.declared.term.Term.{Term}
use Rattle.terms.specs.Formula.{Formula}
use Rattle.conditions.specs.Actions.{branches_end, join, join_branches}
use Rattle.conditions.specs.Code as spec
use Rattle.conditions.specs.Formulas.{not'}
use Rattle.conditions.specs.Paths.{Execution}
use Rattle.condition_formulas.specs.Standing.{Later}
use Rattle.condition_formulas.proofs.Rows.{all_later}
use Rattle.condition_code.specs.declared.state.State.{State}
use Rattle.condition_code.specs.declared.walk.Step.{Step}
use Rattle.condition_code.specs.declared.walk.Walk.{Walk}
use Rattle.condition_code.specs.States.{IsState}
use Rattle.condition_code.specs.Walks.{GoesTo}
use Rattle.condition_code.proofs.States.{state_later}
use Rattle.condition_code.proofs.Walks.{branch_then}
use Rattle.condition_branches.specs.declared.ways.Way.{Way}
use Rattle.condition_branches.specs.Ways.{IsWay, EndsWay}
use Rattle.condition_control.specs.declared.forks.Fork.{Fork}
use Rattle.condition_control.specs.Forks.{IsFork}

pub way_later : {old new : List Term} {c : Way} {x : Execution spec.State} → Later old new → IsWay old c x → IsWay new c x
way_later later h = record { state = state_later later h.state; facts = all_later later h.facts }

pub fork_later : {old new : List Term} {c : Fork} {v : spec.ValueAndState} → Later old new → IsFork old c v → IsFork new c v
fork_later later h = record { state_is = state_later later h.state_is; test_is = later _ _ h.test_is; fails_is = later _ _ h.fails_is }

-- one way, the other, and what is known behind both
pub both_ways : {start mid near : Walk} {g : List Term} {p : List Step} {c d : Way} {r : State} {b : Formula} {x y : Execution spec.State} (declared : List ℕ) (s : spec.State) (q q' : Bool) → EndsWay start mid c b x → EndsWay mid near d (not' b) y → GoesTo IsState near.graph g near.path.items p r (branches_end s b q q' x y (join declared s x.gives y.gives)) → GoesTo IsState start.graph g start.path.items p r (join_branches declared s b q q' x y)
both_ways declared s q q' first second last = branch_then first.went (branch_then second.went last)

use Rattle.std.proofs.Common.{sym, ◌∙◌, subst}
use Rattle.conditions.specs.Actions.{Joined}
use Rattle.condition_branches.specs.Joins.{IsJoined}
use Rattle.condition_branches.proofs.Joining.{same_heaps, other_heaps}
use Rattle.condition_branches.proofs.joins.join_heaps.Goals as goal

pub returns-then-same-clause-stands : goal.returns-then-same-clause-stands
returns-then-same-clause-stands c = λ h j hh hj.
    subst (λ (k : Joined). IsJoined c.args.graph.now c.args.joined k) (same_heaps h j (sym (c.same.ensures h j.state.heap hh hj.state_is.heap_is) ∙ c.if-same.true)) hj

pub returns-clause-stands : goal.returns-clause-stands
returns-clause-stands c = λ h j hh hj.
    subst (λ (k : Joined). IsJoined c.heap_joint.new.graph c.in_ok-behind.behind k) (other_heaps h j (sym (c.same.ensures h j.state.heap hh hj.state_is.heap_is) ∙ c.if-same.false)) (c.in_ok-behind.ensures.stands h j hh hj)

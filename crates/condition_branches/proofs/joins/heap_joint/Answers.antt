use Rattle.conditions.specs.Actions.{Joint, equal_first, equal_second}
use Rattle.conditions.specs.Code.{new_heap}
use Rattle.condition_formulas.specs.Standing.{Later}
use Rattle.condition_formulas.proofs.Rows.{all_later}
use Rattle.condition_formulas.proofs.Symbolics.{are_later}
use Rattle.condition_code.proofs.States.{state_later}
use Rattle.condition_branches.proofs.Joining.{one_equation}
use Rattle.condition_branches.proofs.joins.heap_joint.Goals as goal

pub returns-clause-stands : goal.returns-clause-stands
returns-clause-stands c = λ h j hh hj.
    let joint : Joint = record { new = (new_heap j.state).heap; first = h; second = j.state.heap } in
    let later : Later c.new_heap.new.graph c.eq-2.new.graph = λ n f g. c.in_ok-other.ensures.later n f (c.in_ok-one.ensures.later n f g) in
    let kept : Later c.args.graph.now c.eq-2.new.graph = λ n f g. later n f (c.in_ok-behind.ensures.later n f g) in
    let behind = c.in_ok-behind.ensures.stands j.state hj.state_is in
    let one = c.in_ok-one.ensures.stands _ _ behind.heap_is (c.in_ok-behind.ensures.later _ _ hh) in
    let other = c.in_ok-other.ensures.stands _ _ (c.in_ok-one.ensures.later _ _ behind.heap_is) (c.in_ok-one.ensures.later _ _ (c.in_ok-behind.ensures.later _ _ hj.state_is.heap_is)) in
    record {
      locals_are = are_later kept hj.locals_are;
      first_are = one_equation equal_first j.joints joint (all_later kept hj.first_are) (c.in_ok-other.ensures.later _ _ one) c.in_ok-push.ensures.items;
      second_are = one_equation equal_second j.joints joint (all_later kept hj.second_are) other c.in_ok-push-2.ensures.items;
      state_is = state_later later behind;
    }

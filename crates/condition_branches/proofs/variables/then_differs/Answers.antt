use Rattle.conditions.specs.Actions.{Joint, equal_first, equal_second, new_like}
use Rattle.conditions.specs.Code.{ValueAndState}
use Rattle.conditions.specs.Symbolic.{term}
use Rattle.condition_formulas.specs.Standing.{Later}
use Rattle.condition_formulas.proofs.Rows.{all_later}
use Rattle.condition_formulas.proofs.Symbolics.{symbolic_later, are_later}
use Rattle.condition_code.proofs.Codes.{then_value}
use Rattle.condition_code.proofs.States.{same_values, state_later}
use Rattle.condition_branches.proofs.Joining.{one_equation}
use Rattle.condition_branches.proofs.variables.then_differs.Goals as goal

pub returns-clause-stands : goal.returns-clause-stands
returns-clause-stands c = λ j x y hj hx hy.
    let v : ValueAndState = new_like x j.state in
    let joint : Joint = record { new = term v.value; first = term x; second = term y } in
    let later : Later c.new_like.new.graph c.equation-2.new.graph = λ n f h. c.in_ok-other.ensures.later n f (c.in_ok-one.ensures.later n f h) in
    let kept : Later c.args.graph.now c.equation-2.new.graph = λ n f h. later n f (c.in_ok-made.ensures.later n f h) in
    let made = c.in_ok-made.ensures.stands x j.state hx hj.state_is in
    let one = c.in_ok-one.ensures.stands _ _ made.value_is (symbolic_later c.in_ok-made.ensures.later hx) in
    let other = c.in_ok-other.ensures.stands _ _ (symbolic_later c.in_ok-one.ensures.later made.value_is) (symbolic_later c.in_ok-one.ensures.later (symbolic_later c.in_ok-made.ensures.later hy)) in
    record {
      locals_are = same_values c.in_ok-push.ensures.items (then_value (are_later kept hj.locals_are) (symbolic_later later made.value_is));
      first_are = one_equation equal_first j.joints joint (all_later kept hj.first_are) (c.in_ok-other.ensures.later _ _ one) c.in_ok-push-2.ensures.items;
      second_are = one_equation equal_second j.joints joint (all_later kept hj.second_are) other c.in_ok-push-3.ensures.items;
      state_is = state_later later made.state_is;
    }

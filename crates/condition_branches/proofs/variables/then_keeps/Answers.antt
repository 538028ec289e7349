use Rattle.condition_code.proofs.Codes.{then_value}
use Rattle.condition_code.proofs.States.{same_values}
use Rattle.condition_branches.proofs.variables.then_keeps.Goals as goal

pub returns : goal.returns
returns c = λ ts j w hj hw. record {
  locals_are = same_values c.in_ok-push.ensures.items (then_value hj.locals_are hw);
  first_are = hj.first_are;
  second_are = hj.second_are;
  state_is = hj.state_is;
}

use Rattle.condition_formulas.proofs.Rows.{none, same_ids}
use Rattle.condition_code.proofs.States.{no_values, same_values}
use Rattle.condition_branches.proofs.variables.Joined.new.Goals as goal

pub returns : goal.returns
returns c = λ ts s hs. record {
  locals_are = same_values c.new.ensures.items no_values;
  first_are = same_ids c.new-2.ensures.items none;
  second_are = same_ids c.new-3.ensures.items none;
  state_is = hs;
}

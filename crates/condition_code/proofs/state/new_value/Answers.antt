use Rattle.condition_code.proofs.Walks.{run_built}
use Rattle.condition_code.proofs.state.new_value.Goals as goal

pub returns : goal.returns
returns c = λ s hs. run_built c.in_ok-v.ensures.later (c.in_ok-value.ensures _ (c.in_ok-v.ensures.stands _ hs))

use Rattle.converse_law.proofs.SharedSample.{shared_conditions_are_valid}
use Rattle.converse_law.proofs.laws.shared_conditions_are_valid.Goals as goal

pub returns : goal.returns
returns c = shared_conditions_are_valid

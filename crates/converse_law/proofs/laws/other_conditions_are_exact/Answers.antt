use Rattle.converse_law.proofs.Exact.{other_conditions_are_exact}
use Rattle.converse_law.proofs.laws.other_conditions_are_exact.Goals as goal

pub returns : goal.returns
returns c = other_conditions_are_exact

use Rattle.converse_law.proofs.StartSample.{start_is_locally_safe}
use Rattle.converse_law.proofs.laws.premises_are_met_by_a_start.Goals as goal

pub returns : goal.returns
returns c = start_is_locally_safe

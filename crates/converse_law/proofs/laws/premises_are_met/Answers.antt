use Rattle.converse_law.proofs.Samples.{store_is_locally_safe}
use Rattle.converse_law.proofs.laws.premises_are_met.Goals as goal

pub returns : goal.returns
returns c = store_is_locally_safe

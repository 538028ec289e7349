use Rattle.converse_law.proofs.Exact.{conditions_mean_exactly}
use Rattle.converse_law.proofs.laws.conditions_mean_exactly.Goals as goal

pub returns : goal.returns
returns c = conditions_mean_exactly

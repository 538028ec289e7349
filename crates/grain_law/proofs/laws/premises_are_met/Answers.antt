use Rattle.grain_law.proofs.Samples.{shared_is_safe_in_fine_steps, equality_is_safe_in_fine_steps}
use Rattle.grain_law.proofs.laws.premises_are_met.Goals as goal

pub returns : goal.returns
returns c = record { shared = shared_is_safe_in_fine_steps; equality = equality_is_safe_in_fine_steps }

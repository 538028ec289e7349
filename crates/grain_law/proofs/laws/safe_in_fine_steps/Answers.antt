use Rattle.grain_law.proofs.Law.{safe_is_safe_in_fine_steps}
use Rattle.grain_law.proofs.Converse.{safe_in_fine_steps_is_safe}
use Rattle.grain_law.proofs.laws.safe_in_fine_steps.Goals as goal

pub returns : goal.returns
returns c = record { suffices = safe_is_safe_in_fine_steps; back = safe_in_fine_steps_is_safe }

use Rattle.grain_law.proofs.Law.{conditions_mean_safe_in_fine_steps}
use Rattle.grain_law.proofs.laws.conditions_mean_safe_in_fine_steps.Goals as goal

pub returns : goal.returns
returns c = record { conditions = conditions_mean_safe_in_fine_steps }

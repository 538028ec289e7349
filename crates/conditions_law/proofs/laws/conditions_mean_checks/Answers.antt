use Rattle.conditions_law.proofs.Safety.{local_ok_by_condition}
use Rattle.conditions_law.proofs.laws.conditions_mean_checks.Goals as goal

pub returns : goal.returns
returns c = local_ok_by_condition

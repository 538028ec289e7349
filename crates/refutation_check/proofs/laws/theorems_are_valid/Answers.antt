use Rattle.refutation_check.proofs.Sound.{theorems_valid}
use Rattle.refutation_check.proofs.laws.theorems_are_valid.Goals as goal

pub returns : goal.returns
returns c = theorems_valid

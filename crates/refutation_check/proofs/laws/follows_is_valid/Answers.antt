use Rattle.refutation_check.proofs.Sound.{follows_valid}
use Rattle.refutation_check.proofs.laws.follows_is_valid.Goals as goal

pub returns : goal.returns
returns c = follows_valid

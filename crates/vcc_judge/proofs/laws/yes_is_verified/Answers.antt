use Rattle.vcc_judge.proofs.Verified.{yes_is_verified}
use Rattle.vcc_judge.proofs.laws.yes_is_verified.Goals as goal

pub returns : goal.returns
returns c = yes_is_verified

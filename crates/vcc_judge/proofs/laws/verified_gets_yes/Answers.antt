use Rattle.vcc_judge.proofs.Verified.{verified_gets_yes}
use Rattle.vcc_judge.proofs.laws.verified_gets_yes.Goals as goal

pub returns : goal.returns
returns c = verified_gets_yes

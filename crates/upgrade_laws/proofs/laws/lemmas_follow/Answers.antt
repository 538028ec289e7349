use Rattle.upgrade_laws.proofs.Kept.{lemmas_follow}
use Rattle.upgrade_laws.proofs.laws.lemmas_follow.Goals as goal

pub returns : goal.returns
returns c = lemmas_follow

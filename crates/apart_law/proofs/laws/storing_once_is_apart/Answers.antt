use Rattle.apart_law.proofs.Apart.{storing_once_is_apart}
use Rattle.apart_law.proofs.laws.storing_once_is_apart.Goals as goal

pub returns : goal.returns
returns c = storing_once_is_apart

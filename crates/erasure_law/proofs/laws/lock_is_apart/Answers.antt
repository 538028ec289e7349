use Rattle.erasure_law.proofs.Samples.{lock_is_apart}
use Rattle.erasure_law.proofs.laws.lock_is_apart.Goals as goal

pub returns : goal.returns
returns c = lock_is_apart

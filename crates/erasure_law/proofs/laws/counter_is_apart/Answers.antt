use Rattle.erasure_law.proofs.Samples.{counter_is_apart}
use Rattle.erasure_law.proofs.laws.counter_is_apart.Goals as goal

pub returns : goal.returns
returns c = counter_is_apart

use Rattle.erasure_runs.proofs.Back.{counter_is_safe_plain}
use Rattle.erasure_runs.proofs.laws.counter_is_safe_plain.Goals as goal

pub returns : goal.returns
returns c = counter_is_safe_plain

use Rattle.erasure_runs.proofs.Back.{safe_is_safe_plain}
use Rattle.erasure_runs.proofs.laws.safe_is_safe_plain.Goals as goal

pub returns : goal.returns
returns c = safe_is_safe_plain

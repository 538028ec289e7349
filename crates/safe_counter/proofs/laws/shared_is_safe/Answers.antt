use Rattle.safe_counter.proofs.Safe.{shared_is_safe}
use Rattle.safe_counter.proofs.laws.shared_is_safe.Goals as goal

pub returns : goal.returns
returns c = shared_is_safe

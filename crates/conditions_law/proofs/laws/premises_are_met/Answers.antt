use Rattle.conditions_law.proofs.Samples.{shared_is_verifiable, store_is_verifiable}
use Rattle.conditions_law.proofs.laws.premises_are_met.Goals as goal

pub returns : goal.returns
returns c = record { shared = shared_is_verifiable; store = store_is_verifiable }

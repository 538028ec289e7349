use Rattle.converse_law.proofs.Releases.{release_is_locally_safe}
use Rattle.converse_law.proofs.laws.premises_are_met_by_a_claims_end.Goals as goal

pub returns : goal.returns
returns c = release_is_locally_safe

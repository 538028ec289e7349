use Rattle.converse_law.proofs.Exact.{stable_sites_suffice}
use Rattle.converse_law.proofs.laws.stable_sites_suffice.Goals as goal

pub returns : goal.returns
returns c = stable_sites_suffice

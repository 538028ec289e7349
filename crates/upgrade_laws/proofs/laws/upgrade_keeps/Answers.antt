use Rattle.upgrade_laws.proofs.Kept.{first_versions, same_blocks, upgrade_keeps}
use Rattle.upgrade_laws.proofs.laws.upgrade_keeps.Goals as goal

pub returns : goal.returns
returns c = record { first = first_versions; blocks = same_blocks; follow = upgrade_keeps }

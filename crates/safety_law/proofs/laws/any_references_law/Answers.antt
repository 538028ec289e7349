use Rattle.safety_law.proofs.Respect.{any_references_law}
use Rattle.safety_law.proofs.laws.any_references_law.Goals as goal

pub returns : goal.returns
returns c = any_references_law

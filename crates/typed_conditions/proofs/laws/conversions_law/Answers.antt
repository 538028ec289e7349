use Rattle.typed_conditions.proofs.Conversions.{conversions_law}
use Rattle.typed_conditions.proofs.laws.conversions_law.Goals as goal

pub returns : goal.returns
returns c = conversions_law

use Rattle.method.proofs.SameHeaps.{same_records_law}
use Rattle.method.proofs.laws.same_records_law.Goals as goal

pub returns : goal.returns
returns c = same_records_law

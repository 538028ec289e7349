use Rattle.method.proofs.Starts.{start_law}
use Rattle.method.proofs.laws.start_law.Goals as goal

pub returns : goal.returns
returns c = start_law

use Rattle.erasure_law.proofs.Reached.{code_stays_apart}
use Rattle.erasure_law.proofs.laws.code_stays_apart.Goals as goal

pub returns : goal.returns
returns c = code_stays_apart

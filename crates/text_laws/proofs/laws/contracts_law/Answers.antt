use Rattle.text_laws.proofs.Texts.{contracts_law}
use Rattle.text_laws.proofs.laws.contracts_law.Goals as goal

pub returns : goal.returns
returns c = contracts_law

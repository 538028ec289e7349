use Rattle.text_laws.proofs.Texts.{text_law}
use Rattle.text_laws.proofs.laws.text_law.Goals as goal

pub returns : goal.returns
returns c = text_law

use Rattle.apart_law.proofs.Texts.{texts_are_of_c}
use Rattle.apart_law.proofs.laws.texts_are_of_c.Goals as goal

pub returns : goal.returns
returns c = texts_are_of_c

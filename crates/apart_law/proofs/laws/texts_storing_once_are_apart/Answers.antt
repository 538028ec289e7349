use Rattle.apart_law.proofs.Texts.{texts_storing_once_are_apart}
use Rattle.apart_law.proofs.laws.texts_storing_once_are_apart.Goals as goal

pub returns : goal.returns
returns c = texts_storing_once_are_apart

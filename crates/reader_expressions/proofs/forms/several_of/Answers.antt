use Rattle.reader_expressions.proofs.Vectors.{several}
use Rattle.reader_expressions.proofs.forms.several_of.Goals as goal

pub returns : goal.returns
returns c = several c.args.span c.args.word c.args.all

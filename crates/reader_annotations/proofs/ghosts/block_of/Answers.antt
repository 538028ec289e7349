use Rattle.reader_annotations.proofs.Vectors.{block}
use Rattle.reader_annotations.proofs.ghosts.block_of.Goals as goal

pub returns : goal.returns
returns c = block c.args.span c.args.all

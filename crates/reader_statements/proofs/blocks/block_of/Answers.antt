use Rattle.reader_statements.proofs.Vectors.{block}
use Rattle.reader_statements.proofs.blocks.block_of.Goals as goal

pub returns : goal.returns
returns c = block c.args.block.start c.args.block.statements c.args.block.end

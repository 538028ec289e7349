use Rattle.std.proofs.Common.{ap, sym, ◌∙◌}
use Rattle.reader_statements.specs.Views.{braces, holding}
use Rattle.reader_statements.proofs.Vectors.{unwrapping, atomic}
use Rattle.reader_statements.proofs.blocks.annotation_of.Goals as goal

pub returns-in-Unwrapping : goal.returns-in-Unwrapping
returns-in-Unwrapping c = unwrapping _ _ c.args.block.statements c.args.block.end ∙ ap (λ x. holding x (braces c.args.block)) (sym c.in-Unwrapping.is)

pub returns-in-Atomic : goal.returns-in-Atomic
returns-in-Atomic c = atomic _ c.in-Atomic.objects c.args.block.statements c.args.block.end ∙ ap (λ x. holding x (braces c.args.block)) (sym c.in-Atomic.is)

use Rattle.std.specs.Prelude.{codes}
use Rattle.vcc_lexer.proofs.Skipping.{stripped, line_skips, block_skips}
use Rattle.vcc_lexer.proofs.gaps.comment.Goals as goal

pub returns-in-Some : goal.returns-in-Some
returns-in-Some c = λ column p e. line_skips p c.args.text.now c.in-Some.line.now c.run.result (stripped c.args.text.now (codes "//") c.in-Some.line c.in-Some.ensures.cases) (record { within = c.run.ensures.within; all = c.run.ensures.all; ends = c.run.ensures.ends })

pub returns : goal.returns
returns c = λ column p e. block_skips p c.args.text.now c.in-Some-strip_prefix.body.now c.in-Some-body_length.length (stripped c.args.text.now (codes "/*") c.in-Some-strip_prefix.body c.in-Some-strip_prefix.ensures.cases) c.in-Some-body_length.ensures

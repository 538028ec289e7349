use Rattle.std.proofs.Common.{◌∙◌, ap, length}
use Rattle.upgrade_blocks.proofs.Counts.{no_formula, some_holes}
use Rattle.upgrade_blocks.proofs.arguments.hole_count.Goals as goal

pub returns-in_default : goal.returns-in_default
returns-in_default c = λ l same. no_formula c.args.quantified.now l c.args.number same c.in_default.ensures.none

pub returns : goal.returns
returns c = λ l same. ap length c.as_slice.ensures ∙ some_holes c.args.quantified.now l c.args.number c.in-Some.holes.now same c.in-Some.ensures.some

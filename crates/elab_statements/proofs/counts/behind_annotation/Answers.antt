use Rattle.std.proofs.Common.{ap, ◌∙◌}
use Rattle.c_syntax.specs.Views.{exp}
use Rattle.elab_assignments.specs.Views.{before}
use Rattle.typed_program.specs.Annotations.{formulas}
use Rattle.elab_statements.proofs.StatementSteps.{from}
use Rattle.elab_statements.proofs.Sums.{plus_some}
use Rattle.elab_statements.proofs.counts.behind_annotation.Goals as goal

pub returns : goal.returns
returns c = ap (from (before c.args.before)) c.in_ok-formulas.ensures ∙ plus_some (before c.args.before) (formulas (exp c.args.x.now))

use Rattle.std.proofs.Common.{ap, ◌∙◌}
use Rattle.c_syntax.specs.Views as view
use Rattle.typing_expressions.specs.Violations.{joined}
use Rattle.typing_expressions.specs.Views.{context, judged, findings}
use Rattle.typing_statements.specs.Views.{changed}
use Rattle.typing_statements.proofs.Parts.{assignment_of}
use Rattle.typing_statements.proofs.rights.assignment.Goals as goal

pub returns : goal.returns
returns c =
    c.then-2.ensures
    ∙ (ap (joined (findings c.assigned-own.result)) c.then.ensures
    ∙ assignment_of (context c.args.context) (view.assignment c.args.x.now) (judged c.expression-left.result) (changed c.change-change.result) (findings c.assigned-own.result)
    c.expression-left.ensures c.change-change.ensures c.assigned-own.ensures)

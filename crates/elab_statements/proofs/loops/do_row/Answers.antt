use Rattle.std.proofs.Common.{ap, ◌∙◌}
use Rattle.elab_annotations.proofs.Steps.{told}
use Rattle.elab_assignments.specs.Views.{before}
use Rattle.typed_program.specs.Trees as t
use Rattle.typed_program.specs.Views as view
use Rattle.elab_statements.specs.Rows.{row, single}
use Rattle.elab_statements.proofs.Vectors.{do_loop}
use Rattle.elab_statements.proofs.loops.do_row.Goals as goal

pub returns : goal.returns
returns c =
    let a = c.args in
    told row c.single.result c.single.ensures (ap (single (before a.body.next)) (do_loop a.line a.invariants a.body.statements a.tested c.in_ok-condition.condition ∙ ap (t.DoWhile a.line (view.specs a.invariants.items) (view.stmts a.body.statements.items) a.tested) c.in_ok-condition.ensures))

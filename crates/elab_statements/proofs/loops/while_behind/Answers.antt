use Rattle.std.proofs.Common.{ap, ◌∙◌}
use Rattle.elab_annotations.proofs.Steps.{told}
use Rattle.elab_assignments.specs.Views.{before}
use Rattle.typed_program.specs.Trees as t
use Rattle.typed_program.specs.Views as view
use Rattle.elab_statements.specs.Rows.{row, appended, single}
use Rattle.elab_statements.proofs.Vectors.{while_loop}
use Rattle.elab_statements.proofs.loops.while_behind.Goals as goal

pub returns : goal.returns
returns c =
    let a = c.args in
    told row c.followed_by.result c.followed_by.ensures (ap (λ (x : t.Stmt). appended (row a.front) (single (before a.body.next) x)) (while_loop a.line a.invariants c.in_ok-condition.condition a.body.statements ∙ ap (λ (x : t.Code). t.While a.line (view.specs a.invariants.items) x (view.stmts a.body.statements.items)) c.in_ok-condition.ensures))

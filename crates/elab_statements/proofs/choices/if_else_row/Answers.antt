use Rattle.std.proofs.Common.{ap, ◌∙◌}
use Rattle.c_syntax.specs.Views.{exp}
use Rattle.elab_annotations.proofs.Steps.{told}
use Rattle.elab_assignments.specs.Views.{before}
use Rattle.typed_program.specs.Codes.{code}
use Rattle.typed_program.specs.Numbers.{Around}
use Rattle.typed_program.specs.Trees as t
use Rattle.typed_program.specs.Views as view
use Rattle.elab_statements.specs.Rows.{row, single}
use Rattle.elab_statements.proofs.Vectors.{choice}
use Rattle.elab_statements.proofs.choices.if_else_row.Goals as goal

pub returns : goal.returns
returns c =
    let a = c.args in
    let test = c.in_ok-condition.ensures ∙ ap (λ (k : Around). code k (exp a.test.now)) c.around.ensures in
    told row c.single.result c.single.ensures (ap (single (before a.no.next)) (choice a.line a.in_ghost c.in_ok-condition.condition a.yes.statements a.no.statements ∙ ap (λ (x : t.Code). t.If a.line a.in_ghost x (view.stmts a.yes.statements.items) (view.stmts a.no.statements.items)) test))

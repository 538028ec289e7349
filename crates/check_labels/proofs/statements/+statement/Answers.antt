use Rattle.std.proofs.Common.{ap, ◌∙◌}
use Rattle.std.proofs.lemmas.Result.{IfOk-weaker}
use Rattle.method.specs.Labels.{stmt_labels}
use Rattle.check_labels.proofs.Rows.{if_parts, while_parts, do_while_parts, unwrapping_parts}
use Rattle.check_labels.proofs.Steps.{three_parts, four_parts}
use Rattle.check_labels.proofs.statements.+statement.Goals as goal

pub add_statement_labels-returns-in_ok-add_body_labels-in-If : goal.add_statement_labels-returns-in_ok-add_body_labels-in-If
add_statement_labels-returns-in_ok-add_body_labels-in-If t c =
    let p = c.args.program.now in
    let f = c.args.function.now in
    let i = c.in-If in
    IfOk-weaker c.add_body_labels-in-If.result _ _ (λ u h. three_parts _ _ _ _ _ _ _ _ c.in_ok-add_test_labels-in-If.ensures c.in_ok-add_body_labels-in-If.ensures h
    (ap (stmt_labels p f) i.is ∙ if_parts p f i.line i.field-1 i.test i.first i.second _ _ c.deref.ensures.value c.deref-in-If.ensures.value)) c.add_body_labels-in-If.ensures

pub add_statement_labels-returns-in_ok-add_body_labels-in-While : goal.add_statement_labels-returns-in_ok-add_body_labels-in-While
add_statement_labels-returns-in_ok-add_body_labels-in-While t c =
    let p = c.args.program.now in
    let f = c.args.function.now in
    let i = c.in-While in
    IfOk-weaker c.add_invariant_labels.result _ _ (λ u h. three_parts _ _ _ _ _ _ _ _ c.in_ok-add_loop_labels-in-While.ensures c.in_ok-add_body_labels-in-While.ensures h
    (ap (stmt_labels p f) i.is ∙ while_parts p f i.line i.invariants i.test i.body _ _ _ c.deref-in-While.ensures.value c.deref-in-While-2.ensures.value c.deref-in-While-3.ensures.value)) c.add_invariant_labels.ensures

pub add_statement_labels-returns-in_ok-add_test_labels-in-DoWhile : goal.add_statement_labels-returns-in_ok-add_test_labels-in-DoWhile
add_statement_labels-returns-in_ok-add_test_labels-in-DoWhile t c =
    let p = c.args.program.now in
    let f = c.args.function.now in
    let i = c.in-DoWhile in
    IfOk-weaker c.add_invariant_labels-in-DoWhile-2.result _ _ (λ u h. four_parts _ _ _ _ _ _ _ _ _ _ c.in_ok-add_invariant_labels-in-DoWhile.ensures c.in_ok-add_body_labels-in-DoWhile.ensures c.in_ok-add_test_labels-in-DoWhile.ensures h
    (ap (stmt_labels p f) i.is ∙ do_while_parts p f i.line i.invariants i.body i.tested i.test _ _ _ c.deref-in-DoWhile.ensures.value c.deref-in-DoWhile-2.ensures.value c.deref-in-DoWhile-3.ensures.value)) c.add_invariant_labels-in-DoWhile-2.ensures

pub add_statement_labels-returns-in_ok-add_body_labels-in-Unwrapping : goal.add_statement_labels-returns-in_ok-add_body_labels-in-Unwrapping
add_statement_labels-returns-in_ok-add_body_labels-in-Unwrapping t c =
    let p = c.args.program.now in
    let f = c.args.function.now in
    let i = c.in-Unwrapping in
    IfOk-weaker c.add_on_line.result _ _ (λ u h. three_parts _ _ _ _ _ _ _ _ c.in_ok-add_unwrap_labels-in-Unwrapping.ensures c.in_ok-add_body_labels-in-Unwrapping.ensures h
    (ap (stmt_labels p f) i.is ∙ unwrapping_parts p f i.line i.field-1 i.field-2 i.object i.body _ c.deref-in-Unwrapping.ensures.value)) c.add_on_line.ensures

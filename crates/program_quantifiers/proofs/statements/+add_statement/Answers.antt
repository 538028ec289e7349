use Rattle.std.proofs.Common.{ap, sym, subst, ◌∙◌}
use Rattle.method.specs.declared.program.Stmt.{Stmt}
use Rattle.conditions.specs.Quantified.{stmt_quantifiers, function_words}
use Rattle.annotation_scenes.specs.Scenes.{IsScene}
use Rattle.annotation_scenes.proofs.Scenes.{scene_later}
use Rattle.program_quantifiers.specs.Quantifiers.{Adds}
use Rattle.program_quantifiers.proofs.Adding.{adds_none, so_adds, same_added, row_first, row_next, row_last}
use Rattle.program_quantifiers.proofs.Alike.{no_statement}
use Rattle.program_quantifiers.proofs.Vectors.{choice, while_loop, do_loop, block}
use Rattle.program_quantifiers.proofs.statements.+add_statement.Goals as goal

pub add_statement-returns-in-Do : goal.add_statement-returns-in-Do
add_statement-returns-in-Do t c = λ h.
    same_added c.add_action.result _ _ _ _ (ap (stmt_quantifiers c.args.program.now c.args.f.now) (sym c.in-Do.is)) (c.add_action.ensures h)

pub add_statement-returns-in_ok-add_statements-in-If : goal.add_statement-returns-in_ok-add_statements-in-If
add_statement-returns-in_ok-add_statements-in-If t c = λ h.
    let i = c.in-If in
    let one = rw c.deref.ensures.value at (c.in_ok-add_statements-in-If.ensures h) in
    let two = rw c.deref-in-If.ensures.value at (c.add_statements-in-If.ensures (scene_later one.later h)) in
    same_added c.add_statements-in-If.result _ _ _ _ (sym (ap (stmt_quantifiers c.args.program.now c.args.f.now) i.is ∙ choice c.args.program.now c.args.f.now i.field-0 i.field-1 i.field-2 i.passed i.failed)) (so_adds c.add_statements-in-If.result _ _ _ _ _ one two)

pub add_statement-returns-in_ok-add_annotations-in-While : goal.add_statement-returns-in_ok-add_annotations-in-While
add_statement-returns-in_ok-add_annotations-in-While t c = λ h.
    let i = c.in-While in
    let one = rw c.deref-in-While.ensures.value at (c.in_ok-add_annotations-in-While.ensures _ h) in
    let two = rw c.deref-in-While-2.ensures.value at (c.add_statements-in-While.ensures (scene_later one.later h)) in
    same_added c.add_statements-in-While.result _ _ _ _ (sym (ap (stmt_quantifiers c.args.program.now c.args.f.now) i.is ∙ while_loop c.args.program.now c.args.f.now i.field-0 i.invariants i.field-2 i.body)) (so_adds c.add_statements-in-While.result _ _ _ _ _ one two)

pub add_statement-returns-in_ok-add_annotations-in-DoWhile : goal.add_statement-returns-in_ok-add_annotations-in-DoWhile
add_statement-returns-in_ok-add_annotations-in-DoWhile t c = λ h.
    let i = c.in-DoWhile in
    let one = rw c.deref-in-DoWhile.ensures.value at (c.in_ok-add_annotations-in-DoWhile.ensures _ h) in
    let two = rw c.deref-in-DoWhile-2.ensures.value at (c.add_statements-in-DoWhile.ensures (scene_later one.later h)) in
    same_added c.add_statements-in-DoWhile.result _ _ _ _ (sym (ap (stmt_quantifiers c.args.program.now c.args.f.now) i.is ∙ do_loop c.args.program.now c.args.f.now i.field-0 i.invariants i.body i.field-3 i.field-4)) (so_adds c.add_statements-in-DoWhile.result _ _ _ _ _ one two)

pub add_statement-returns-in_ok-add_members-in-Unwrapping : goal.add_statement-returns-in_ok-add_members-in-Unwrapping
add_statement-returns-in_ok-add_members-in-Unwrapping t c = λ h.
    let i = c.in-Unwrapping in
    let one = c.in_ok-add_members-in-Unwrapping.ensures in
    let two = rw c.deref-in-Unwrapping.ensures.value at (c.add_statements-in-Unwrapping.ensures (scene_later one.later h)) in
    same_added c.add_statements-in-Unwrapping.result _ _ _ _ (sym (ap (stmt_quantifiers c.args.program.now c.args.f.now) i.is ∙ block c.args.program.now c.args.f.now i.field-0 i.ty i.number i.field-3 i.body)) (so_adds c.add_statements-in-Unwrapping.result _ _ _ _ _ one two)

pub add_statement-returns-in-Call : goal.add_statement-returns-in-Call
add_statement-returns-in-Call t c = λ h. subst (λ qs. Adds c.args.list.now c.args.list.now qs) (no_statement c.args.program.now c.args.f.now c.args.statement.now c.in-Call.is) (adds_none c.args.list.now)

pub add_statements-loop-statement-init : goal.add_statements-loop-statement-init
add_statements-loop-statement-init t c = row_first (λ (s : Unit {0}). IsScene c.args.list.now.graph c.args.scene.now (function_words c.args.f.now)) (λ (s : Unit {0}) (x : Stmt). stmt_quantifiers c.args.program.now c.args.f.now x) c.args.list.now c.args.row.now

pub add_statements-loop-statement-preserved : goal.add_statements-loop-statement-preserved
add_statements-loop-statement-preserved t c =
    row_next (λ (s : Unit {0}). IsScene c.args.list.now.graph c.args.scene.now (function_words c.args.f.now)) (λ (s : Unit {0}) (x : Stmt). stmt_quantifiers c.args.program.now c.args.f.now x) c.args.list.now c.loop-statement.list _ c.args.row.now c.loop-statement.statement-index c.statement-item.result c.statement-item.result c.loop-statement.invariant c.loop-statement-test.true c.statement-item.is (λ s known later. c.in_ok-add_statement.ensures (scene_later later known))

pub add_statements-returns : goal.add_statements-returns
add_statements-returns t c = λ h. row_last c.loop-statement.invariant c.loop-statement-test.false tt h

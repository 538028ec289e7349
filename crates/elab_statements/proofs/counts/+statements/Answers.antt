use Rattle.std.proofs.Common.{sym, ap, ◌∙◌, List, map, take, arith}
use Rattle.c_syntax.specs.declared.statements.Stmt.{Stmt}
use Rattle.c_syntax.specs.Grammar.{stms_of}
use Rattle.c_syntax.specs.Statements.{Stm}
use Rattle.c_syntax.specs.Views as view
use Rattle.typing_expressions.proofs.Rows.{take_at, take_all}
use Rattle.elab_annotations.proofs.Steps.{told}
use Rattle.elab_assignments.specs.Views.{before}
use Rattle.typing_statements.proofs.Sequences.{unwrapping_stm}
use Rattle.typed_program.specs.Statements.{Counters, plus, some_formulas, in_statement, in_statements}
use Rattle.elab_statements.proofs.Groups.{behind_loop, braced_counts, statement_counts}
use Rattle.elab_statements.proofs.Sums.{plus_none, plus_assoc, behind_statements_more}
use Rattle.elab_statements.proofs.counts.+statements.Goals as goal

pub behind_statement-returns-in-Block : goal.behind_statement-returns-in-Block
behind_statement-returns-in-Block t c =
    told before c.behind_statements-in-Block.result c.behind_statements-in-Block.ensures (braced_counts (before c.args.before) c.args.x.now c.in-Block.all c.deref-in-Block.result.now c.deref-in-Block.ensures.value c.in-Block.is)

pub behind_statement-returns-in_ok-next-in-While : goal.behind_statement-returns-in_ok-next-in-While
behind_statement-returns-in_ok-next-in-While t c =
    let s = c.in-While in
    told before c.behind_statement-in-While.result c.behind_statement-in-While.ensures (behind_loop (before c.args.before) c.args.x.now s.all s.body c.deref-in-While.result.now c.deref-in-While-2.result.now c.deref-in-While.ensures.value c.deref-in-While-2.ensures c.in_ok-next-in-While.ensures s.is)

pub behind_statements-loop-x-init : goal.behind_statements-loop-x-init
behind_statements-loop-x-init t c = plus_none (before c.args.before)

pub behind_statements-loop-x-preserved : goal.behind_statements-loop-x-preserved
behind_statements-loop-x-preserved t c =
    let n = before c.args.before in
    let done = map view.stm (take c.loop-x.x-index c.args.all.now) in
    let y = view.stm c.x-item.result in
    let more = take_at view.stm c.args.all.now c.loop-x.x-index c.x-item.result c.loop-x-test.true c.x-item.is in
    c.in_ok-next.ensures ∙ (ap (λ (m : Counters). plus m (in_statement y)) c.loop-x.invariant ∙ (behind_statements_more n done y ∙ ap (λ (ss : List Stm). plus n (in_statements (stms_of ss))) (sym more)))

pub behind_statements-returns : goal.behind_statements-returns
behind_statements-returns t c =
    c.loop-x.invariant ∙ ap (λ (xs : List Stmt). plus (before c.args.before) (in_statements (stms_of (map view.stm xs)))) (take_all c.args.all.now c.loop-x.x-index (omega arith))

pub behind_statement-returns-in-Skip : goal.behind_statement-returns-in-Skip
behind_statement-returns-in-Skip t c = statement_counts (before c.args.before) c.args.x.now c.in-Skip.is

pub behind_statement-returns-in_ok-next-in-Unwrapping : goal.behind_statement-returns-in_ok-next-in-Unwrapping
behind_statement-returns-in_ok-next-in-Unwrapping t c =
    let n = before c.args.before in
    let s = c.in-Unwrapping in
    let items = c.deref-in-Unwrapping.result.now in
    let ss = stms_of (map view.stm items) in
    let shown = ap (λ (z : Stm). plus n (in_statement z)) (unwrapping_stm c.args.x.now s.field-0 s.field-1 s.all s.field-3 items s.is c.deref-in-Unwrapping.ensures.value) in
    told before c.behind_statements.result c.behind_statements.ensures (ap (λ (m : Counters). plus m (in_statements ss)) c.in_ok-next-in-Unwrapping.ensures ∙ (plus_assoc n (some_formulas 1) (in_statements ss) ∙ sym shown))

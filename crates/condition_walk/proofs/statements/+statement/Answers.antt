use Rattle.std.specs.Prelude.{List, ◌++◌}
use Rattle.std.proofs.Common.{ap, sym, ◌∙◌}
use Rattle.method.specs.declared.program.Stmt.{Stmt}
use Rattle.statement_text.specs.Rows.{all_declare, one_returns}
use Rattle.condition_code.proofs.States.{spot_later, state_later}
use Rattle.condition_code.proofs.Walks.{run_then}
use Rattle.condition_control.specs.Forms.{branch_start}
use Rattle.condition_formulas.proofs.Symbolics.{symbolic_later}
use Rattle.condition_walk.proofs.Entries.{stmts_first, stmts_next, stmts_last}
use Rattle.condition_walk.proofs.Forms.{branch_run, while_run, do_while_run, unwrapping_run, same_stmt}
use Rattle.condition_walk.proofs.Ways.{way_later, fork_later, both_ways}
use Rattle.condition_walk.proofs.statements.+statement.Goals as goal

pub statements-loop-s-init : goal.statements-loop-s-init
statements-loop-s-init t c = stmts_first

pub statements-loop-s-preserved : goal.statements-loop-s-preserved
statements-loop-s-preserved t c = stmts_next _ c.s-item.is c.loop-s.invariant c.loop-s-test.true c.in_ok-st.ensures

pub statements-returns : goal.statements-returns
statements-returns t c = stmts_last c.loop-s.invariant c.loop-s-test.false

pub way-returns-clause-way : goal.way-returns-clause-way
way-returns-clause-way t c = λ b f s hb hf hs.
    let begins = c.in_ok-from.ensures f hf in
    let ran = c.in_ok-end.ensures b s (spot_later begins.later hb) (state_later begins.later hs) in
    c.in_ok-way.ensures.way _ _ f _ begins ran

pub way-returns-clause-returns : goal.way-returns-clause-returns
way-returns-clause-returns t c = c.in_ok-way.ensures.returns ∙ c.any_returns.ensures

pub first_way-returns-clause-way : goal.first_way-returns-clause-way
first_way-returns-clause-way t c = λ b v hb hf.
    c.in_ok-gone.ensures.way b _ _ hb hf.test_is (c.in_ok-start.ensures _ _ hf.state_is)

pub second_way-returns-clause-way : goal.second_way-returns-clause-way
second_way-returns-clause-way t c = λ b v x hb hf hx.
    c.in_ok-gone.ensures.way b _ _ hb hf.fails_is (c.in_ok-start.ensures _ _ _ hf.state_is hx.state)

pub while_loop-returns : goal.while_loop-returns
while_loop-returns t c = λ b s hb hs.
    let fork = c.in_ok-fork.ensures b s hb hs in
    let here = spot_later fork.goes.later hb in
    let before = c.in_ok-before.ensures _ _ fork.gives.state_is in
    let begins = c.in_ok-from.ensures _ fork.gives.test_is in
    let there = spot_later begins.later here in
    let done = c.in_ok-done.ensures b _ there (state_later begins.later fork.gives.state_is) in
    let end = run_then done (c.in_ok-end.ensures c.args.f.now b _ (spot_later done.goes.later there) done.gives) in
    run_then fork (c.in_ok-left.ensures _ _ _ _ _ begins end fork.gives.fails_is before)

pub do_while_loop-returns : goal.do_while_loop-returns
do_while_loop-returns t c = λ b s hb hs.
    let start = c.in_ok-start.ensures b s hb hs in
    let here = spot_later start.goes.later hb in
    let done = c.in_ok-done.ensures b _ here start.gives in
    run_then start (run_then done (c.in_ok-end.ensures c.args.f.now b _ (spot_later done.goes.later here) done.gives))

pub unwrapping-returns : goal.unwrapping-returns
unwrapping-returns t c = λ b s hb hs.
    let opened = c.in_ok-opened.ensures c.args.f.now b s hb hs in
    let here = spot_later opened.goes.later hb in
    let done = c.in_ok-done.ensures b _ here opened.gives.state_is in
    run_then opened (run_then done (c.in_ok-closed.ensures c.args.f.now b _ _ (spot_later done.goes.later here) (symbolic_later done.goes.later opened.gives.value_is) done.gives))

pub statement-returns-in_ok-acted-in-Do : goal.statement-returns-in_ok-acted-in-Do
statement-returns-in_ok-acted-in-Do t c = λ b s hb hs.
    same_stmt c.args.a.now.program.now c.args.f.now b s c.in-Do.is (c.in_ok-acted-in-Do.ensures b s hb hs)

pub statement-returns-in_ok-joined-in-If : goal.statement-returns-in_ok-joined-in-If
statement-returns-in_ok-joined-in-If t c = λ b s hb hs.
    let fork = c.in_ok-fork-in-If.ensures c.args.f.now b s hb hs in
    let here = spot_later fork.goes.later hb in
    let first = c.in_ok-x-in-If.ensures.way b _ here fork.gives in
    let behind = fork_later first.went.later fork.gives in
    let second = c.in_ok-y-in-If.ensures.way b _ _ (spot_later first.went.later here) behind first.way in
    let us : List Stmt = c.deref-in-If-2.result.now in
    let ws : List Stmt = c.deref-in-If-3.result.now in
    let ends = c.in_ok-x-in-If.ensures.returns ∙ ap one_returns (c.deref.ensures.value ∙ sym c.deref-in-If-2.ensures.value) in
    let ends' = c.in_ok-y-in-If.ensures.returns ∙ ap one_returns (c.deref-in-If.ensures.value ∙ sym c.deref-in-If-3.ensures.value) in
    let last = c.in_ok-joined-in-If.ensures _ _ _ (fork_later second.went.later behind) (way_later second.went.later first.way) second.way ends ends' in
    branch_run c.args.a.now.program.now c.args.f.now b s c.in-If.field-0 c.in-If.in_ghost c.in-If.e c.in-If.first c.in-If.second c.in-If.is c.deref.ensures.value c.deref-in-If.ensures.value c.deref-in-If-2.ensures.value c.deref-in-If-3.ensures.value (run_then fork (both_ways (all_declare us ++ all_declare ws) (branch_start c.args.a.now.program.now c.args.f.now b c.in-If.in_ghost c.in-If.e s).gives.state (one_returns us) (one_returns ws) first second last))

pub statement-returns-in_ok-left-in-While : goal.statement-returns-in_ok-left-in-While
statement-returns-in_ok-left-in-While t c = λ b s hb hs.
    while_run c.args.a.now.program.now c.args.f.now b s c.in-While.field-0 c.in-While.invs c.in-While.e c.in-While.body c.in-While.is c.deref-in-While-2.ensures.value c.deref-in-While.ensures.value (c.in_ok-left-in-While.ensures b s hb hs)

pub statement-returns-in_ok-left-in-DoWhile : goal.statement-returns-in_ok-left-in-DoWhile
statement-returns-in_ok-left-in-DoWhile t c = λ b s hb hs.
    do_while_run c.args.a.now.program.now c.args.f.now b s c.in-DoWhile.field-0 c.in-DoWhile.invs c.in-DoWhile.body c.in-DoWhile.field-3 c.in-DoWhile.e c.in-DoWhile.is c.deref-in-DoWhile-2.ensures.value c.deref-in-DoWhile.ensures.value (c.in_ok-left-in-DoWhile.ensures b s hb hs)

pub statement-returns-in_ok-closed-in-Unwrapping : goal.statement-returns-in_ok-closed-in-Unwrapping
statement-returns-in_ok-closed-in-Unwrapping t c = λ b s hb hs.
    unwrapping_run c.args.a.now.program.now c.args.f.now b s c.in-Unwrapping.field-0 c.in-Unwrapping.ty c.in-Unwrapping.number c.in-Unwrapping.e c.in-Unwrapping.body c.in-Unwrapping.is c.deref-in-Unwrapping.ensures.value (c.in_ok-closed-in-Unwrapping.ensures b s hb hs)

pub statement-returns-in_ok-received-in-Call : goal.statement-returns-in_ok-received-in-Call
statement-returns-in_ok-received-in-Call t c = λ b s hb hs.
    same_stmt c.args.a.now.program.now c.args.f.now b s c.in-Call.is (rw c.deref-in-Call.ensures.value at (c.in_ok-received-in-Call.ensures c.args.f.now b s hb hs))

pub statement-returns-in_ok-ended-in-Return : goal.statement-returns-in_ok-ended-in-Return
statement-returns-in_ok-ended-in-Return t c = λ b s hb hs.
    same_stmt c.args.a.now.program.now c.args.f.now b s c.in-Return.is (c.in_ok-ended-in-Return.ensures b s hb hs)

use Rattle.std.proofs.Common.{◌≡◌, ℕ, ◌≤◌, ◌-◌, refl, sym, ap, ◌∙◌, subst, List, map, take, drop, length, arith}
use Rattle.std.specs.Prelude.{IfOk}
use Rattle.std.specs.Option.{option_map}
use Rattle.c_syntax.specs.declared.statements.Stmt.{Stmt}
use Rattle.c_syntax.specs.declared.statements.Invariant.{Invariant}
use Rattle.c_syntax.specs.Grammar.{stms_of}
use Rattle.c_syntax.specs.Statements.{Stm}
use Rattle.c_syntax.specs.Views as view
use Rattle.typing_spec.specs.Contexts.{Variable, Context}
use Rattle.typing_spec.specs.Pieces.{expression, in_statements}
use Rattle.typing_symbols.specs.Scopes.{known}
use Rattle.typing_expressions.specs.Violations.{Violations, Judged, violations, joined}
use Rattle.typing_expressions.specs.Views.{findings}
use Rattle.typing_expressions.proofs.FoundLaws.{found_none}
use Rattle.typing_expressions.proofs.Rows.{take_at, take_all}
use Rattle.typing_statements.specs.Breaks as b
use Rattle.typing_statements.specs.Views.{Fixed, fixed, within, following, behind_all, ghost_pieces, statement_pieces}
use Rattle.typing_statements.proofs.StatementForms.{skip_is, declare_is, assign_is, call_is, return_is, spawn_is, free_is, assert_is, wrap_is, unwrap_is, block_is, ghost_is, if_fronted, if_else_fronted, while_fronted, do_fronted, for_fronted, unwrapping_fronted, atomic_whole}
use Rattle.typing_statements.proofs.Sequences.{Grows, kept, longer, grows_all, block_stm, unwrapping_stm, atomic_stm, statements_found_more, behind_all_more}
use Rattle.typing_statements.proofs.statements.+statements.Goals as goal

-- what a statement is, which is of this form
of_form : (c : Context) (x y : Stmt) (f : Violations) → x ≡ y → violations (statement_pieces c (view.stm y)) ≡ f → f ≡ violations (statement_pieces c (view.stm x))
of_form c x y f h k = sym (ap (λ (z : Stmt). violations (statement_pieces c (view.stm z))) h ∙ k)

pub statement-returns-in-Block-clause-violations : goal.statement-returns-in-Block-clause-violations
statement-returns-in-Block-clause-violations t c =
    let k = (within (fixed c.args.around) (known c.args.variables.now)) in
    let s = c.in-Block in
    let items = c.deref.result.now in
    let shown = ap (λ (z : Stm). violations (statement_pieces k z)) (block_stm c.args.x.now s.field-0 s.all s.field-2 items s.is c.deref.ensures.value) ∙ block_is k s.field-0 (stms_of (map view.stm items)) s.field-2 in
    subst (λ (z : Violations). IfOk c.statements.result (λ f. findings f ≡ z)) (sym shown) c.statements.ensures.violations

pub statement-returns-in-Skip-clause-violations : goal.statement-returns-in-Skip-clause-violations
statement-returns-in-Skip-clause-violations t c =
    c.nothing.ensures ∙ (sym found_none ∙ of_form (within (fixed c.args.around) (known c.args.variables.now)) c.args.x.now _ _ c.in-Skip.is (skip_is (within (fixed c.args.around) (known c.args.variables.now)) c.in-Skip.field-0))

pub statement-returns-in-Declare-clause-violations : goal.statement-returns-in-Declare-clause-violations
statement-returns-in-Declare-clause-violations t c =
    let s = c.in-Declare in
    c.declaration.ensures ∙ (ap (λ (w : Context). b.declaration w s.span (view.ty s.ty) (option_map view.rhs s.first)) c.context-context.ensures ∙ of_form (within (fixed c.args.around) (known c.args.variables.now)) c.args.x.now _ _ c.in-Declare.is (declare_is (within (fixed c.args.around) (known c.args.variables.now)) s.span (view.ty s.ty) (view.id s.field-2) (option_map view.rhs s.first)))

pub statement-returns-in-Assign-clause-violations : goal.statement-returns-in-Assign-clause-violations
statement-returns-in-Assign-clause-violations t c =
    let s = c.in-Assign in
    c.assign_statement.ensures ∙ (ap (λ (w : Context). b.assign_statement w s.span (view.assignment s.change)) c.context-context.ensures ∙ of_form (within (fixed c.args.around) (known c.args.variables.now)) c.args.x.now _ _ c.in-Assign.is (assign_is (within (fixed c.args.around) (known c.args.variables.now)) s.span (view.assignment s.change)))

pub statement-returns-in-Call-clause-violations : goal.statement-returns-in-Call-clause-violations
statement-returns-in-Call-clause-violations t c =
    let s = c.in-Call in
    c.call_statement.ensures ∙ (ap (λ (w : Context). b.call_statement w s.span (view.call s.called)) c.context-context.ensures ∙ of_form (within (fixed c.args.around) (known c.args.variables.now)) c.args.x.now _ _ c.in-Call.is (call_is (within (fixed c.args.around) (known c.args.variables.now)) s.span (view.call s.called)))

pub statement-returns-in-Return-clause-violations : goal.statement-returns-in-Return-clause-violations
statement-returns-in-Return-clause-violations t c =
    let s = c.in-Return in
    c.return_statement.ensures ∙ (ap (λ (w : Context). b.return_statement w s.span (option_map view.exp s.value)) c.context-context.ensures ∙ of_form (within (fixed c.args.around) (known c.args.variables.now)) c.args.x.now _ _ c.in-Return.is (return_is (within (fixed c.args.around) (known c.args.variables.now)) s.span (option_map view.exp s.value)))

pub statement-returns-in-Spawn-clause-violations : goal.statement-returns-in-Spawn-clause-violations
statement-returns-in-Spawn-clause-violations t c =
    let s = c.in-Spawn in
    c.spawn_statement.ensures ∙ (ap (λ (w : Context). b.spawn_statement w s.span (view.call s.called)) c.context-context.ensures ∙ of_form (within (fixed c.args.around) (known c.args.variables.now)) c.args.x.now _ _ c.in-Spawn.is (spawn_is (within (fixed c.args.around) (known c.args.variables.now)) s.span (view.call s.called)))

pub statement-returns-in-Free-clause-violations : goal.statement-returns-in-Free-clause-violations
statement-returns-in-Free-clause-violations t c =
    let s = c.in-Free in
    c.free_statement.ensures ∙ (ap (λ (w : Context). b.free_statement w s.span (view.exp s.pointer)) c.context-context.ensures ∙ of_form (within (fixed c.args.around) (known c.args.variables.now)) c.args.x.now _ _ c.in-Free.is (free_is (within (fixed c.args.around) (known c.args.variables.now)) s.span (view.exp s.pointer)))

pub statement-returns-in-Assert-clause-violations : goal.statement-returns-in-Assert-clause-violations
statement-returns-in-Assert-clause-violations t c =
    let s = c.in-Assert in
    c.assertion.ensures ∙ (ap (λ (w : Context). b.assertion w s.span (view.exp s.property)) c.context-context.ensures ∙ of_form (within (fixed c.args.around) (known c.args.variables.now)) c.args.x.now _ _ c.in-Assert.is (assert_is (within (fixed c.args.around) (known c.args.variables.now)) s.span (view.exp s.property)))

pub statement-returns-in-Wrap-clause-violations : goal.statement-returns-in-Wrap-clause-violations
statement-returns-in-Wrap-clause-violations t c =
    let s = c.in-Wrap in
    c.wrap_statement.ensures ∙ (ap (λ (w : Context). b.wrap_statement w s.span (view.exp s.object)) c.context-context.ensures ∙ of_form (within (fixed c.args.around) (known c.args.variables.now)) c.args.x.now _ _ c.in-Wrap.is (wrap_is (within (fixed c.args.around) (known c.args.variables.now)) s.span (view.exp s.object)))

pub statement-returns-in-Unwrap-clause-violations : goal.statement-returns-in-Unwrap-clause-violations
statement-returns-in-Unwrap-clause-violations t c =
    let s = c.in-Unwrap in
    c.wrap_statement-in-Unwrap.ensures ∙ (ap (λ (w : Context). b.wrap_statement w s.span (view.exp s.object)) c.context-context.ensures ∙ of_form (within (fixed c.args.around) (known c.args.variables.now)) c.args.x.now _ _ c.in-Unwrap.is (unwrap_is (within (fixed c.args.around) (known c.args.variables.now)) s.span (view.exp s.object)))

pub statement-returns-in-Ghost-clause-violations : goal.statement-returns-in-Ghost-clause-violations
statement-returns-in-Ghost-clause-violations t c =
    let f = fixed c.args.around in
    let vs = known c.args.variables.now in
    let k = within f vs in
    let s = c.in-Ghost in
    let shown = ap (λ (z : Fixed). violations (ghost_pieces (within z vs) (view.ghost s.inner))) c.as_ghost.ensures ∙ (sym (ghost_is k s.field-0 (view.ghost s.inner)) ∙ ap (λ (y : Stmt). violations (statement_pieces k (view.stm y))) (sym s.is)) in
    subst (λ (z : Violations). IfOk c.ghost_statement.result (λ h. findings h ≡ z)) shown c.ghost_statement.ensures.violations

pub statement-returns-in_ok-inner-in-If-clause-violations : goal.statement-returns-in_ok-inner-in-If-clause-violations
statement-returns-in_ok-inner-in-If-clause-violations t c =
    let f = fixed c.args.around in
    let vs = known c.args.variables.now in
    let k = within f vs in
    let s = c.in-If in
    let front = c.if_front-front.ensures ∙ ap (λ (w : Context). b.if_front w s.span (view.exp s.test)) c.context-context.ensures in
    let inner = c.in_ok-inner-in-If.ensures.violations ∙ ap (λ (z : Stmt). violations (statement_pieces k (view.stm z))) c.deref-in-If.ensures in
    c.then.ensures ∙ (ap (λ (z : Violations). joined z (findings c.in_ok-inner-in-If.inner)) front ∙ (ap (joined (b.if_front k s.span (view.exp s.test))) inner
    ∙ of_form k c.args.x.now _ _ s.is (if_fronted k s.span (view.exp s.test) (view.stm s.yes.value))))

pub statement-returns-in_ok-no-in-IfElse-clause-violations : goal.statement-returns-in_ok-no-in-IfElse-clause-violations
statement-returns-in_ok-no-in-IfElse-clause-violations t c =
    let f = fixed c.args.around in
    let vs = known c.args.variables.now in
    let k = within f vs in
    let s = c.in-IfElse in
    let front = c.if_front-front-in-IfElse.ensures ∙ ap (λ (w : Context). b.if_front w s.span (view.exp s.test)) c.context-context.ensures in
    let yes = c.in_ok-yes-in-IfElse.ensures.violations ∙ ap (λ (z : Stmt). violations (statement_pieces k (view.stm z))) c.deref-in-IfElse.ensures in
    let no = c.in_ok-no-in-IfElse.ensures.violations ∙ (ap (λ (us : List Variable). violations (statement_pieces (within f us) (view.stm c.deref-in-IfElse-2.result.now))) c.in_ok-yes-in-IfElse.ensures.kept
    ∙ ap (λ (z : Stmt). violations (statement_pieces k (view.stm z))) c.deref-in-IfElse-2.ensures) in
    c.then-in-IfElse-2.ensures ∙ (ap (λ (z : Violations). joined z (findings c.then-in-IfElse.result)) front
    ∙ (ap (joined (b.if_front k s.span (view.exp s.test))) (c.then-in-IfElse.ensures ∙ (ap (λ (z : Violations). joined z (findings c.in_ok-no-in-IfElse.no)) yes ∙ ap (joined (violations (statement_pieces k (view.stm s.first.value)))) no))
    ∙ of_form k c.args.x.now _ _ s.is (if_else_fronted k s.span (view.exp s.test) (view.stm s.first.value) (view.stm s.second.value))))

pub statement-returns-in_ok-inner-in-While-clause-violations : goal.statement-returns-in_ok-inner-in-While-clause-violations
statement-returns-in_ok-inner-in-While-clause-violations t c =
    let f = fixed c.args.around in
    let vs = known c.args.variables.now in
    let k = within f vs in
    let s = c.in-While in
    let front = c.while_front-front.ensures ∙ (ap (λ (w : Context). b.while_front w s.span (view.exp s.test) (map view.invariant c.deref-in-While.result.now)) c.context-context.ensures
    ∙ ap (λ (is : List Invariant). b.while_front k s.span (view.exp s.test) (map view.invariant is)) c.deref-in-While.ensures.value) in
    let inner = c.in_ok-inner-in-While.ensures.violations ∙ ap (λ (z : Stmt). violations (statement_pieces k (view.stm z))) c.deref-in-While-2.ensures in
    c.then-in-While.ensures ∙ (ap (λ (z : Violations). joined z (findings c.in_ok-inner-in-While.inner)) front ∙ (ap (joined (b.while_front k s.span (view.exp s.test) (map view.invariant s.invariants.items))) inner
    ∙ of_form k c.args.x.now _ _ s.is (while_fronted k s.span (view.exp s.test) (map view.invariant s.invariants.items) (view.stm s.body.value))))

pub statement-returns-in_ok-inner-in-Do-clause-violations : goal.statement-returns-in_ok-inner-in-Do-clause-violations
statement-returns-in_ok-inner-in-Do-clause-violations t c =
    let f = fixed c.args.around in
    let vs = known c.args.variables.now in
    let k = within f vs in
    let s = c.in-Do in
    let is = map view.invariant s.invariants.items in
    let front = c.do_front-front.ensures ∙ (ap (λ (w : Context). b.do_front w s.span (map view.invariant c.deref-in-Do.result.now)) c.context-context.ensures
    ∙ ap (λ (xs : List Invariant). b.do_front k s.span (map view.invariant xs)) c.deref-in-Do.ensures.value) in
    let inner = c.in_ok-inner-in-Do.ensures.violations ∙ ap (λ (z : Stmt). violations (statement_pieces k (view.stm z))) c.deref-in-Do-2.ensures in
    let test = ap (λ (j : Judged). j.violations) c.expression.ensures ∙ ap (λ (w : Context). violations (expression w (view.exp s.test))) (c.context.ensures ∙ ap (λ (us : List Variable). within f us) c.in_ok-inner-in-Do.ensures.kept) in
    c.then-in-Do-2.ensures ∙ (ap (λ (z : Violations). joined z (findings c.then-in-Do.result)) front
    ∙ (ap (joined (b.do_front k s.span is)) (c.then-in-Do.ensures ∙ (ap (λ (z : Violations). joined z (findings c.expression.result.violations)) inner ∙ ap (joined (violations (statement_pieces k (view.stm s.body.value)))) test))
    ∙ of_form k c.args.x.now _ _ s.is (do_fronted k s.span is (view.stm s.body.value) s.field-3 (view.exp s.test))))

pub statement-returns-in_ok-inner-in-For-clause-violations : goal.statement-returns-in_ok-inner-in-For-clause-violations
statement-returns-in_ok-inner-in-For-clause-violations t c =
    let f = fixed c.args.around in
    let vs = known c.args.variables.now in
    let k = within f vs in
    let s = c.in-For in
    let before = option_map view.assignment s.before in
    let after = option_map view.assignment s.after in
    let front = c.for_front-front.ensures ∙ (ap (λ (w : Context). b.for_front w s.span before (view.exp s.test) after (map view.invariant c.deref-in-For.result.now)) c.context-context.ensures
    ∙ ap (λ (is : List Invariant). b.for_front k s.span before (view.exp s.test) after (map view.invariant is)) c.deref-in-For.ensures.value) in
    let inner = c.in_ok-inner-in-For.ensures.violations ∙ ap (λ (z : Stmt). violations (statement_pieces k (view.stm z))) c.deref-in-For-2.ensures in
    c.then-in-For.ensures ∙ (ap (λ (z : Violations). joined z (findings c.in_ok-inner-in-For.inner)) front ∙ (ap (joined (b.for_front k s.span before (view.exp s.test) after (map view.invariant s.invariants.items))) inner
    ∙ of_form k c.args.x.now _ _ s.is (for_fronted k s.span before (view.exp s.test) after (map view.invariant s.invariants.items) (view.stm s.body.value))))

pub statement-returns-in_ok-inner-in-Unwrapping-clause-violations : goal.statement-returns-in_ok-inner-in-Unwrapping-clause-violations
statement-returns-in_ok-inner-in-Unwrapping-clause-violations t c =
    let f = fixed c.args.around in
    let vs = known c.args.variables.now in
    let k = within f vs in
    let s = c.in-Unwrapping in
    let items = c.deref-in-Unwrapping.result.now in
    let ss = stms_of (map view.stm items) in
    let front = c.wrap_statement-front.ensures ∙ ap (λ (w : Context). b.wrap_statement w s.span (view.exp s.object)) c.context-context.ensures in
    let inner = c.in_ok-inner-in-Unwrapping.ensures.violations ∙ ap (λ (z : Fixed). violations (in_statements (within z vs) ss)) c.inside_unwrapping.ensures in
    let shown = ap (λ (z : Stm). violations (statement_pieces k z)) (unwrapping_stm c.args.x.now s.span s.object s.all s.field-3 items s.is c.deref-in-Unwrapping.ensures.value) ∙ unwrapping_fronted k s.span (view.exp s.object) ss s.field-3 in
    c.then-in-Unwrapping.ensures ∙ (ap (λ (z : Violations). joined z (findings c.in_ok-inner-in-Unwrapping.inner)) front ∙ (ap (joined (b.wrap_statement k s.span (view.exp s.object))) inner ∙ sym shown))

pub statement-returns-in_ok-inner-in-Atomic-clause-violations : goal.statement-returns-in_ok-inner-in-Atomic-clause-violations
statement-returns-in_ok-inner-in-Atomic-clause-violations t c =
    let f = fixed c.args.around in
    let vs = known c.args.variables.now in
    let k = within f vs in
    let s = c.in-Atomic in
    let items = c.deref-in-Atomic.result.now in
    let objects = c.deref-in-Atomic-2.result.now in
    let ss = stms_of (map view.stm items) in
    let inner = c.in_ok-inner-in-Atomic.ensures.violations ∙ ap (λ (z : Fixed). violations (in_statements (within z vs) ss)) c.inside_atomic.ensures in
    let around = c.context-context-in-Atomic.ensures ∙ ap (λ (us : List Variable). within f us) c.in_ok-inner-in-Atomic.ensures.kept in
    let shown = ap (λ (z : Stm). violations (statement_pieces k z)) (atomic_stm c.args.x.now s.span s.objects s.all s.field-3 objects items s.is c.deref-in-Atomic-2.ensures.value c.deref-in-Atomic.ensures.value)
    ∙ atomic_whole k s.span (view.exps objects) ss s.field-3 in
    c.atomic_block.ensures ∙ (ap (λ (w : Context). b.atomic_block w s.span (view.exps objects) (findings c.in_ok-inner-in-Atomic.inner)) around ∙ (ap (b.atomic_block k s.span (view.exps objects)) inner ∙ sym shown))

pub statements-loop-x-init : goal.statements-loop-x-init
statements-loop-x-init t c =
    (c.nothing-so_far.ensures ∙ sym found_none, refl)

pub statements-loop-x-preserved : goal.statements-loop-x-preserved
statements-loop-x-preserved t c =
    let f = fixed c.args.around in
    let vs0 = known c.args.variables.now in
    let k = within f vs0 in
    let done = map view.stm (take c.loop-x.x-index c.args.all.now) in
    let y = view.stm c.x-item.result in
    let more = take_at view.stm c.args.all.now c.loop-x.x-index c.x-item.result c.loop-x-test.true c.x-item.is in
    let one = c.in_ok-one.ensures.violations ∙ ap (λ (vs : List Variable). violations (statement_pieces (within f vs) y)) c.loop-x.invariant.1 in (
      c.then-so_far.ensures ∙ (ap (λ (z : Violations). joined z (findings c.in_ok-one.one)) c.loop-x.invariant.0 ∙ (ap (joined (violations (in_statements k (stms_of done)))) one
          ∙ (sym (statements_found_more f vs0 done y) ∙ ap (λ (ss : List Stm). violations (in_statements k (stms_of ss))) (sym more)))),
      c.in_ok-know.ensures ∙ (ap (following y) (c.in_ok-one.ensures.kept ∙ c.loop-x.invariant.1) ∙ (sym (behind_all_more done y vs0) ∙ ap (λ (ss : List Stm). behind_all ss vs0) (sym more))),
    )

pub statements-keep-requires : goal.statements-keep-requires
statements-keep-requires t c =
    let vs0 = known c.args.variables.now in
    let done = map view.stm (take c.loop-x.x-index c.args.all.now) in
    let long : length (known c.loop-x.variables) ≡ length (behind_all done vs0) = ap length c.loop-x.invariant.1 in
    let least : length vs0 ≤ length (behind_all done vs0) = longer vs0 (behind_all done vs0) (grows_all done vs0) in
    let count : c.count-count.result ≡ length vs0 = c.count-count.ensures in
    omega arith

pub statements-returns-clause-violations : goal.statements-returns-clause-violations
statements-returns-clause-violations t c =
    c.loop-x.invariant.0 ∙ ap (λ (xs : List Stmt). violations (in_statements (within (fixed c.args.around) (known c.args.variables.now)) (stms_of (map view.stm xs)))) (take_all c.args.all.now c.loop-x.x-index (omega arith))

pub statements-returns-clause-kept : goal.statements-returns-clause-kept
statements-returns-clause-kept t c =
    let vs0 = known c.args.variables.now in
    let ws = known c.loop-x.variables in
    let done = map view.stm (take c.loop-x.x-index c.args.all.now) in
    let grown = grows_all done vs0 in
    let now : Grows vs0 ws = (grown.0, c.loop-x.invariant.1 ∙ grown.1) in
    c.keep.ensures ∙ (ap (λ (n : ℕ). drop (length ws - n) ws) c.count-count.ensures ∙ kept vs0 ws now)

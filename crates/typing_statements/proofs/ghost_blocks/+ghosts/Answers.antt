use Rattle.std.proofs.Common.{◌≡◌, ℕ, ◌≤◌, ◌-◌, refl, sym, ap, ◌∙◌, subst, List, map, take, drop, length, arith}
use Rattle.std.specs.Prelude.{IfOk}
use Rattle.std.specs.Option.{option_map}
use Rattle.c_syntax.specs.declared.expressions.Expr.{Expr}
use Rattle.c_syntax.specs.declared.ghosts.GhostStmt.{GhostStmt}
use Rattle.c_syntax.specs.Grammar.{ghosts_of}
use Rattle.c_syntax.specs.Ghosts.{GStm}
use Rattle.c_syntax.specs.Views as view
use Rattle.typing_spec.specs.Contexts.{Variable, Context}
use Rattle.typing_spec.specs.Pieces.{expression, in_ghosts}
use Rattle.typing_symbols.specs.Scopes.{known}
use Rattle.typing_expressions.specs.Violations.{Violations, Judged, violations, joined}
use Rattle.typing_expressions.specs.Views.{findings}
use Rattle.typing_statements.specs.Breaks as b
use Rattle.typing_statements.specs.Views.{fixed, within, behind_ghost, behind_ghosts, ghost_pieces}
use Rattle.typing_statements.proofs.GhostForms.{declare_is, assign_is, owns_is, destroy_is, wrap_is, unwrap_is, block_is, if_is, if_else_is}
use Rattle.typing_statements.proofs.Sequences.{Grows, kept, longer, grows_ghosts, ghost_block, ghosts_found_more, behind_ghosts_more}
use Rattle.typing_expressions.proofs.FoundLaws.{found_none}
use Rattle.typing_expressions.proofs.Rows.{take_at, take_all}
use Rattle.typing_statements.proofs.ghost_blocks.+ghosts.Goals as goal

-- what a statement is, which is of this form
of_form : (c : Context) (x y : GhostStmt) (f : Violations) → x ≡ y → violations (ghost_pieces c (view.ghost y)) ≡ f → f ≡ violations (ghost_pieces c (view.ghost x))
of_form c x y f h k = sym (ap (λ (z : GhostStmt). violations (ghost_pieces c (view.ghost z))) h ∙ k)

pub ghost_statement-returns-in-Block-clause-violations : goal.ghost_statement-returns-in-Block-clause-violations
ghost_statement-returns-in-Block-clause-violations t c =
    let k = (within (fixed c.args.around) (known c.args.variables.now)) in
    let items = c.deref.result.now in
    let shown = ap (λ (s : GStm). violations (ghost_pieces k s)) (ghost_block c.args.x.now c.in-Block.field-0 c.in-Block.all items c.in-Block.is c.deref.ensures.value) ∙ block_is k c.in-Block.field-0 (ghosts_of (map view.ghost items)) in
    subst (λ (z : Violations). IfOk c.ghost_statements.result (λ f. findings f ≡ z)) (sym shown) c.ghost_statements.ensures.violations

pub ghost_statement-returns-in-Declare-clause-violations : goal.ghost_statement-returns-in-Declare-clause-violations
ghost_statement-returns-in-Declare-clause-violations t c =
    let s = c.in-Declare in
    let x = option_map view.ghost_rhs s.first in
    c.ghost_declaration.ensures ∙ (ap (λ (w : Context). b.ghost_declaration w s.span (view.ty s.ty) x) c.context-context.ensures ∙ of_form (within (fixed c.args.around) (known c.args.variables.now)) c.args.x.now _ _ c.in-Declare.is (declare_is (within (fixed c.args.around) (known c.args.variables.now)) s.span (view.ty s.ty) (view.id s.field-2) x))

pub ghost_statement-returns-in-Assign-clause-violations : goal.ghost_statement-returns-in-Assign-clause-violations
ghost_statement-returns-in-Assign-clause-violations t c =
    let s = c.in-Assign in
    c.ghost_assignment.ensures ∙ (ap (λ (w : Context). b.ghost_assignment w (view.exp s.left) (view.ghost_rhs s.value)) c.context-context.ensures ∙ of_form (within (fixed c.args.around) (known c.args.variables.now)) c.args.x.now _ _ c.in-Assign.is (assign_is (within (fixed c.args.around) (known c.args.variables.now)) s.field-0 (view.exp s.left) s.field-2 (view.ghost_rhs s.value)))

pub ghost_statement-returns-in-Owns-clause-violations : goal.ghost_statement-returns-in-Owns-clause-violations
ghost_statement-returns-in-Owns-clause-violations t c =
    let s = c.in-Owns in
    c.owned_set_change.ensures ∙ (ap (λ (w : Context). b.owned_set_change w (view.exp s.left) (view.owns s.change)) c.context-context.ensures ∙ of_form (within (fixed c.args.around) (known c.args.variables.now)) c.args.x.now _ _ c.in-Owns.is (owns_is (within (fixed c.args.around) (known c.args.variables.now)) s.field-0 (view.exp s.left) s.field-2 (view.owns s.change)))

pub ghost_statement-returns-in-DestroyClaim-clause-violations : goal.ghost_statement-returns-in-DestroyClaim-clause-violations
ghost_statement-returns-in-DestroyClaim-clause-violations t c =
    let s = c.in-DestroyClaim in
    c.claim_end.ensures ∙ (ap (λ (w : Context). b.claim_end w (view.exp s.claim) (view.exps c.deref-in-DestroyClaim.result.now)) c.context-context.ensures
    ∙ (ap (λ (xs : List Expr). b.claim_end (within (fixed c.args.around) (known c.args.variables.now)) (view.exp s.claim) (view.exps xs)) c.deref-in-DestroyClaim.ensures.value ∙ of_form (within (fixed c.args.around) (known c.args.variables.now)) c.args.x.now _ _ c.in-DestroyClaim.is (destroy_is (within (fixed c.args.around) (known c.args.variables.now)) s.field-0 (view.exp s.claim) (view.exps s.objects.items))))

pub ghost_statement-returns-in-Wrap-clause-violations : goal.ghost_statement-returns-in-Wrap-clause-violations
ghost_statement-returns-in-Wrap-clause-violations t c =
    let s = c.in-Wrap in
    c.ghost_wrap.ensures ∙ (ap (λ (w : Context). b.wrapping w s.span (view.exp s.object)) c.context-context.ensures ∙ of_form (within (fixed c.args.around) (known c.args.variables.now)) c.args.x.now _ _ c.in-Wrap.is (wrap_is (within (fixed c.args.around) (known c.args.variables.now)) s.span (view.exp s.object)))

pub ghost_statement-returns-in-Unwrap-clause-violations : goal.ghost_statement-returns-in-Unwrap-clause-violations
ghost_statement-returns-in-Unwrap-clause-violations t c =
    let s = c.in-Unwrap in
    c.ghost_wrap-in-Unwrap.ensures ∙ (ap (λ (w : Context). b.wrapping w s.span (view.exp s.object)) c.context-context.ensures ∙ of_form (within (fixed c.args.around) (known c.args.variables.now)) c.args.x.now _ _ c.in-Unwrap.is (unwrap_is (within (fixed c.args.around) (known c.args.variables.now)) s.span (view.exp s.object)))

pub ghost_statement-returns-in_ok-inner-in-If-clause-violations : goal.ghost_statement-returns-in_ok-inner-in-If-clause-violations
ghost_statement-returns-in_ok-inner-in-If-clause-violations t c =
    let k = (within (fixed c.args.around) (known c.args.variables.now)) in
    let s = c.in-If in
    let test = ap (λ (j : Judged). j.violations) c.expression.ensures ∙ ap (λ (w : Context). violations (expression w (view.exp s.test))) c.context-context.ensures in
    let inner = c.in_ok-inner-in-If.ensures.violations ∙ ap (λ (z : GhostStmt). violations (ghost_pieces k (view.ghost z))) c.deref-in-If.ensures in
    c.then.ensures ∙ (ap (λ (f : Violations). joined f (findings c.in_ok-inner-in-If.inner)) test ∙ (ap (joined (violations (expression k (view.exp s.test)))) inner
    ∙ of_form k c.args.x.now _ _ s.is (if_is k s.field-0 (view.exp s.test) (view.ghost s.yes.value))))

pub ghost_statement-returns-in_ok-no-in-IfElse-clause-violations : goal.ghost_statement-returns-in_ok-no-in-IfElse-clause-violations
ghost_statement-returns-in_ok-no-in-IfElse-clause-violations t c =
    let k = (within (fixed c.args.around) (known c.args.variables.now)) in
    let s = c.in-IfElse in
    let test = ap (λ (j : Judged). j.violations) c.expression-in-IfElse.ensures ∙ ap (λ (w : Context). violations (expression w (view.exp s.test))) c.context-context.ensures in
    let yes = c.in_ok-yes-in-IfElse.ensures.violations ∙ ap (λ (z : GhostStmt). violations (ghost_pieces k (view.ghost z))) c.deref-in-IfElse.ensures in
    let no = c.in_ok-no-in-IfElse.ensures.violations ∙ (ap (λ (vs : List Variable). violations (ghost_pieces (within (fixed c.args.around) vs) (view.ghost c.deref-in-IfElse-2.result.now))) c.in_ok-yes-in-IfElse.ensures.kept
    ∙ ap (λ (z : GhostStmt). violations (ghost_pieces k (view.ghost z))) c.deref-in-IfElse-2.ensures) in
    c.then-in-IfElse-2.ensures
    ∙ (ap (λ (f : Violations). joined f (findings c.then-in-IfElse.result)) test
    ∙ (ap (joined (violations (expression k (view.exp s.test)))) (c.then-in-IfElse.ensures ∙ (ap (λ (f : Violations). joined f (findings c.in_ok-no-in-IfElse.no)) yes ∙ ap (joined (violations (ghost_pieces k (view.ghost s.first.value)))) no))
    ∙ of_form k c.args.x.now _ _ s.is (if_else_is k s.field-0 (view.exp s.test) (view.ghost s.first.value) (view.ghost s.second.value))))

pub ghost_statements-loop-x-init : goal.ghost_statements-loop-x-init
ghost_statements-loop-x-init t c =
    (c.nothing-so_far.ensures ∙ sym found_none, refl)

pub ghost_statements-loop-x-preserved : goal.ghost_statements-loop-x-preserved
ghost_statements-loop-x-preserved t c =
    let f = fixed c.args.around in
    let vs0 = known c.args.variables.now in
    let k = within f vs0 in
    let done = map view.ghost (take c.loop-x.x-index c.args.all.now) in
    let y = view.ghost c.x-item.result in
    let more = take_at view.ghost c.args.all.now c.loop-x.x-index c.x-item.result c.loop-x-test.true c.x-item.is in
    let one = c.in_ok-one.ensures.violations ∙ ap (λ (vs : List Variable). violations (ghost_pieces (within f vs) y)) c.loop-x.invariant.1 in (
      c.then-so_far.ensures ∙ (ap (λ (z : Violations). joined z (findings c.in_ok-one.one)) c.loop-x.invariant.0 ∙ (ap (joined (violations (in_ghosts k (ghosts_of done)))) one
          ∙ (sym (ghosts_found_more f vs0 done y) ∙ ap (λ (ss : List GStm). violations (in_ghosts k (ghosts_of ss))) (sym more)))),
      c.in_ok-know_ghost.ensures ∙ (ap (behind_ghost y) (c.in_ok-one.ensures.kept ∙ c.loop-x.invariant.1) ∙ (sym (behind_ghosts_more done y vs0) ∙ ap (λ (ss : List GStm). behind_ghosts ss vs0) (sym more))),
    )

pub ghost_statements-keep-requires : goal.ghost_statements-keep-requires
ghost_statements-keep-requires t c =
    let vs0 = known c.args.variables.now in
    let done = map view.ghost (take c.loop-x.x-index c.args.all.now) in
    let long : length (known c.loop-x.variables) ≡ length (behind_ghosts done vs0) = ap length c.loop-x.invariant.1 in
    let least : length vs0 ≤ length (behind_ghosts done vs0) = longer vs0 (behind_ghosts done vs0) (grows_ghosts done vs0) in
    let count : c.count-count.result ≡ length vs0 = c.count-count.ensures in
    omega arith

pub ghost_statements-returns-clause-violations : goal.ghost_statements-returns-clause-violations
ghost_statements-returns-clause-violations t c =
    c.loop-x.invariant.0 ∙ ap (λ (xs : List GhostStmt). violations (in_ghosts (within (fixed c.args.around) (known c.args.variables.now)) (ghosts_of (map view.ghost xs)))) (take_all c.args.all.now c.loop-x.x-index (omega arith))

pub ghost_statements-returns-clause-kept : goal.ghost_statements-returns-clause-kept
ghost_statements-returns-clause-kept t c =
    let vs0 = known c.args.variables.now in
    let ws = known c.loop-x.variables in
    let done = map view.ghost (take c.loop-x.x-index c.args.all.now) in
    let grown = grows_ghosts done vs0 in
    let now : Grows vs0 ws = (grown.0, c.loop-x.invariant.1 ∙ grown.1) in
    c.keep.ensures ∙ (ap (λ (n : ℕ). drop (length ws - n) ws) c.count-count.ensures ∙ kept vs0 ws now)

use Rattle.std.proofs.Common.{◌≡◌, ℕ, ◌≤◌, ◌-◌, refl, sym, ap, ◌∙◌, List, map, take, drop, length, arith}
use Rattle.c_syntax.specs.declared.statements.Stmt.{Stmt}
use Rattle.c_syntax.specs.Grammar.{stms_of}
use Rattle.c_syntax.specs.Statements.{Stm}
use Rattle.c_syntax.specs.Views as view
use Rattle.typing_spec.specs.Contexts.{Variable}
use Rattle.typing_symbols.specs.Scopes.{known}
use Rattle.typing_expressions.proofs.Rows.{take_at, take_all}
use Rattle.elab_annotations.proofs.Steps.{told}
use Rattle.elab_assignments.specs.Views.{before}
use Rattle.typing_statements.specs.Views.{following, behind_all}
use Rattle.typing_statements.proofs.Sequences.{Grows, kept, longer, grows_all, block_stm, behind_all_more}
use Rattle.typed_program.specs.Statements.{Counters}
use Rattle.elab_statements.specs.Rows.{TypedInner, inner, typed_inner, typed_inners}
use Rattle.elab_statements.specs.Settings.{setting, at}
use Rattle.elab_statements.proofs.InnerForms.{assign_is}
use Rattle.elab_statements.proofs.Sequences.{inners_law, no_inners}
use Rattle.elab_statements.proofs.Steps.{inner_form, inner_behind}
use Rattle.elab_statements.proofs.inner.+inner_statements.Goals as goal

pub inner_statement-returns-in-Block-clause-typed : goal.inner_statement-returns-in-Block-clause-typed
inner_statement-returns-in-Block-clause-typed t c =
    let k = at (setting c.args.setting) (known c.args.variables.now) in
    told inner c.inner_statements.result c.inner_statements.ensures.typed (ap (λ (s : Stm). typed_inner k (before c.args.before) s) (sym (block_stm c.args.x.now c.in-Block.field-0 c.in-Block.all c.in-Block.field-2 c.deref.result.now c.in-Block.is c.deref.ensures.value)))

pub inner_statement-returns-in-Assign-clause-typed : goal.inner_statement-returns-in-Assign-clause-typed
inner_statement-returns-in-Assign-clause-typed t c =
    let k = at (setting c.args.setting) (known c.args.variables.now) in
    let n = before c.args.before in
    let s = c.in-Assign in
    told inner c.assignment.result c.assignment.ensures (assign_is {a = k} n s.span (view.assignment s.change) refl ∙ inner_form k n c.args.x.now _ s.is)

pub inner_statement-returns-in-Ghost-clause-typed : goal.inner_statement-returns-in-Ghost-clause-typed
inner_statement-returns-in-Ghost-clause-typed t c =
    let k = at (setting c.args.setting) (known c.args.variables.now) in
    let n = before c.args.before in
    told inner c.inner_ghost.result c.inner_ghost.ensures.typed (inner_form k n c.args.x.now _ c.in-Ghost.is)

pub inner_statements-loop-x-init : goal.inner_statements-loop-x-init
inner_statements-loop-x-init t c =
    (c.nothing-so_far.ensures ∙ no_inners (setting c.args.setting) (known c.args.variables.now) (before c.args.before), refl)

pub inner_statements-loop-x-preserved : goal.inner_statements-loop-x-preserved
inner_statements-loop-x-preserved t c =
    let f = setting c.args.setting in
    let vs0 = known c.args.variables.now in
    let n = before c.args.before in
    let done = map view.stm (take c.loop-x.x-index c.args.all.now) in
    let y = view.stm c.x-item.result in
    let more = take_at view.stm c.args.all.now c.loop-x.x-index c.x-item.result c.loop-x-test.true c.x-item.is in
    let one = c.in_ok-one.ensures.typed ∙ (ap (λ (vs : List Variable). typed_inner (at f vs) (before c.loop-x.so_far.next) y) c.loop-x.invariant.1 ∙ ap (λ (m : Counters). typed_inner (at f (behind_all done vs0)) m y) (ap (λ (r : TypedInner). r.next) c.loop-x.invariant.0)) in (
      c.in_ok-so_far.ensures ∙ (inner_behind c.loop-x.invariant.0 one ∙ (inners_law f vs0 n done y ∙ ap (λ (ss : List Stm). typed_inners (at f vs0) n (stms_of ss)) (sym more))),
      c.in_ok-know.ensures ∙ (ap (following y) (c.in_ok-one.ensures.kept ∙ c.loop-x.invariant.1) ∙ (sym (behind_all_more done y vs0) ∙ ap (λ (ss : List Stm). behind_all ss vs0) (sym more))),
    )

pub inner_statements-keep-requires : goal.inner_statements-keep-requires
inner_statements-keep-requires t c =
    let vs0 = known c.args.variables.now in
    let done = map view.stm (take c.loop-x.x-index c.args.all.now) in
    let long : length (known c.loop-x.variables) ≡ length (behind_all done vs0) = ap length c.loop-x.invariant.1 in
    let least : length vs0 ≤ length (behind_all done vs0) = longer vs0 (behind_all done vs0) (grows_all done vs0) in
    let count : c.count-count.result ≡ length vs0 = c.count-count.ensures in
    omega arith

pub inner_statements-returns-clause-typed : goal.inner_statements-returns-clause-typed
inner_statements-returns-clause-typed t c =
    c.loop-x.invariant.0 ∙ ap (λ (xs : List Stmt). typed_inners (at (setting c.args.setting) (known c.args.variables.now)) (before c.args.before) (stms_of (map view.stm xs))) (take_all c.args.all.now c.loop-x.x-index (omega arith))

pub inner_statements-returns-clause-kept : goal.inner_statements-returns-clause-kept
inner_statements-returns-clause-kept t c =
    let vs0 = known c.args.variables.now in
    let ws = known c.loop-x.variables in
    let done = map view.stm (take c.loop-x.x-index c.args.all.now) in
    let grown = grows_all done vs0 in
    let now : Grows vs0 ws = (grown.0, c.loop-x.invariant.1 ∙ grown.1) in
    c.keep.ensures ∙ (ap (λ (n : ℕ). drop (length ws - n) ws) c.count-count.ensures ∙ kept vs0 ws now)

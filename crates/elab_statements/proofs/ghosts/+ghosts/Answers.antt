use Rattle.std.proofs.Common.{◌≡◌, ℕ, ◌≤◌, ◌-◌, refl, sym, ap, ◌∙◌, List, map, take, drop, length, arith}
use Rattle.c_syntax.specs.declared.ghosts.GhostStmt.{GhostStmt}
use Rattle.c_syntax.specs.Grammar.{ghosts_of}
use Rattle.c_syntax.specs.Ghosts.{GStm}
use Rattle.c_syntax.specs.Views as view
use Rattle.typing_spec.specs.Contexts.{Variable}
use Rattle.typing_symbols.specs.Scopes.{known}
use Rattle.typing_expressions.proofs.Rows.{take_at, take_all}
use Rattle.elab_annotations.proofs.Steps.{told}
use Rattle.elab_assignments.specs.Views.{before}
use Rattle.typing_statements.specs.Views.{behind_ghost, behind_ghosts}
use Rattle.typing_statements.proofs.Sequences.{Grows, kept, longer, grows_ghosts, ghost_block, behind_ghosts_more}
use Rattle.typed_program.specs.Statements.{Counters}
use Rattle.elab_statements.specs.Rows.{Typed, row, typed_ghost, typed_ghosts}
use Rattle.elab_statements.specs.Settings.{setting, at}
use Rattle.elab_statements.proofs.GhostForms.{if_step, if_else_step}
use Rattle.elab_statements.proofs.Groups.{ghost_alone}
use Rattle.elab_statements.proofs.Sequences.{ghosts_law, no_ghosts}
use Rattle.elab_statements.proofs.Steps.{ghost_form, behind_each_other}
use Rattle.elab_statements.proofs.ghosts.+ghosts.Goals as goal

pub ghost_statement-returns-in-Block-clause-typed : goal.ghost_statement-returns-in-Block-clause-typed
ghost_statement-returns-in-Block-clause-typed t c =
    let k = at (setting c.args.setting) (known c.args.variables.now) in
    told row c.ghost_statements.result c.ghost_statements.ensures.typed (ap (λ (s : GStm). typed_ghost k (before c.args.before) s) (sym (ghost_block c.args.x.now c.in-Block.field-0 c.in-Block.all c.deref.result.now c.in-Block.is c.deref.ensures.value)))

pub ghost_statement-returns-in-Declare-clause-typed : goal.ghost_statement-returns-in-Declare-clause-typed
ghost_statement-returns-in-Declare-clause-typed t c =
    let k = at (setting c.args.setting) (known c.args.variables.now) in
    told row c.action_row.result c.action_row.ensures (ghost_alone k (before c.args.before) c.in-Declare.span c.args.x.now c.in-Declare.is)

pub ghost_statement-returns-in_ok-inner-in-If-clause-typed : goal.ghost_statement-returns-in_ok-inner-in-If-clause-typed
ghost_statement-returns-in_ok-inner-in-If-clause-typed t c =
    let k = at (setting c.args.setting) (known c.args.variables.now) in
    let n = before c.args.before in
    let s = c.in-If in
    let around = ap (λ (vs : List Variable). at (setting c.args.setting) vs) c.in_ok-inner-in-If.ensures.kept in
    let part = c.in_ok-inner-in-If.ensures.typed ∙ ap (λ (z : GhostStmt). typed_ghost k n (view.ghost z)) c.deref-in-If.ensures in
    told row c.if_row.result c.if_row.ensures (if_step n s.span (view.exp s.test) (view.ghost s.yes.value) around part ∙ ghost_form k n c.args.x.now _ s.is)

pub ghost_statement-returns-in_ok-no-in-IfElse-clause-typed : goal.ghost_statement-returns-in_ok-no-in-IfElse-clause-typed
ghost_statement-returns-in_ok-no-in-IfElse-clause-typed t c =
    let k = at (setting c.args.setting) (known c.args.variables.now) in
    let n = before c.args.before in
    let s = c.in-IfElse in
    let yes = c.in_ok-yes-in-IfElse.ensures.typed ∙ ap (λ (z : GhostStmt). typed_ghost k n (view.ghost z)) c.deref-in-IfElse.ensures in
    let no = c.in_ok-no-in-IfElse.ensures.typed ∙ (ap (λ (vs : List Variable). typed_ghost (at (setting c.args.setting) vs) (before c.in_ok-yes-in-IfElse.yes.next) (view.ghost c.deref-in-IfElse-2.result.now)) c.in_ok-yes-in-IfElse.ensures.kept
    ∙ ap (λ (z : GhostStmt). typed_ghost k (before c.in_ok-yes-in-IfElse.yes.next) (view.ghost z)) c.deref-in-IfElse-2.ensures) in
    let around = ap (λ (vs : List Variable). at (setting c.args.setting) vs) (c.in_ok-no-in-IfElse.ensures.kept ∙ c.in_ok-yes-in-IfElse.ensures.kept) in
    told row c.if_else_row.result c.if_else_row.ensures (if_else_step n s.span (view.exp s.test) (view.ghost s.first.value) (view.ghost s.second.value) around yes no ∙ ghost_form k n c.args.x.now _ s.is)

pub ghost_statements-loop-x-init : goal.ghost_statements-loop-x-init
ghost_statements-loop-x-init t c =
    (c.nothing-so_far.ensures ∙ no_ghosts (setting c.args.setting) (known c.args.variables.now) (before c.args.before), refl)

pub ghost_statements-loop-x-preserved : goal.ghost_statements-loop-x-preserved
ghost_statements-loop-x-preserved t c =
    let f = setting c.args.setting in
    let vs0 = known c.args.variables.now in
    let n = before c.args.before in
    let done = map view.ghost (take c.loop-x.x-index c.args.all.now) in
    let y = view.ghost c.x-item.result in
    let more = take_at view.ghost c.args.all.now c.loop-x.x-index c.x-item.result c.loop-x-test.true c.x-item.is in
    let one = c.in_ok-one.ensures.typed ∙ (ap (λ (vs : List Variable). typed_ghost (at f vs) (before c.loop-x.so_far.next) y) c.loop-x.invariant.1 ∙ ap (λ (m : Counters). typed_ghost (at f (behind_ghosts done vs0)) m y) (ap (λ (r : Typed). r.next) c.loop-x.invariant.0)) in (
      c.in_ok-so_far.ensures ∙ (behind_each_other c.loop-x.invariant.0 one ∙ (ghosts_law f vs0 n done y ∙ ap (λ (ss : List GStm). typed_ghosts (at f vs0) n (ghosts_of ss)) (sym more))),
      c.in_ok-know_ghost.ensures ∙ (ap (behind_ghost y) (c.in_ok-one.ensures.kept ∙ c.loop-x.invariant.1) ∙ (sym (behind_ghosts_more done y vs0) ∙ ap (λ (ss : List GStm). behind_ghosts ss vs0) (sym more))),
    )

pub ghost_statements-keep-requires : goal.ghost_statements-keep-requires
ghost_statements-keep-requires t c =
    let vs0 = known c.args.variables.now in
    let done = map view.ghost (take c.loop-x.x-index c.args.all.now) in
    let long : length (known c.loop-x.variables) ≡ length (behind_ghosts done vs0) = ap length c.loop-x.invariant.1 in
    let least : length vs0 ≤ length (behind_ghosts done vs0) = longer vs0 (behind_ghosts done vs0) (grows_ghosts done vs0) in
    let count : c.count-count.result ≡ length vs0 = c.count-count.ensures in
    omega arith

pub ghost_statements-returns-clause-typed : goal.ghost_statements-returns-clause-typed
ghost_statements-returns-clause-typed t c =
    c.loop-x.invariant.0 ∙ ap (λ (xs : List GhostStmt). typed_ghosts (at (setting c.args.setting) (known c.args.variables.now)) (before c.args.before) (ghosts_of (map view.ghost xs))) (take_all c.args.all.now c.loop-x.x-index (omega arith))

pub ghost_statements-returns-clause-kept : goal.ghost_statements-returns-clause-kept
ghost_statements-returns-clause-kept t c =
    let vs0 = known c.args.variables.now in
    let ws = known c.loop-x.variables in
    let done = map view.ghost (take c.loop-x.x-index c.args.all.now) in
    let grown = grows_ghosts done vs0 in
    let now : Grows vs0 ws = (grown.0, c.loop-x.invariant.1 ∙ grown.1) in
    c.keep.ensures ∙ (ap (λ (n : ℕ). drop (length ws - n) ws) c.count-count.ensures ∙ kept vs0 ws now)

use Rattle.std.proofs.Common.{◌≡◌, ℕ, ◌≤◌, ◌-◌, refl, sym, ap, ◌∙◌, List, map, take, drop, length, arith}
use Rattle.c_syntax.specs.declared.statements.Stmt.{Stmt}
use Rattle.c_syntax.specs.Grammar.{stms_of}
use Rattle.c_syntax.specs.Statements.{Stm}
use Rattle.c_syntax.specs.Views as view
use Rattle.typing_spec.specs.Contexts.{Variable}
use Rattle.typing_symbols.specs.Scopes.{known}
use Rattle.typing_expressions.proofs.Rows.{take_at, take_all}
use Rattle.elab_annotations.proofs.Steps.{told}
use Rattle.elab_assignments.specs.Views.{before}
use Rattle.typing_statements.specs.Views.{following, behind_all}
use Rattle.typing_statements.proofs.Sequences.{Grows, kept, longer, grows_all, block_stm, unwrapping_stm, atomic_stm, behind_all_more}
use Rattle.typed_program.specs.Statements.{Counters}
use Rattle.elab_clauses.specs.Numberings.{numbering}
use Rattle.elab_statements.specs.Shaped.{typed_statement, typed_statements}
use Rattle.elab_statements.specs.Rows.{Typed, row}
use Rattle.elab_statements.specs.Settings.{setting, at}
use Rattle.elab_statements.proofs.Forms.{ghost_law, statements_law, no_statements}
use Rattle.elab_statements.proofs.Groups.{action_alone, loop_step, simple_alone}
use Rattle.elab_statements.proofs.StatementSteps.{from, form, told_here, if_step, if_else_step, unwrapping_step, atomic_step}
use Rattle.elab_statements.proofs.Steps.{behind_each_other}
use Rattle.elab_statements.proofs.statements.+statements.Goals as goal

pub statement-returns-in-Block-clause-typed : goal.statement-returns-in-Block-clause-typed
statement-returns-in-Block-clause-typed t c =
    let k = at (setting c.args.setting) (known c.args.variables.now) in
    let j = numbering c.args.numbering in
    told row c.statements.result c.statements.ensures.typed (ap (λ (s : Stm). typed_statement j k (before c.args.before) s) (sym (block_stm c.args.x.now c.in-Block.field-0 c.in-Block.all c.in-Block.field-2 c.deref.result.now c.in-Block.is c.deref.ensures.value)))

pub statement-returns-in-Skip-clause-typed : goal.statement-returns-in-Skip-clause-typed
statement-returns-in-Skip-clause-typed t c =
    let k = at (setting c.args.setting) (known c.args.variables.now) in
    told row c.simple_row.result c.simple_row.ensures (simple_alone (numbering c.args.numbering) k (before c.args.before) c.args.x.now c.in-Skip.is)

pub statement-returns-in_ok-inner-in-If-clause-typed : goal.statement-returns-in_ok-inner-in-If-clause-typed
statement-returns-in_ok-inner-in-If-clause-typed t c =
    let k = at (setting c.args.setting) (known c.args.variables.now) in
    let j = numbering c.args.numbering in
    let n = before c.args.before in
    let s = c.in-If in
    let around = ap (λ (vs : List Variable). at (setting c.args.setting) vs) c.in_ok-inner-in-If.ensures.kept in
    let inner = c.in_ok-inner-in-If.ensures.typed ∙ ap (λ (z : Stmt). typed_statement j k n (view.stm z)) c.deref-in-If.ensures in
    told row c.if_row.result c.if_row.ensures (if_step j n s.span (view.exp s.test) (view.stm s.yes.value) around inner ∙ form j k n c.args.x.now _ s.is)

pub statement-returns-in_ok-no-in-IfElse-clause-typed : goal.statement-returns-in_ok-no-in-IfElse-clause-typed
statement-returns-in_ok-no-in-IfElse-clause-typed t c =
    let k = at (setting c.args.setting) (known c.args.variables.now) in
    let j = numbering c.args.numbering in
    let n = before c.args.before in
    let s = c.in-IfElse in
    let yes = c.in_ok-yes-in-IfElse.ensures.typed ∙ ap (λ (z : Stmt). typed_statement j k n (view.stm z)) c.deref-in-IfElse.ensures in
    let no = c.in_ok-no-in-IfElse.ensures.typed ∙ (ap (λ (vs : List Variable). typed_statement j (at (setting c.args.setting) vs) (before c.in_ok-yes-in-IfElse.yes.next) (view.stm c.deref-in-IfElse-2.result.now)) c.in_ok-yes-in-IfElse.ensures.kept
    ∙ ap (λ (z : Stmt). typed_statement j k (before c.in_ok-yes-in-IfElse.yes.next) (view.stm z)) c.deref-in-IfElse-2.ensures) in
    let around = ap (λ (vs : List Variable). at (setting c.args.setting) vs) (c.in_ok-no-in-IfElse.ensures.kept ∙ c.in_ok-yes-in-IfElse.ensures.kept) in
    told row c.if_else_row.result c.if_else_row.ensures (if_else_step j n s.span (view.exp s.test) (view.stm s.first.value) (view.stm s.second.value) around yes no ∙ form j k n c.args.x.now _ s.is)

pub statement-returns-in_ok-inner-in-While-clause-typed : goal.statement-returns-in_ok-inner-in-While-clause-typed
statement-returns-in_ok-inner-in-While-clause-typed t c =
    let k = at (setting c.args.setting) (known c.args.variables.now) in
    let j = numbering c.args.numbering in
    let n = before c.args.before in
    let s = c.in-While in
    let all = c.in_ok-told-in-While.ensures ∙ told_here j n.formulas c.around-around.ensures c.deref-in-While.ensures.value in
    let around = ap (λ (vs : List Variable). at (setting c.args.setting) vs) c.in_ok-inner-in-While.ensures.kept in
    let inner = c.in_ok-inner-in-While.ensures.typed ∙ ap (λ (z : Stmt). typed_statement j k (from n c.in_ok-told-in-While.told.next) (view.stm z)) c.deref-in-While-2.ensures in
    told row c.loop_row.result c.loop_row.ensures (loop_step j n c.args.x.now s.all s.body around all inner s.is)

pub statement-returns-in-Spawn-clause-typed : goal.statement-returns-in-Spawn-clause-typed
statement-returns-in-Spawn-clause-typed t c =
    let k = at (setting c.args.setting) (known c.args.variables.now) in
    told row c.action_row.result c.action_row.ensures (action_alone (numbering c.args.numbering) k (before c.args.before) c.in-Spawn.span c.args.x.now c.in-Spawn.is)

pub statement-returns-in-Ghost-clause-typed : goal.statement-returns-in-Ghost-clause-typed
statement-returns-in-Ghost-clause-typed t c =
    let k = at (setting c.args.setting) (known c.args.variables.now) in
    let j = numbering c.args.numbering in
    let n = before c.args.before in
    let s = c.in-Ghost in
    told row c.ghost_statement.result c.ghost_statement.ensures.typed (ghost_law j k n s.field-0 (view.ghost s.inner) ∙ form j k n c.args.x.now _ s.is)

pub statement-returns-in_ok-inner-in-Unwrapping-clause-typed : goal.statement-returns-in_ok-inner-in-Unwrapping-clause-typed
statement-returns-in_ok-inner-in-Unwrapping-clause-typed t c =
    let k = at (setting c.args.setting) (known c.args.variables.now) in
    let j = numbering c.args.numbering in
    let n = before c.args.before in
    let s = c.in-Unwrapping in
    let items = c.deref-in-Unwrapping.result.now in
    let ss = stms_of (map view.stm items) in
    let around = ap (λ (vs : List Variable). at (setting c.args.setting) vs) c.in_ok-inner-in-Unwrapping.ensures.kept in
    let shown = ap (λ (z : Stm). typed_statement j k n z) (unwrapping_stm c.args.x.now s.span s.object s.all s.field-3 items s.is c.deref-in-Unwrapping.ensures.value) in
    told row c.unwrapping_row.result c.unwrapping_row.ensures (unwrapping_step j n s.span (view.exp s.object) ss s.field-3 around c.in_ok-start-in-Unwrapping.ensures c.in_ok-inner-in-Unwrapping.ensures.typed ∙ sym shown)

pub statement-returns-in_ok-inner-in-Atomic-clause-typed : goal.statement-returns-in_ok-inner-in-Atomic-clause-typed
statement-returns-in_ok-inner-in-Atomic-clause-typed t c =
    let k = at (setting c.args.setting) (known c.args.variables.now) in
    let j = numbering c.args.numbering in
    let n = before c.args.before in
    let s = c.in-Atomic in
    let items = c.deref-in-Atomic.result.now in
    let objects = c.deref-in-Atomic-2.result.now in
    let ss = stms_of (map view.stm items) in
    let around = ap (λ (vs : List Variable). at (setting c.args.setting) vs) c.in_ok-inner-in-Atomic.ensures.kept in
    let shown = ap (λ (z : Stm). typed_statement j k n z) (atomic_stm c.args.x.now s.span s.objects s.all s.field-3 objects items s.is c.deref-in-Atomic-2.ensures.value c.deref-in-Atomic.ensures.value) in
    told row c.atomic_row.result c.atomic_row.ensures (atomic_step j n s.span (view.exps objects) ss s.field-3 around c.in_ok-inner-in-Atomic.ensures.typed ∙ sym shown)

pub statements-loop-x-init : goal.statements-loop-x-init
statements-loop-x-init t c =
    (c.nothing-so_far.ensures ∙ no_statements (numbering c.args.numbering) (setting c.args.setting) (known c.args.variables.now) (before c.args.before), refl)

pub statements-loop-x-preserved : goal.statements-loop-x-preserved
statements-loop-x-preserved t c =
    let f = setting c.args.setting in
    let j = numbering c.args.numbering in
    let vs0 = known c.args.variables.now in
    let n = before c.args.before in
    let done = map view.stm (take c.loop-x.x-index c.args.all.now) in
    let y = view.stm c.x-item.result in
    let more = take_at view.stm c.args.all.now c.loop-x.x-index c.x-item.result c.loop-x-test.true c.x-item.is in
    let one = c.in_ok-one.ensures.typed ∙ (ap (λ (vs : List Variable). typed_statement j (at f vs) (before c.loop-x.so_far.next) y) c.loop-x.invariant.1 ∙ ap (λ (m : Counters). typed_statement j (at f (behind_all done vs0)) m y) (ap (λ (r : Typed). r.next) c.loop-x.invariant.0)) in (
      c.in_ok-so_far.ensures ∙ (behind_each_other c.loop-x.invariant.0 one ∙ (statements_law j f vs0 n done y ∙ ap (λ (ss : List Stm). typed_statements j (at f vs0) n (stms_of ss)) (sym more))),
      c.in_ok-know.ensures ∙ (ap (following y) (c.in_ok-one.ensures.kept ∙ c.loop-x.invariant.1) ∙ (sym (behind_all_more done y vs0) ∙ ap (λ (ss : List Stm). behind_all ss vs0) (sym more))),
    )

pub statements-keep-requires : goal.statements-keep-requires
statements-keep-requires t c =
    let vs0 = known c.args.variables.now in
    let done = map view.stm (take c.loop-x.x-index c.args.all.now) in
    let long : length (known c.loop-x.variables) ≡ length (behind_all done vs0) = ap length c.loop-x.invariant.1 in
    let least : length vs0 ≤ length (behind_all done vs0) = longer vs0 (behind_all done vs0) (grows_all done vs0) in
    let count : c.count-count.result ≡ length vs0 = c.count-count.ensures in
    omega arith

pub statements-returns-clause-typed : goal.statements-returns-clause-typed
statements-returns-clause-typed t c =
    c.loop-x.invariant.0 ∙ ap (λ (xs : List Stmt). typed_statements (numbering c.args.numbering) (at (setting c.args.setting) (known c.args.variables.now)) (before c.args.before) (stms_of (map view.stm xs))) (take_all c.args.all.now c.loop-x.x-index (omega arith))

pub statements-returns-clause-kept : goal.statements-returns-clause-kept
statements-returns-clause-kept t c =
    let vs0 = known c.args.variables.now in
    let ws = known c.loop-x.variables in
    let done = map view.stm (take c.loop-x.x-index c.args.all.now) in
    let grown = grows_all done vs0 in
    let now : Grows vs0 ws = (grown.0, c.loop-x.invariant.1 ∙ grown.1) in
    c.keep.ensures ∙ (ap (λ (n : ℕ). drop (length ws - n) ws) c.count-count.ensures ∙ kept vs0 ws now)

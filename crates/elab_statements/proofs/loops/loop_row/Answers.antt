use Rattle.std.proofs.Common.{sym, ap, ◌∙◌}
use Rattle.std.specs.Option.{option_map}
use Rattle.c_syntax.specs.declared.statements.Stmt.{Stmt}
use Rattle.c_syntax.specs.Views as tree
use Rattle.elab_annotations.proofs.Steps.{told}
use Rattle.elab_assignments.specs.Views.{before}
use Rattle.elab_code.specs.Views.{around}
use Rattle.typing_symbols.specs.Scopes.{known}
use Rattle.typed_program.specs.Codes.{code}
use Rattle.typed_program.specs.Numbers.{Around}
use Rattle.typed_program.specs.Statements.{maybe_assigned}
use Rattle.typed_program.specs.Views as view
use Rattle.elab_statements.specs.Forms.{assigned_behind, loop_row}
use Rattle.elab_statements.specs.Rows.{Typed, row, appended}
use Rattle.elab_statements.specs.Settings.{setting, at}
use Rattle.elab_statements.specs.Shaped.{while_row, do_row, for_row}
use Rattle.elab_statements.proofs.loops.loop_row.Goals as goal

pub returns-in-While : goal.returns-in-While
returns-in-While c =
    let a = c.args in
    let s = c.in-While in
    let line = s.span.line in
    let told_here = view.specs a.invariants.items in
    told row c.while_behind.result c.while_behind.ensures (ap (λ (r : Typed). appended r (while_row line told_here (code (around c.around-around.result) (tree.exp s.test)) (row a.body))) c.nothing-front.ensures
    ∙ (ap (λ (b : Around). while_row line told_here (code b (tree.exp s.test)) (row a.body)) c.around-around.ensures
    ∙ ap (λ (z : Stmt). loop_row (at (setting a.setting) (known a.variables.now)) (before a.before) (tree.stm z) told_here (row a.body)) (sym s.is)))

pub returns-in-Do : goal.returns-in-Do
returns-in-Do c =
    let a = c.args in
    let s = c.in-Do in
    let told_here = view.specs a.invariants.items in
    told row c.do_row.result c.do_row.ensures (ap (λ (b : Around). do_row s.span.line told_here (row a.body) s.tested.line (code b (tree.exp s.test))) c.around-around.ensures
    ∙ ap (λ (z : Stmt). loop_row (at (setting a.setting) (known a.variables.now)) (before a.before) (tree.stm z) told_here (row a.body)) (sym s.is))

pub returns-in_ok-turn-in-For : goal.returns-in_ok-turn-in-For
returns-in_ok-turn-in-For c =
    let a = c.args in
    let s = c.in-For in
    let n = before a.before in
    let line = s.span.line in
    let told_here = view.specs a.invariants.items in
    let here = around c.around-around.result in
    let u = option_map tree.assignment s.first in
    let v = option_map tree.assignment s.last in
    let front = c.in_ok-front-in-For.ensures ∙ ap (λ (r : Typed). assigned_behind here r u) c.nothing-start.ensures in
    told row c.while_behind-in-For.result c.while_behind-in-For.ensures ((λ i. appended (front i) (while_row line told_here (code here (tree.exp s.test)) (c.in_ok-turn-in-For.ensures i)))
    ∙ (ap (λ (b : Around). for_row line (record { statements = maybe_assigned b u; next = n }) told_here (code b (tree.exp s.test)) (row a.body) (maybe_assigned b v)) c.around-around.ensures
    ∙ ap (λ (z : Stmt). loop_row (at (setting a.setting) (known a.variables.now)) n (tree.stm z) told_here (row a.body)) (sym s.is)))

use Rattle.std.proofs.Common.{ℕ, ap, ◌∙◌}
use Rattle.c_syntax.specs.Views.{exp}
use Rattle.elab_annotations.proofs.Steps.{told}
use Rattle.elab_assignments.specs.Views.{before}
use Rattle.typed_program.specs.Codes.{code}
use Rattle.typed_program.specs.Numbers.{Around, struct_at}
use Rattle.typed_program.specs.Trees as t
use Rattle.typed_program.specs.Views as view
use Rattle.typing_symbols.specs.Scopes.{known}
use Rattle.elab_statements.specs.Rows.{row, single}
use Rattle.elab_statements.specs.Settings.{setting, at}
use Rattle.elab_statements.proofs.Vectors.{block}
use Rattle.elab_statements.proofs.loops.unwrapping_row.Goals as goal

pub returns : goal.returns
returns c =
    let a = c.args in
    let body = view.stmts a.body.statements.items in
    let value = c.in_ok-value.ensures ∙ ap (λ (k : Around). code k (exp a.object.now)) c.around-around.ensures in
    let ty = c.in_ok-ty.ensures ∙ ap (λ (k : Around). struct_at k (exp a.object.now)) c.around-around.ensures in
    told row c.single.result c.single.ensures (ap (single (before a.body.next)) (block a.line c.in_ok-ty.ty a.formula c.in_ok-value.value a.body.statements
    ∙ (ap (λ (x : t.Code). t.Unwrapping a.line c.in_ok-ty.ty a.formula x body) value ∙ ap (λ (i : ℕ). t.Unwrapping a.line i a.formula (code (at (setting a.setting) (known a.variables.now)) (exp a.object.now)) body) ty)))

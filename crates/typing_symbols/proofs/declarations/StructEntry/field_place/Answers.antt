use Rattle.std.proofs.Common.{List, ℕ, position, ap, ◌∙◌}
use Rattle.c_syntax.specs.Views as view
use Rattle.typing_spec.specs.Declarations as spec
use Rattle.typing_symbols.specs.Program.{is_field}
use Rattle.typing_symbols.proofs.Declared.{fields_view}
use Rattle.typing_symbols.proofs.Places.{position_in}
use Rattle.typing_symbols.proofs.declarations.StructEntry.field_place.Goals as goal

pub returns-in_err-place : goal.returns-in_err-place
returns-in_err-place c =
    let d = c.args.self.now in
    rw c.from_residual.ensures
    (c.in_err-place.ensures.value ∙ d.first c.as_slice.result.now ∙ ap (λ (b : List ℕ). position (λ e. is_field b e.now) d.fields.items) c.as_slice.ensures.value
    ∙ position_in (λ e. view.field e.now) (λ t. spec.same_name t.name (view.id c.args.name.now)) d.fields.items _ (fields_view (λ e. e.now) d.fields.items d.tree.now.members.items d.all_fields))

pub returns : goal.returns
returns c =
    let d = c.args.self.now in
    c.in_ok-place.ensures.value ∙ d.first c.as_slice.result.now ∙ ap (λ (b : List ℕ). position (λ e. is_field b e.now) d.fields.items) c.as_slice.ensures.value
    ∙ position_in (λ e. view.field e.now) (λ t. spec.same_name t.name (view.id c.args.name.now)) d.fields.items _ (fields_view (λ e. e.now) d.fields.items d.tree.now.members.items d.all_fields)

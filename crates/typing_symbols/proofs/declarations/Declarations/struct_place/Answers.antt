use Rattle.std.proofs.Common.{List, ℕ, position, ap, ◌∙◌}
use Rattle.c_syntax.specs.Views as view
use Rattle.typing_spec.specs.Declarations as spec
use Rattle.typing_symbols.specs.Program.{is_struct}
use Rattle.typing_symbols.proofs.Declared.{entries_view}
use Rattle.typing_symbols.proofs.Places.{position_in}
use Rattle.typing_symbols.proofs.declarations.Declarations.struct_place.Goals as goal

pub returns-in_err-place : goal.returns-in_err-place
returns-in_err-place c =
    let d = c.args.self.now in
    rw c.from_residual.ensures
    (c.in_err-place.ensures.value ∙ d.first_struct c.as_slice.result.now ∙ ap (λ (b : List ℕ). position (λ e. is_struct b e.tree.now) d.structs.items) c.as_slice.ensures.value
    ∙ position_in (λ e. view.struct e.tree.now) (λ t. spec.same_name t.name (view.id c.args.name.now)) d.structs.items _ (entries_view (λ e. e.tree.now) d.structs.items d.items.now d.all_structs))

pub returns : goal.returns
returns c =
    let d = c.args.self.now in
    c.in_ok-place.ensures.value ∙ d.first_struct c.as_slice.result.now ∙ ap (λ (b : List ℕ). position (λ e. is_struct b e.tree.now) d.structs.items) c.as_slice.ensures.value
    ∙ position_in (λ e. view.struct e.tree.now) (λ t. spec.same_name t.name (view.id c.args.name.now)) d.structs.items _ (entries_view (λ e. e.tree.now) d.structs.items d.items.now d.all_structs)

use Rattle.std.proofs.Common.{◌<◌, ℕ, List, length, position, ap, ◌∙◌, arith}
use Rattle.c_syntax.specs.Views as view
use Rattle.typing_spec.specs.Declarations as spec
use Rattle.typing_symbols.specs.Program.{is_struct}
use Rattle.typing_symbols.proofs.Declared.{entries_view}
use Rattle.typing_symbols.proofs.Places.{place_within, none_found, one_found}
use Rattle.typing_symbols.proofs.declarations.Declarations.find_struct.Goals as goal

pub returns-in_err-place : goal.returns-in_err-place
returns-in_err-place c =
    let d = c.args.self.now in
    rw c.from_residual.ensures
    (none_found (λ e. view.struct e.tree.now) (λ t. spec.same_name t.name (view.id c.args.name.now)) d.structs.items _ (entries_view (λ e. e.tree.now) d.structs.items d.items.now d.all_structs)
    (c.in_err-place.ensures.value ∙ d.first_struct c.as_slice.result.now ∙ ap (λ (b : List ℕ). position (λ e. is_struct b e.tree.now) d.structs.items) c.as_slice.ensures.value))

pub index-requires : goal.index-requires
index-requires c =
    let d = c.args.self.now in
    let within : c.in_ok-place.field-0.now < length d.structs.items = place_within (λ e. is_struct c.as_slice.result.now e.tree.now) d.structs.items _ (c.in_ok-place.ensures.value ∙ d.first_struct c.as_slice.result.now) in
    omega arith

pub returns : goal.returns
returns c =
    let d = c.args.self.now in
    one_found (λ e. view.struct e.tree.now) (λ t. spec.same_name t.name (view.id c.args.name.now)) d.structs.items _ (entries_view (λ e. e.tree.now) d.structs.items d.items.now d.all_structs) _ c.index.result.now
    (c.in_ok-place.ensures.value ∙ d.first_struct c.as_slice.result.now ∙ ap (λ (b : List ℕ). position (λ e. is_struct b e.tree.now) d.structs.items) c.as_slice.ensures.value)
    c.index.ensures

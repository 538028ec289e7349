use Rattle.std.proofs.Common.{◌≡◌, ◌<◌, ℕ, List, Some, length, map, take, position, ap, sym, ◌∙◌, arith}
use Rattle.std.proofs.lemmas.List.{length-map}
use Rattle.std.specs.Option.{option_map}
use Rattle.c_syntax.specs.Views as view
use Rattle.typing_spec.specs.Declarations as spec
use Rattle.typing_symbols.specs.Counts.{field_count, starts}
use Rattle.typing_symbols.specs.Program.{is_struct, structs_in}
use Rattle.typing_symbols.proofs.Counts.{length_starts, start_is}
use Rattle.typing_symbols.proofs.Declared.{entries_view}
use Rattle.typing_symbols.proofs.Places.{position_in, place_within}
use Rattle.typing_symbols.proofs.declarations.Declarations.fields_before.Goals as goal

pub returns-in_err-place : goal.returns-in_err-place
returns-in_err-place c =
    let d = c.args.self.now in
    rw c.from_residual.ensures
    (ap (option_map (λ i. field_count (take i (spec.structs (map view.item d.items.now)))))
    (c.in_err-place.ensures.value ∙ d.first_struct c.as_slice.result.now ∙ ap (λ (b : List ℕ). position (λ e. is_struct b e.tree.now) d.structs.items) c.as_slice.ensures.value
    ∙ position_in (λ e. view.struct e.tree.now) (λ t. spec.same_name t.name (view.id c.args.name.now)) d.structs.items _ (entries_view (λ e. e.tree.now) d.structs.items d.items.now d.all_structs)))

pub index-requires : goal.index-requires
index-requires c =
    let d = c.args.self.now in
    let within : c.in_ok-place.field-0.now < length d.structs.items = place_within (λ e. is_struct c.as_slice.result.now e.tree.now) d.structs.items _ (c.in_ok-place.ensures.value ∙ d.first_struct c.as_slice.result.now) in
    let many = ap length d.field_counts ∙ length_starts 0 (structs_in d.items.now) ∙ ap length (sym d.all_structs) ∙ length-map d.structs.items (λ s. s.tree.now) in
    omega (arith, within, many)

pub returns : goal.returns
returns c =
    let d = c.args.self.now in
    let within : c.in_ok-place.field-0.now < length d.structs.items = place_within (λ e. is_struct c.as_slice.result.now e.tree.now) d.structs.items _ (c.in_ok-place.ensures.value ∙ d.first_struct c.as_slice.result.now) in
    let many = ap length (sym d.all_structs) ∙ length-map d.structs.items (λ s. s.tree.now) in
    let inside : c.in_ok-place.field-0.now < length (structs_in d.items.now) = omega (arith, within, many) in
    ap Some (start_is d.items.now d.field_starts.items c.in_ok-place.field-0.now c.index.result.now d.field_counts inside c.index.ensures)
    ∙ ap (option_map (λ i. field_count (take i (spec.structs (map view.item d.items.now)))))
    (c.in_ok-place.ensures.value ∙ d.first_struct c.as_slice.result.now ∙ ap (λ (b : List ℕ). position (λ e. is_struct b e.tree.now) d.structs.items) c.as_slice.ensures.value
    ∙ position_in (λ e. view.struct e.tree.now) (λ t. spec.same_name t.name (view.id c.args.name.now)) d.structs.items _ (entries_view (λ e. e.tree.now) d.structs.items d.items.now d.all_structs))

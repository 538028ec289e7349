use Rattle.std.proofs.Common.{◌≡◌, ℕ, List, position, unwrap_or, refl, ap, ◌∙◌}
use Rattle.std.specs.Str.{bytes_eq}
use Rattle.typing_symbols.proofs.Places.{position_in}
use Rattle.elab_code.specs.Names.{has_text, texts}
use Rattle.elab_code.proofs.places.Places.place.Goals as goal

pub returns-in-Some : goal.returns-in-Some
returns-in-Some c =
    let p = c.args.self.now in
    ap (λ o. unwrap_or o 0)
    (c.in-Some.ensures.value ∙ p.first c.as_slice.result.now ∙ ap (λ (y : List ℕ). position (has_text y) p.names.items) c.as_slice.ensures.value
    ∙ position_in (λ n. n.now.name.items) (λ n. bytes_eq n c.args.name.now.name.items) p.names.items (texts p.names.items) refl)

pub returns-in-None : goal.returns-in-None
returns-in-None c =
    let p = c.args.self.now in
    ap (λ o. unwrap_or o 0)
    (c.in-None.ensures.value ∙ p.first c.as_slice.result.now ∙ ap (λ (y : List ℕ). position (has_text y) p.names.items) c.as_slice.ensures.value
    ∙ position_in (λ n. n.now.name.items) (λ n. bytes_eq n c.args.name.now.name.items) p.names.items (texts p.names.items) refl)

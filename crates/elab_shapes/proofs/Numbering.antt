-- The numbers of shapes.
use Rattle.std.proofs.Common.{◌≡◌, ℕ, Bool, List, map, position, unwrap_or, Option, refl, ap, ◌∙◌}
use Rattle.typing_symbols.proofs.Places.{position_in}
use Rattle.typed_program.specs.Numbers.{place_of}

-- the place of what others stand for
pub place_seen : {X Y : Type 0} (f : X → Y) (q : Y → Bool) (xs : List X) (o : Option ℕ) → o ≡ position (λ x. q (f x)) xs → unwrap_or o 0 ≡ place_of q (map f xs)
place_seen f q xs o e = ap (λ p. unwrap_or p 0) (e ∙ position_in f q xs (map f xs) refl)

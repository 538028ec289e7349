-- Members of a struct that are tested one by one.
use Rattle.std.proofs.Common.{◌≡◌, Bool, ◌||◌, List, [], ◌∷◌, refl, ap, map}
use Rattle.std.specs.List.{list_any}

-- a test of what elements stand for
pub any_seen : {X Y : Type 0} (see : X → Y) (test : Y → Bool) (xs : List X) → list_any test (map see xs) ≡ list_any (λ x. test (see x)) xs
any_seen see test [] = refl
any_seen see test (x ∷ xs) = ap (λ b. test (see x) || b) (any_seen see test xs)

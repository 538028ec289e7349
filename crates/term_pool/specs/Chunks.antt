-- The chunks of a pool, which have 4,096 places each. Own.
use Rattle.std.specs.Prelude.{◌≡◌, ℕ, ◌-◌, ◌*◌, ◌≤◌, min, List, [], ◌∷◌, length, flat_map, Vec, vec_items, vec_len, vec_capacity}

module _ {X Z : Type 0} where
  -- the values of the chunks, one chunk after the other
  abbrev pub values : List (Vec X Z) → List X
  values chunks = flat_map vec_items chunks

  -- so many values stand in the chunks, and none stands behind a chunk that isn't full
  abbrev pub Fill : ℕ → List (Vec X Z) → Type 0
  Fill n [] = n ≡ 0
  Fill n (c ∷ cs) = (vec_len c ≡ min n 4096) × (4096 ≤ vec_capacity c) × Fill (n - 4096) cs

  -- the values of a pool fill its chunks, which have so many places
  pub record AreFilled (chunks : List (Vec X Z)) (len places : ℕ) : Type 0 where
    pub fill : Fill len chunks
    pub room : places ≡ length chunks * 4096

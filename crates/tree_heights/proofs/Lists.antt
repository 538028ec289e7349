-- Loops over lists: the greatest height so far, and what is left.
use Rattle.std.proofs.Common.{◌≡◌, ℕ, ◌+◌, ◌≤◌, max, List, drop, map}
use Rattle.tree_heights.specs.Heights as h
use Rattle.tree_heights.specs.Parts as p

-- Behind the first i elements: the greatest height of all is that of these and of the others, and these have had no fewer parts than they are high.
pub record Left {A B : Type 0} (high many : B → ℕ) (view : A → B) (xs : List A) (i most : ℕ) : Type 0 where
  pub greatest : max most (h.greatest high (map view (drop i xs))) ≡ h.greatest high (map view xs)
  pub low : most + p.all many (map view (drop i xs)) ≤ p.all many (map view xs)

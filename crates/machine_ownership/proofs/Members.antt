-- Whether all of a list pass, as a loop has it that ends at the first that doesn't.
use Rattle.std.proofs.Common.{◌≡◌, ℕ, ◌+◌, ◌<◌, ◌≤◌, Bool, true, false, ◌&&◌, List, length, get_or, drop, sym, ap, ◌∙◌, add-one, drop-cons}
use Rattle.std.proofs.lemmas.List.{drop_all}
use Rattle.object_types.specs.Sets.{every}

module _ {X : Type 0} (test : X → Bool) (xs : List X) (i : ℕ) (d : X) (so_far : every test xs ≡ every test (drop i xs)) (within : i < length xs) where
  here : every test xs ≡ (test (get_or xs i d) && every test (drop (i + 1) xs))
  here = so_far ∙ ap (every test) (drop-cons xs i d within) ∙ λ j. test (get_or xs i d) && every test (drop (sym (add-one i) j) xs)

  pub every_fails : test (get_or xs i d) ≡ false → false ≡ every test xs
  every_fails e = sym (here ∙ ap (λ b. b && every test (drop (i + 1) xs)) e)

  pub every_next : test (get_or xs i d) ≡ true → every test xs ≡ every test (drop (i + 1) xs)
  every_next e = here ∙ ap (λ b. b && every test (drop (i + 1) xs)) e

pub every_end : {X : Type 0} (test : X → Bool) (xs : List X) (i : ℕ) → every test xs ≡ every test (drop i xs) → length xs ≤ i → true ≡ every test xs
every_end test xs i so_far over = sym (so_far ∙ ap (every test) (drop_all i xs over))

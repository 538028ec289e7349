-- How a search goes through a list.
use Rattle.std.proofs.Common.{◌≡◌, ℕ, ◌+◌, ◌<◌, ◌≤◌, Bool, true, false, List, length, get_or, drop, refl, add-one, drop-cons}
use Rattle.std.proofs.lemmas.List.{drop_all}
use Rattle.object_types.specs.declared.references.Ref.{Ref}
use Rattle.object_types.specs.References.{same_ref}
use Rattle.object_types.specs.Sets.{is_in, some}

pub found : (q : Ref) (rs : List Ref) (i : ℕ) (d : Ref) → is_in q (drop i rs) ≡ is_in q rs → i < length rs → same_ref q (get_or rs i d) ≡ true → is_in q rs ≡ true
unfolding is_in
found q rs i d so_far lt here = rw (← so_far, drop-cons rs i d, here) refl

pub next : (q : Ref) (rs : List Ref) (i : ℕ) (d : Ref) → is_in q (drop i rs) ≡ is_in q rs → i < length rs → same_ref q (get_or rs i d) ≡ false → is_in q (drop (i + 1) rs) ≡ is_in q rs
unfolding is_in
next q rs i d so_far lt here = rw (← so_far, add-one, drop-cons rs i d, here) refl

pub nowhere : (q : Ref) (rs : List Ref) (i : ℕ) → is_in q (drop i rs) ≡ is_in q rs → length rs ≤ i → is_in q rs ≡ false
unfolding is_in
nowhere q rs i so_far ge = rw (← so_far, drop_all i rs ge) refl

module _ {X : Type 0} (test : X → Bool) (xs : List X) (all : Bool) where
  pub some_found : (i : ℕ) (d : X) → some test (drop i xs) ≡ all → i < length xs → test (get_or xs i d) ≡ true → all ≡ true
  some_found i d so_far lt here = rw (← so_far, drop-cons xs i d, here) refl

  pub some_next : (i : ℕ) (d : X) → some test (drop i xs) ≡ all → i < length xs → test (get_or xs i d) ≡ false → some test (drop (i + 1) xs) ≡ all
  some_next i d so_far lt here = rw (← so_far, add-one, drop-cons xs i d, here) refl

  pub some_nowhere : (i : ℕ) → some test (drop i xs) ≡ all → length xs ≤ i → all ≡ false
  some_nowhere i so_far ge = rw (← so_far, drop_all i xs ge) refl

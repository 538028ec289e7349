-- Keys by their numbers, from 1.
use Rattle.std.proofs.Common.{◌≡◌, ◌↔◌, ◌+◌, ◌-◌, ◌<◌, ℕ, ℤ, pos, IsTrue, List, length, get_or, nat_eq, Some, slice_get, ap, sym, ◌∙◌, arith, eq-eqb}
use Rattle.std.proofs.lemmas.Bool.{eqb-true}
use Rattle.std.proofs.lemmas.Option.{slice_get_within, slice_get-get_or}
use Rattle.rule_maps.specs.Readings.{IsKey, IsNoIndex}

pub no_key : (keys : List ℕ) (number : ℤ) (key : ℕ) → IsNoIndex number (length keys) → IsKey keys number key → ⊥
no_key keys number key none k =
    let within = slice_get_within keys (k.i - 1) key k.at in
    none (k.i - 1) (k.named ∙ ap pos (let e : k.i ≡ k.i - 1 + 1 = omega (arith, k.from_one) in e)) within

pub key_is : (keys : List ℕ) (number : ℤ) (i key : ℕ) → number ≡ pos (i + 1) → i < length keys → IsTrue (nat_eq (get_or keys i 0) key) ↔ IsKey keys number key
key_is keys number i key named within = (
  (λ same. record { i = i + 1; named = named; from_one = omega arith; at = ap (slice_get keys) before ∙ slice_get-get_or keys i 0 within ∙ ap Some (eqb-true _ _ same) }),
  (λ k.
      let number_is : k.i ≡ i + 1 = (let e : pos k.i ≡ pos (i + 1) = sym k.named ∙ named in cc) in
      let place : i ≡ k.i - 1 = omega (arith, number_is) in
      let e : Some (get_or keys i 0) ≡ Some key = sym (slice_get-get_or keys i 0 within) ∙ ap (slice_get keys) place ∙ k.at in
      let found : get_or keys i 0 ≡ key = cc in
      eq-eqb _ _ found),
)
  where
    before : i + 1 - 1 ≡ i
    before = omega arith

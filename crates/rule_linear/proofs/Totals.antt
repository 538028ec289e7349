-- Sums of multiples and the tests of their form, literal by literal.
use Rattle.std.proofs.Common.{◌≡◌, ◌≢◌, ℕ, zero, suc, ◌+◌, ◌<◌, List, [], ◌∷◌, take, drop, length, get_or, Option, Bool, false, ◌&&◌, ℤ, pos, ◌+ℤ◌, ◌*ℤ◌, refl, ap, sym, ◌∙◌, arith, add-one, drop-cons}
use Rattle.std.specs.List.{zip}
use Rattle.std.specs.Int.{w128, int_wrap}
use Rattle.std.proofs.lemmas.Int.{ints}
use Rattle.terms.specs.declared.term.Term.{Term}
use Rattle.terms.specs.declared.term.Literal.{Literal}
use Rattle.terms.specs.declared.sort.Sort.{Sort}
use Rattle.rule_linear.specs.declared.form.Part.{Part}
use Rattle.rule_linear.specs.Bounds.{literal_number, bound_at, total, fits_bound, is_weighting}
use Rattle.rule_linear.proofs.Wraps.{wrap_product}
use Rattle.std.proofs.lemmas.Int.{int_wrap-add_left, int_wrap-add_right}

module _ (sorts : List (Option Sort)) (terms : List Term) where
  more_suc : (ms : List ℤ) (ls : List Literal) (i : ℕ) (d : Literal) (p : Part) → i < length ms → i < length ls →
      total sorts terms (take (suc i) (zip ms ls)) p ≡ total sorts terms (take i (zip ms ls)) p +ℤ get_or ms i (pos 0) *ℤ literal_number terms (bound_at sorts terms (get_or ls i d)) p
  more_suc [] ls i d p h k = absurd (omega arith)
  more_suc (m ∷ ms) [] i d p h k = absurd (omega arith)
  more_suc (m ∷ ms) (l ∷ ls) zero d p h k = omega (arith, ints)
  more_suc (m ∷ ms) (l ∷ ls) (suc i) d p h k = omega (arith, ints, more_suc ms ls i d p (omega arith) (omega arith))

  pub total_more : (ms : List ℤ) (ls : List Literal) (i : ℕ) (d : Literal) (p : Part) → i < length ms → i < length ls →
      total sorts terms (take (i + 1) (zip ms ls)) p ≡ total sorts terms (take i (zip ms ls)) p +ℤ get_or ms i (pos 0) *ℤ literal_number terms (bound_at sorts terms (get_or ls i d)) p
  total_more ms ls i d p h k = ap (λ n. total sorts terms (take n (zip ms ls)) p) (add-one i) ∙ more_suc ms ls i d p h k

  -- one multiple more, modulo 2^128
  pub wrapped_more : (ms : List ℤ) (ls : List Literal) (i : ℕ) (d : Literal) (p : Part) (sum number : ℤ) → i < length ms → i < length ls →
      sum ≡ int_wrap w128 (total sorts terms (take i (zip ms ls)) p) → number ≡ int_wrap w128 (literal_number terms (bound_at sorts terms (get_or ls i d)) p) →
      int_wrap w128 (sum +ℤ get_or ms i (pos 0) *ℤ number) ≡ int_wrap w128 (total sorts terms (take (i + 1) (zip ms ls)) p)
  wrapped_more ms ls i d p sum number h k e f =
      let m = get_or ms i (pos 0) in
      let n = literal_number terms (bound_at sorts terms (get_or ls i d)) p in
      let before = total sorts terms (take i (zip ms ls)) p in
      ap (λ x. int_wrap w128 (x +ℤ m *ℤ number)) e ∙ int_wrap-add_left w128 before (m *ℤ number)
      ∙ sym (int_wrap-add_right w128 before (m *ℤ number)) ∙ ap (λ x. int_wrap w128 (before +ℤ x)) (wrap_product m number n f) ∙ int_wrap-add_right w128 before (m *ℤ n)
      ∙ ap (int_wrap w128) (sym (total_more ms ls i d p h k))

  at_drop : {X : Type 0} (xs : List X) (i : ℕ) (d : X) → i < length xs → drop i xs ≡ get_or xs i d ∷ drop (i + 1) xs
  at_drop xs i d h = rw (add-one, drop-cons xs i d) refl

  pub weighting_at : (ms : List ℤ) (ls : List Literal) (i : ℕ) (d : Literal) → i < length ms → i < length ls →
      is_weighting sorts terms (drop i ms) (drop i ls) ≡ (fits_bound (bound_at sorts terms (get_or ls i d)) (get_or ms i (pos 0)) && is_weighting sorts terms (drop (i + 1) ms) (drop (i + 1) ls))
  weighting_at ms ls i d h k = ap (λ xs. is_weighting sorts terms xs (drop i ls)) (at_drop ms i (pos 0) h) ∙ ap (λ xs. is_weighting sorts terms (get_or ms i (pos 0) ∷ drop (i + 1) ms) xs) (at_drop ls i d k)

  pub unlike_lengths : (ms : List ℤ) (ls : List Literal) → length ms ≢ length ls → is_weighting sorts terms ms ls ≡ false
  unlike_lengths [] [] h = absurd (h refl)
  unlike_lengths [] (l ∷ ls) h = refl
  unlike_lengths (m ∷ ms) [] h = refl
  unlike_lengths (m ∷ ms) (l ∷ ls) h =
      ap (λ b. fits_bound (bound_at sorts terms l) m && b) (unlike_lengths ms ls (λ e. h (ap suc e))) ∙ and_false (fits_bound (bound_at sorts terms l) m)
    where
      and_false : (b : Bool) → (b && false) ≡ false
      and_false Bool.true = refl
      and_false Bool.false = refl

-- Two rows of values, compared from a place on.
use Rattle.std.proofs.Common.{◌≡◌, ℕ, suc, zero, ◌+◌, ◌<◌, ◌≤◌, ◌⊎◌, inl, inr, Bool, true, false, ◌||◌, List, [], ◌∷◌, length, get_or, drop, refl, sym, ◌∙◌, arith, add-one, drop-cons, ltb, eqb}
use Rattle.std.proofs.lemmas.Bool.{lt-ltb, le-ltb, ne_eqb}
use Rattle.std.proofs.lemmas.Bool.Decides.{nat_tests}
use Rattle.object_types.specs.declared.values.Value.{Value}
use Rattle.object_types.specs.Values.{same_value, value_lt, same_values, values_lt}
use Rattle.object_types.proofs.Orders.{value_order, same_not_before}

-- two rows that are one up to a place are compared from there on
pub record From (left right : List Value) (i : ℕ) : Type 0 where
  pub within_left : i ≤ length left
  pub within_right : i ≤ length right
  pub same : same_values left right ≡ same_values (drop i left) (drop i right)
  pub before : values_lt left right ≡ values_lt (drop i left) (drop i right)

pub from_start : (left right : List Value) → From left right 0
from_start left right = record { within_left = omega arith; within_right = omega arith; same = refl; before = refl }

or_none : (b : Bool) → (b || false) ≡ b
or_none true = refl
or_none false = refl

pub from_next : (left right : List Value) (i : ℕ) (d e : Value) → From left right i → i < length left → i < length right → same_value (get_or left i d) (get_or right i e) ≡ true → From left right (i + 1)
from_next left right i d e f l r s = record {
  within_left = omega arith;
  within_right = omega arith;
  same = f.same ∙ rw (add-one, drop-cons left i d, drop-cons right i e, s) refl;
  before = f.before ∙ rw (add-one, drop-cons left i d, drop-cons right i e, s, same_not_before value_lt same_value value_order _ _ s) refl;
}

pub differ_same : (left right : List Value) (i : ℕ) (d e : Value) → From left right i → i < length left → i < length right → same_value (get_or left i d) (get_or right i e) ≡ false → same_values left right ≡ false
differ_same left right i d e f l r s = f.same ∙ rw (drop-cons left i d, drop-cons right i e, s) refl

pub differ_before : (left right : List Value) (i : ℕ) (d e : Value) → From left right i → i < length left → i < length right → same_value (get_or left i d) (get_or right i e) ≡ false → values_lt left right ≡ value_lt (get_or left i d) (get_or right i e)
differ_before left right i d e f l r s = f.before ∙ rw (drop-cons left i d, drop-cons right i e, s) (or_none _)

suc_eqb : (a b : ℕ) → eqb (suc a) (suc b) ≡ eqb a b
suc_eqb a b = grind (arith, nat_tests)

suc_ltb : (a b : ℕ) → ltb (suc a) (suc b) ≡ ltb a b
suc_ltb a b = grind (arith, nat_tests)

ended_same : (left right : List Value) (i : ℕ) → i ≤ length left → i ≤ length right → (length left ≤ i) ⊎ (length right ≤ i) → same_values (drop i left) (drop i right) ≡ eqb (length left) (length right)
ended_same [] [] zero l r over = refl
ended_same [] (y ∷ ys) zero l r over = sym (ne_eqb _ _ (omega arith))
ended_same (x ∷ xs) [] zero l r over = sym (ne_eqb _ _ (omega arith))
ended_same (x ∷ xs) (y ∷ ys) zero l r over = elim over [ inl o ↦ absurd (omega arith) | inr o ↦ absurd (omega arith) ]
ended_same [] right (suc i) l r over = absurd (omega arith)
ended_same (x ∷ xs) [] (suc i) l r over = absurd (omega arith)
ended_same (x ∷ xs) (y ∷ ys) (suc i) l r over =
    rw (suc_eqb (length xs) (length ys)) (ended_same xs ys i (omega arith) (omega arith) (elim over [ inl o ↦ inl (omega arith) | inr o ↦ inr (omega arith) ]))

ended_before : (left right : List Value) (i : ℕ) → i ≤ length left → i ≤ length right → (length left ≤ i) ⊎ (length right ≤ i) → values_lt (drop i left) (drop i right) ≡ ltb (length left) (length right)
ended_before [] [] zero l r over = refl
ended_before [] (y ∷ ys) zero l r over = sym (lt-ltb _ _ (omega arith))
ended_before (x ∷ xs) [] zero l r over = sym (le-ltb _ _ (omega arith))
ended_before (x ∷ xs) (y ∷ ys) zero l r over = elim over [ inl o ↦ absurd (omega arith) | inr o ↦ absurd (omega arith) ]
ended_before [] right (suc i) l r over = absurd (omega arith)
ended_before (x ∷ xs) [] (suc i) l r over = absurd (omega arith)
ended_before (x ∷ xs) (y ∷ ys) (suc i) l r over =
    rw (suc_ltb (length xs) (length ys)) (ended_before xs ys i (omega arith) (omega arith) (elim over [ inl o ↦ inl (omega arith) | inr o ↦ inr (omega arith) ]))

pub same_at_end : (left right : List Value) (i : ℕ) → From left right i → (length left ≤ i) ⊎ (length right ≤ i) → eqb (length left) (length right) ≡ same_values left right
same_at_end left right i f over = sym (f.same ∙ ended_same left right i f.within_left f.within_right over)

pub before_at_end : (left right : List Value) (i : ℕ) → From left right i → (length left ≤ i) ⊎ (length right ≤ i) → ltb (length left) (length right) ≡ values_lt left right
before_at_end left right i f over = sym (f.before ∙ ended_before left right i f.within_left f.within_right over)

-- Where a size fits, so do all numbers on the way.
use Rattle.std.proofs.Common.{◌≡◌, ℕ, ◌+◌, ◌<◌, ◌≤◌, List, [], ◌∷◌, ◌++◌, map, take, length, get_or, Bool, true, false, nat_eq, cond, Option, Some, None, ℤ, pos, ◌+ℤ◌, ◌-ℤ◌, ◌*ℤ◌, ◌≤ℤ◌, FitsSigned, refl, ap, sym, ◌∙◌, subst, arith}
use Rattle.std.specs.Int.{w128}
use Rattle.std.proofs.lemmas.Int.{ints}
use Rattle.int_ranges.specs.Ring.{mul_sum, sum_mul, mul_diff, diff_mul}
use Rattle.int_ranges.specs.Signs.{mul_non_negatives}
use Rattle.terms.specs.declared.term.Term.{Term}
use Rattle.rule_linear.specs.declared.form.Part.{Part}
use Rattle.rule_linear.specs.declared.form.Part.TheVariants.{Coefficient, Constant}
use Rattle.rule_linear.specs.declared.bound.Bound.{Bound}
use Rattle.rule_linear.specs.declared.bound.Weights.{Weights}
use Rattle.rule_linear.specs.Forms.{Sum, Number, Single, Plus, Minus, Times, Step, plus, times, number_of, units, parts, step_at, steps, sum_at, AllFit}
use Rattle.rule_linear.specs.Bounds.{difference, one_of, one_step, bound_number, bound_parts, bound_steps, bound_at, literal_number, added_steps}
use Rattle.rule_linear.specs.Sides.{weighted, first_total}
use Rattle.rule_linear.specs.Walks.{IsAllKnown, IsNextKnown}
use Rattle.vcc_rules.specs.declared.rule.Summand.{Summand}
use Rattle.rule_linear.specs.Coefficients.{AreCleared, AreClear, place_units, every_unit}
use Rattle.rule_linear.specs.Sizes.{IsAtMost, IsSized, IsBoundSized, IsTotalSized, IsMoreSized, IsNextSized}
use Rattle.rule_linear.proofs.InOrder.{fit_both}
use Rattle.rule_linear.proofs.Totals.{total_more}
use Rattle.rule_linear.proofs.Coefficients.{Clearing, start_clearing, next_clearing, all_clear}
use Rattle.rule_linear.proofs.Places.{Reached, start_known, next_known, all_known}

fits_within : (size x : ℤ) → FitsSigned w128 size → IsAtMost size x → FitsSigned w128 x
fits_within size x h k = let a = k.0 in let b = k.1 in omega (arith, ints, h, a, b)

all_fit : (f : Part → Step) → ((p : Part) → FitsSigned w128 (f p).result) → (ps : List Part) → AllFit (map f ps)
all_fit f h [] = tt
all_fit f h (p ∷ ps) = (h p, all_fit f h ps)

sum_within : (k l n x y : ℤ) → n ≡ k +ℤ l → IsAtMost k x → IsAtMost l y → IsAtMost n (x +ℤ y)
sum_within k l n x y e h g =
    let a = h.0 in let b = h.1 in let c = g.0 in let d = g.1 in
    (omega (arith, ints, e, a, b, c, d), omega (arith, ints, e, a, b, c, d))

difference_within : (k l n x y : ℤ) → n ≡ k +ℤ l → IsAtMost k x → IsAtMost l y → IsAtMost n (x -ℤ y)
difference_within k l n x y e h g =
    let a = h.0 in let b = h.1 in let c = g.0 in let d = g.1 in
    (omega (arith, ints, e, a, b, c, d), omega (arith, ints, e, a, b, c, d))

-- the four products of sums and differences are not negative
by_products : (kl ky xl xy p q r s : ℤ) → p ≡ (kl +ℤ ky) -ℤ (xl +ℤ xy) → q ≡ (kl -ℤ ky) +ℤ (xl -ℤ xy) → r ≡ (kl -ℤ ky) -ℤ (xl -ℤ xy) → s ≡ (kl +ℤ ky) +ℤ (xl +ℤ xy) →
    pos 0 ≤ℤ p → pos 0 ≤ℤ q → pos 0 ≤ℤ r → pos 0 ≤ℤ s → IsAtMost kl xy
by_products kl ky xl xy p q r s e f g h a b c d = (omega (arith, ints, e, f, g, h, a, b, c, d), omega (arith, ints, e, f, g, h, a, b, c, d))

product_within : (k l n x y : ℤ) → n ≡ k *ℤ l → IsAtMost k x → IsAtMost l y → IsAtMost n (x *ℤ y)
product_within k l n x y e h g =
    let a = h.0 in let b = h.1 in let c = g.0 in let d = g.1 in
    let low : pos 0 ≤ℤ (k -ℤ x) = omega (arith, ints, a, b) in
    let high : pos 0 ≤ℤ (k +ℤ x) = omega (arith, ints, a, b) in
    let under : pos 0 ≤ℤ (l -ℤ y) = omega (arith, ints, c, d) in
    let over : pos 0 ≤ℤ (l +ℤ y) = omega (arith, ints, c, d) in
    subst (λ n. IsAtMost n (x *ℤ y)) (sym e)
    (by_products (k *ℤ l) (k *ℤ y) (x *ℤ l) (x *ℤ y) ((k -ℤ x) *ℤ (l +ℤ y)) ((k +ℤ x) *ℤ (l -ℤ y)) ((k -ℤ x) *ℤ (l -ℤ y)) ((k +ℤ x) *ℤ (l +ℤ y))
    (diff_mul k x (l +ℤ y) ∙ ap (λ z. z -ℤ x *ℤ (l +ℤ y)) (mul_sum k l y) ∙ ap (λ z. (k *ℤ l +ℤ k *ℤ y) -ℤ z) (mul_sum x l y))
    (sum_mul k x (l -ℤ y) ∙ ap (λ z. z +ℤ x *ℤ (l -ℤ y)) (mul_diff k l y) ∙ ap (λ z. (k *ℤ l -ℤ k *ℤ y) +ℤ z) (mul_diff x l y))
    (diff_mul k x (l -ℤ y) ∙ ap (λ z. z -ℤ x *ℤ (l -ℤ y)) (mul_diff k l y) ∙ ap (λ z. (k *ℤ l -ℤ k *ℤ y) -ℤ z) (mul_diff x l y))
    (sum_mul k x (l +ℤ y) ∙ ap (λ z. z +ℤ x *ℤ (l +ℤ y)) (mul_sum k l y) ∙ ap (λ z. (k *ℤ l +ℤ k *ℤ y) +ℤ z) (mul_sum x l y))
    (mul_non_negatives (k -ℤ x) (l +ℤ y) low over) (mul_non_negatives (k +ℤ x) (l -ℤ y) high under) (mul_non_negatives (k -ℤ x) (l -ℤ y) low under) (mul_non_negatives (k +ℤ x) (l +ℤ y) high over))

-- the number itself, or what is left of 0 without it
pub not_negative_itself : (n : ℤ) → pos 0 ≤ℤ n → IsAtMost n n
not_negative_itself n h = (omega (arith, ints, h), omega (arith, ints, h))

pub negative_turned : (n size : ℤ) → n ≤ℤ pos 0 → size ≡ pos 0 -ℤ n → IsAtMost size n
negative_turned n size h e = (omega (arith, ints, h, e), omega (arith, ints, h, e))

-- the sizes of forms
number_at : (n size : ℤ) → IsAtMost size n → (p : Part) → IsAtMost size (number_of (Number n) p)
number_at n size h (Coefficient u) = let a = h.0 in let b = h.1 in (omega (arith, ints, a, b), omega (arith, ints, a, b))
number_at n size h Constant = h

pub number_sized : (s : Sum) (n size : ℤ) → s ≡ Number n → IsAtMost size n → FitsSigned w128 size → IsSized s size
number_sized s n size e h f = subst (λ (s : Sum). IsSized s size) (sym e) (record { fit = tt; within = number_at n size h; size_fits = f })

cond_within : (b : Bool) → IsAtMost (pos 1) (cond b (pos 1) (pos 0))
cond_within true = (omega (arith, ints), omega (arith, ints))
cond_within false = (omega (arith, ints), omega (arith, ints))

single_at : (t : ℕ) (p : Part) → IsAtMost (pos 1) (number_of (Single t) p)
single_at t (Coefficient u) = cond_within (nat_eq t u)
single_at t Constant = cond_within false

one_fits : FitsSigned w128 (pos 1)
one_fits = omega (arith, ints)

pub single_sized : (s : Sum) (t : ℕ) → s ≡ Single t → IsSized s (pos 1)
single_sized s t e = subst (λ (s : Sum). IsSized s (pos 1)) (sym e) (record { fit = tt; within = single_at t; size_fits = one_fits })

pub plus_sized : (s a b : Sum) (x y n : ℤ) → s ≡ Plus a b → IsSized a x → IsSized b y → n ≡ x +ℤ y → FitsSigned w128 n → IsSized s n
plus_sized s a b x y n e k l h f = subst (λ (s : Sum). IsSized s n) (sym e) (record {
  fit = fit_both (steps a) _ k.fit (fit_both (steps b) _ l.fit (all_fit (step_at (Plus a b)) (λ p. fits_within n (number_of a p +ℤ number_of b p) f (at p)) (parts (units a ++ units b))));
  within = at;
  size_fits = f;
})
  where
    at : (p : Part) → IsAtMost n (number_of a p +ℤ number_of b p)
    at p = sum_within x y n (number_of a p) (number_of b p) h (k.within p) (l.within p)

pub minus_sized : (s a b : Sum) (x y n : ℤ) → s ≡ Minus a b → IsSized a x → IsSized b y → n ≡ x +ℤ y → FitsSigned w128 n → IsSized s n
minus_sized s a b x y n e k l h f = subst (λ (s : Sum). IsSized s n) (sym e) (record {
  fit = fit_both (steps a) _ k.fit (fit_both (steps b) _ l.fit (all_fit (step_at (Minus a b)) (λ p. fits_within n (number_of a p -ℤ number_of b p) f (at p)) (parts (units a ++ units b))));
  within = at;
  size_fits = f;
})
  where
    at : (p : Part) → IsAtMost n (number_of a p -ℤ number_of b p)
    at p = difference_within x y n (number_of a p) (number_of b p) h (k.within p) (l.within p)

pub times_sized : (s a : Sum) (m x y n : ℤ) → s ≡ Times m a → IsAtMost x m → IsSized a y → n ≡ x *ℤ y → FitsSigned w128 n → IsSized s n
times_sized s a m x y n e k l h f = subst (λ (s : Sum). IsSized s n) (sym e) (record {
  fit = fit_both (steps a) _ l.fit (all_fit (step_at (Times m a)) (λ p. fits_within n (m *ℤ number_of a p) f (at p)) (parts (units a)));
  within = at;
  size_fits = f;
})
  where
    at : (p : Part) → IsAtMost n (m *ℤ number_of a p)
    at p = product_within x y n m (number_of a p) h k (l.within p)

-- the size of a bound: one more than that of the difference
one_within : (strict : Bool) (p : Part) (z n x : ℤ) → n ≡ z +ℤ pos 1 → IsAtMost z x → IsAtMost n (x +ℤ one_of strict p)
one_within true Constant z n x e h = let a = h.0 in let b = h.1 in (omega (arith, ints, e, a, b), omega (arith, ints, e, a, b))
one_within true (Coefficient u) z n x e h = let a = h.0 in let b = h.1 in (omega (arith, ints, e, a, b), omega (arith, ints, e, a, b))
one_within false p z n x e h = let a = h.0 in let b = h.1 in (omega (arith, ints, e, a, b), omega (arith, ints, e, a, b))

one_fit : (strict : Bool) (z n x : ℤ) → n ≡ z +ℤ pos 1 → FitsSigned w128 n → IsAtMost z x → AllFit (one_step strict x)
one_fit true z n x e f h = (fits_within n (x +ℤ pos 1) f (one_within true Constant z n x e h), tt)
one_fit false z n x e f h = tt

pub bound_sized : (terms : List Term) (b : Bound) (x y z n : ℤ) → IsSized (sum_at terms b.left) x → IsSized (sum_at terms b.right) y → z ≡ x +ℤ y → FitsSigned w128 z → n ≡ z +ℤ pos 1 → FitsSigned w128 n → IsBoundSized terms b n
bound_sized terms b x y z n k l e f g h =
    let d : IsSized (difference terms b) z = minus_sized (difference terms b) (sum_at terms b.left) (sum_at terms b.right) x y z refl k l e f in
    record {
      fit = fit_both (steps (difference terms b)) (one_step b.strict (number_of (difference terms b) Constant)) d.fit (one_fit b.strict z n (number_of (difference terms b) Constant) g h (d.within Constant));
      within = λ p. one_within b.strict p z n (number_of (difference terms b) p) g (d.within p);
      size_fits = h;
    }

-- the size of the sum with one multiple more
pub more_sized : (w : Weights) (terms : List Term) (end : ℕ) (m : ℤ) (b : Bound) (before k x z n : ℤ) → IsTotalSized w terms end before → IsAtMost k m → IsBoundSized terms b x → z ≡ k *ℤ x → FitsSigned w128 z → n ≡ before +ℤ z → FitsSigned w128 n → IsMoreSized w terms end m b n
more_sized w terms end m b before k x z n t h bs e f g i = record {
  fit = fit_both (bound_steps terms b) _ bs.fit (fit_both _ _ (all_fit (λ p. times m (bound_number terms b p)) (λ p. fits_within z (m *ℤ bound_number terms b p) f (product p)) (bound_parts terms b))
      (all_fit (λ p. plus (first_total w terms end p) (m *ℤ bound_number terms b p)) (λ p. fits_within n (first_total w terms end p +ℤ m *ℤ bound_number terms b p) i (sum p)) (bound_parts terms b)));
  within = sum;
  size_fits = i;
}
  where
    product : (p : Part) → IsAtMost z (m *ℤ bound_number terms b p)
    product p = product_within k x z m (bound_number terms b p) e h (bs.within p)

    sum : (p : Part) → IsAtMost n (first_total w terms end p +ℤ m *ℤ bound_number terms b p)
    sum p = sum_within before z n (first_total w terms end p) (m *ℤ bound_number terms b p) g (t.within p) (product_within k x z m (bound_number terms b p) e h (bs.within p))

module _ (w : Weights) (terms : List Term) (i : ℕ) where
  more : i + 1 ≤ length w.multipliers.now → i + 1 ≤ length w.literals.now → (p : Part) →
      first_total w terms (i + 1) p ≡ first_total w terms i p +ℤ get_or w.multipliers.now i (pos 0) *ℤ literal_number terms (bound_at w.sorts.now terms (get_or w.literals.now i (record { term = 0; positive = false }))) p
  more h k p = total_more w.sorts.now terms w.multipliers.now w.literals.now i (record { term = 0; positive = false }) p (omega (arith, h)) (omega (arith, k))

  pub some_sized : (b : Bound) (n : ℤ) → i + 1 ≤ length w.multipliers.now → i + 1 ≤ length w.literals.now → Some b ≡ bound_at w.sorts.now terms (get_or w.literals.now i (record { term = 0; positive = false })) → IsMoreSized w terms i (get_or w.multipliers.now i (pos 0)) b n → IsNextSized w terms i n
  some_sized b n h k e m = record {
    fit = subst (λ (o : Option Bound). AllFit (added_steps w.sorts.now terms (take i (weighted w)) (get_or w.multipliers.now i (pos 0)) o)) e m.fit;
    within = λ p. subst (λ (x : ℤ). IsAtMost n x) (sym (more h k p ∙ ap (λ (o : Option Bound). first_total w terms i p +ℤ get_or w.multipliers.now i (pos 0) *ℤ literal_number terms o p) (sym e))) (m.within p);
    size_fits = m.size_fits;
  }

  pub none_sized : (n : ℤ) → i + 1 ≤ length w.multipliers.now → i + 1 ≤ length w.literals.now → None ≡ bound_at w.sorts.now terms (get_or w.literals.now i (record { term = 0; positive = false })) → IsTotalSized w terms i n → IsNextSized w terms i n
  none_sized n h k e t = record {
    fit = subst (λ (o : Option Bound). AllFit (added_steps w.sorts.now terms (take i (weighted w)) (get_or w.multipliers.now i (pos 0)) o)) e tt;
    within = λ p. subst (λ (x : ℤ). IsAtMost n x) (sym (more h k p ∙ ap (λ (o : Option Bound). first_total w terms i p +ℤ get_or w.multipliers.now i (pos 0) *ℤ literal_number terms o p) (sym e) ∙ plus_none (first_total w terms i p) (get_or w.multipliers.now i (pos 0)))) (t.within p);
    size_fits = t.size_fits;
  }
    where
      plus_none : (x m : ℤ) → x +ℤ m *ℤ pos 0 ≡ x
      plus_none x m = omega (arith, ints)

-- what is known where the literals before the place were added: the sizes of their numbers, and which units were cleared
pub record SizedSoFar (w : Weights) (terms : List Term) (room : List Summand) (i : ℕ) (size : ℤ) : Type 0 where
  pub reached : Reached w terms i
  pub sized : IsTotalSized w terms i size
  pub clearing : Clearing w terms room i

pub start_sized : (w : Weights) (terms : List Term) (room : List Summand) → SizedSoFar w terms room 0 (pos 0)
start_sized w terms room = record { reached = start_known w terms; sized = record { within = λ p. zero_within; size_fits = zero_fits }; clearing = start_clearing w terms room }
  where
    zero_within : IsAtMost (pos 0) (pos 0)
    zero_within = (omega (arith, ints), omega (arith, ints))

    zero_fits : FitsSigned w128 (pos 0)
    zero_fits = omega (arith, ints)

pub so_far_sized : (w : Weights) (terms : List Term) (room : List Summand) (i : ℕ) (size : ℤ) → SizedSoFar w terms room i size → IsTotalSized w terms i size
so_far_sized w terms room i size s = s.sized

pub as_so_far : (w : Weights) (terms : List Term) (room : List Summand) (i : ℕ) (z size : ℤ) → z ≡ size → SizedSoFar w terms room i size → SizedSoFar w terms room i z
as_so_far w terms room i z size e s = subst (λ (z : ℤ). SizedSoFar w terms room i z) (sym e) s

pub step_sized : (w : Weights) (terms : List Term) (old new : List Summand) (i : ℕ) (size n : ℤ) → length w.multipliers.now ≡ length w.literals.now → i < length w.literals.now → SizedSoFar w terms old i size → IsNextSized w terms i n → AreCleared old new (place_units w terms i) → SizedSoFar w terms new (i + 1) n
step_sized w terms old new i size n e k s h c =
    let known : IsNextKnown w terms i = record { fit = h.fit; known = λ p. fits_within n (first_total w terms (i + 1) p) h.size_fits (h.within p) } in
    record { reached = next_known w terms i e k s.reached known; sized = record { within = h.within; size_fits = h.size_fits }; clearing = next_clearing w terms old new i e k s.clearing c }

pub all_sized : (w : Weights) (terms : List Term) (room : List Summand) (i : ℕ) (size : ℤ) → length w.multipliers.now ≡ length w.literals.now → length w.literals.now ≤ i → SizedSoFar w terms room i size → IsAllKnown w terms
all_sized w terms room i size e h s = all_known w terms i e h s.reached

pub whole_clear : (w : Weights) (terms : List Term) (room : List Summand) (i : ℕ) (size : ℤ) → length w.multipliers.now ≡ length w.literals.now → length w.literals.now ≤ i → SizedSoFar w terms room i size → AreClear room (every_unit w terms)
whole_clear w terms room i size e h s = all_clear w terms room i e h s.clearing

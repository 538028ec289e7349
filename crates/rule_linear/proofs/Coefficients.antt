-- The coefficients of units, as they are cleared, summed and tested.
use Rattle.std.proofs.Common.{◌≡◌, ◌≢◌, ◌⊎◌, inl, inr, ◌↔◌, ℕ, zero, suc, ◌+◌, ◌<◌, ◌≤◌, List, [], ◌∷◌, ◌++◌, drop, length, get_or, Bool, true, false, IsTrue, ◌&&◌, nat_eq, cond, Option, Some, None, ℤ, pos, negsuc, neg_ℤ, ◌+ℤ◌, ◌-ℤ◌, ◌*ℤ◌, FitsSigned, refl, ap, sym, ◌∙◌, subst, arith, eq-eqb}
use Rattle.std.specs.Int.{w128, int_wrap}
use Rattle.std.proofs.lemmas.Int.{ints, int_wrap_fits, int_wrap-add_left, int_wrap-add_right}
use Rattle.std.proofs.lemmas.Bool.{eqb-true}
use Rattle.std.proofs.lemmas.List.{drop_all}
use lib.Signed.{lt_z}
use Rattle.int_ranges.specs.Ring.{mul_comm, mul_assoc, mul_sum, mul_diff, mul_one, negative_mul}
use Rattle.terms.specs.declared.term.Term.{Term}
use Rattle.vcc_rules.specs.declared.rule.Summand.{Summand}
use Rattle.rule_linear.specs.declared.form.Part.{Part}
use Rattle.rule_linear.specs.declared.form.Part.TheVariants.{Coefficient, Constant}
use Rattle.rule_linear.specs.declared.bound.Bound.{Bound}
use Rattle.rule_linear.specs.declared.bound.Weights.{Weights}
use Rattle.rule_linear.specs.Forms.{Sum, Number, Single, Plus, Minus, Times, number_of, units, sum_at}
use Rattle.rule_linear.specs.Bounds.{bound_at, one_of, literal_number, Weighted, total}
use Rattle.rule_linear.specs.Sides.{weighted, first_total}
use Rattle.rule_linear.specs.Tests.{Agree, all_units, bound_units, IsWeighting, IsLinearOf}
use Rattle.rule_linear.specs.Walks.{IsIn, IsTotalKnown}
use Rattle.rule_linear.specs.Coefficients.{coefficient_at, AreCleared, AreClear, value_at, IsAdded, IsBoundAdded, place_bound, place_units, every_unit, Holds, is_nothing, are_nothing}
use Rattle.rule_linear.proofs.Adding.{zip_length}
use Rattle.rule_linear.proofs.Agreeing.{units_from}
use Rattle.rule_linear.proofs.Rows.{goal_none, lengths, whole, unlike_units, like_units}
use Rattle.rule_linear.proofs.Totals.{total_more}
use Rattle.rule_linear.proofs.Wraps.{wrap_product}

in_both : (u : ℕ) (us vs : List ℕ) → IsIn u (us ++ vs) → IsIn u us ⊎ IsIn u vs
in_both u [] vs h = inr h
in_both u (v ∷ us) vs (inl e) = inl (inl e)
in_both u (v ∷ us) vs (inr h) = more (in_both u us vs h)
  where
    more : IsIn u us ⊎ IsIn u vs → IsIn u (v ∷ us) ⊎ IsIn u vs
    more (inl i) = inl (inr i)
    more (inr i) = inr i

-- what is cleared
module _ (old between new : List Summand) where
  cleared_at : (us vs : List ℕ) (u : ℕ) → AreCleared old between us → AreCleared between new vs → IsIn u us ⊎ IsIn u vs → coefficient_at new u ≡ pos 0
  cleared_at us vs u h k (inl i) = k.kept u (h.cleared u i)
  cleared_at us vs u h k (inr i) = k.cleared u i

  pub cleared_both : (us vs : List ℕ) → AreCleared old between us → AreCleared between new vs → AreCleared old new (us ++ vs)
  cleared_both us vs h k = record { cleared = λ u i. cleared_at us vs u h k (in_both u us vs i); kept = λ u e. k.kept u (h.kept u e) }

  pub plus_cleared : (s a b : Sum) → s ≡ Plus a b → AreCleared old between (units a) → AreCleared between new (units b) → AreCleared old new (units s)
  plus_cleared s a b e h k = subst (λ (s : Sum). AreCleared old new (units s)) (sym e) (cleared_both (units a) (units b) h k)

  pub minus_cleared : (s a b : Sum) → s ≡ Minus a b → AreCleared old between (units a) → AreCleared between new (units b) → AreCleared old new (units s)
  minus_cleared s a b e h k = subst (λ (s : Sum). AreCleared old new (units s)) (sym e) (cleared_both (units a) (units b) h k)

module _ (old new : List Summand) where
  pub times_cleared : (s a : Sum) (n : ℤ) → s ≡ Times n a → AreCleared old new (units a) → AreCleared old new (units s)
  times_cleared s a n e h = subst (λ (s : Sum). AreCleared old new (units s)) (sym e) h

  alone_at : (t : ℕ) → coefficient_at new t ≡ pos 0 → ((u : ℕ) → u ≢ t → coefficient_at new u ≡ coefficient_at old u) → (u : ℕ) (b : Bool) → nat_eq u t ≡ b → coefficient_at old u ≡ pos 0 → coefficient_at new u ≡ pos 0
  alone_at t z h u true e f = let same : u ≡ t = eqb-true u t e in ap (coefficient_at new) same ∙ z
  alone_at t z h u false e f = h u (λ same. let y : nat_eq u t ≡ true = eq-eqb u t same in let bad : true ≡ false = sym y ∙ e in cc) ∙ f

  single_in : (t u : ℕ) → coefficient_at new t ≡ pos 0 → IsIn u (t ∷ []) → coefficient_at new u ≡ pos 0
  single_in t u z (inl e) = ap (coefficient_at new) (sym e) ∙ z
  single_in t u z (inr i) = absurd i

  pub alone_cleared : (s : Sum) (t : ℕ) → s ≡ Single t → coefficient_at new t ≡ pos 0 → ((u : ℕ) → u ≢ t → coefficient_at new u ≡ coefficient_at old u) → AreCleared old new (units s)
  alone_cleared s t e z h =
      subst (λ (s : Sum). AreCleared old new (units s)) (sym e) (record { cleared = λ u i. single_in t u z i; kept = λ u f. alone_at t z h u (nat_eq u t) refl f })

nothing_cleared : (room : List Summand) → AreCleared room room []
nothing_cleared room = record { cleared = λ u i. absurd i; kept = λ u e. e }

pub number_cleared : (room : List Summand) (s : Sum) (n : ℤ) → s ≡ Number n → AreCleared room room (units s)
number_cleared room s n e = subst (λ (s : Sum). AreCleared room room (units s)) (sym e) (nothing_cleared room)

-- the units of a literal's bound
pub some_cleared : (old new : List Summand) (terms : List Term) (o : Option Bound) (b : Bound) → Some b ≡ o → AreCleared old new (bound_units terms (Some b)) → AreCleared old new (bound_units terms o)
some_cleared old new terms o b e h = subst (λ (o : Option Bound). AreCleared old new (bound_units terms o)) e h

pub none_cleared : (room : List Summand) (terms : List Term) (o : Option Bound) → None ≡ o → AreCleared room room (bound_units terms o)
none_cleared room terms o e = subst (λ (o : Option Bound). AreCleared room room (bound_units terms o)) e (nothing_cleared room)

-- literal by literal: a unit is cleared, or is one of those to come
pub record Clearing (w : Weights) (terms : List Term) (room : List Summand) (i : ℕ) : Type 0 where
  pub at : (u : ℕ) → IsIn u (every_unit w terms) → (coefficient_at room u ≡ pos 0) ⊎ IsIn u (all_units w.sorts.now terms (drop i (weighted w)))

module _ (w : Weights) (terms : List Term) where
  pub start_clearing : (room : List Summand) → Clearing w terms room 0
  start_clearing room = record { at = λ u i. inr i }

  clearing_at : (old new : List Summand) (us vs : List ℕ) (u : ℕ) → AreCleared old new us → IsIn u us ⊎ IsIn u vs → (coefficient_at new u ≡ pos 0) ⊎ IsIn u vs
  clearing_at old new us vs u h (inl i) = inl (h.cleared u i)
  clearing_at old new us vs u h (inr i) = inr i

  clearing_on : (old new : List Summand) (us vs ws : List ℕ) (u : ℕ) → AreCleared old new us → ws ≡ us ++ vs → (coefficient_at old u ≡ pos 0) ⊎ IsIn u ws → (coefficient_at new u ≡ pos 0) ⊎ IsIn u vs
  clearing_on old new us vs ws u h e (inl z) = inl (h.kept u z)
  clearing_on old new us vs ws u h e (inr i) = clearing_at old new us vs u h (in_both u us vs (subst (λ (ws : List ℕ). IsIn u ws) e i))

  pub next_clearing : (old new : List Summand) (i : ℕ) → length w.multipliers.now ≡ length w.literals.now → i < length w.literals.now → Clearing w terms old i → AreCleared old new (place_units w terms i) → Clearing w terms new (i + 1)
  next_clearing old new i l k c h = record {
    at = λ u j. clearing_on old new (place_units w terms i) (all_units w.sorts.now terms (drop (i + 1) (weighted w))) (all_units w.sorts.now terms (drop i (weighted w))) u h
        (units_from w.sorts.now terms w.multipliers.now w.literals.now i (record { term = 0; positive = false }) (omega (arith, l, k)) k) (c.at u j);
  }

  none_left : (i : ℕ) → length w.multipliers.now ≡ length w.literals.now → length w.literals.now ≤ i → drop i (weighted w) ≡ []
  none_left i l h = let n = zip_length w.multipliers.now w.literals.now l in drop_all i (weighted w) (omega (arith, n, h))

  clear_or : (room : List Summand) (u : ℕ) (us : List ℕ) → us ≡ [] → (coefficient_at room u ≡ pos 0) ⊎ IsIn u us → coefficient_at room u ≡ pos 0
  clear_or room u us e (inl z) = z
  clear_or room u us e (inr i) = absurd (subst (λ (us : List ℕ). IsIn u us) e i)

  pub all_clear : (room : List Summand) (i : ℕ) → length w.multipliers.now ≡ length w.literals.now → length w.literals.now ≤ i → Clearing w terms room i → AreClear room (every_unit w terms)
  all_clear room i l h c = record { clear = λ u j. clear_or room u (all_units w.sorts.now terms (drop i (weighted w))) (ap (all_units w.sorts.now terms) (none_left i l h)) (c.at u j) }

-- what is added; to wrap a factor changes nothing
wrap_factor : (y k j r : ℤ) → k ≡ int_wrap w128 j → int_wrap w128 (y +ℤ k *ℤ r) ≡ int_wrap w128 (y +ℤ j *ℤ r)
wrap_factor y k j r e =
    sym (int_wrap-add_right w128 y (k *ℤ r)) ∙ ap (λ z. int_wrap w128 (y +ℤ z)) (ap (int_wrap w128) (mul_comm k r) ∙ wrap_product r k j e ∙ ap (int_wrap w128) (mul_comm r j)) ∙ int_wrap-add_right w128 y (j *ℤ r)

plus_ring : (x f a b : ℤ) → (x +ℤ f *ℤ a) +ℤ f *ℤ b ≡ x +ℤ f *ℤ (a +ℤ b)
plus_ring x f a b = let e = mul_sum f a b in omega (arith, ints, e)

minus_ring : (x f a b : ℤ) → (x +ℤ f *ℤ a) +ℤ (pos 0 -ℤ f) *ℤ b ≡ x +ℤ f *ℤ (a -ℤ b)
minus_ring x f a b = let e = mul_diff f a b in let d = turned f b in omega (arith, ints, e, d)
  where
    turned : (f b : ℤ) → (pos 0 -ℤ f) *ℤ b ≡ pos 0 -ℤ f *ℤ b
    turned f b = let n = negative_mul f b in let g = gone f in let h = gone (f *ℤ b) in ap (λ z. z *ℤ b) g ∙ n ∙ sym h
      where
        gone : (f : ℤ) → pos 0 -ℤ f ≡ neg_ℤ f
        gone f = omega (arith, ints)

bound_ring : (x f d o : ℤ) → (x +ℤ f *ℤ o) +ℤ f *ℤ d ≡ x +ℤ f *ℤ (d +ℤ o)
bound_ring x f d o = let e = mul_sum f d o in omega (arith, ints, e)

none_more : (x m : ℤ) → x ≡ x +ℤ m *ℤ pos 0
none_more x m = omega (arith, ints)

module _ (old between new : List Summand) (before middle after factor : ℤ) where
  pub plus_added : (s a b : Sum) → s ≡ Plus a b → IsAdded old before between middle factor a → IsAdded between middle new after factor b → IsAdded old before new after factor s
  plus_added s a b e h k = subst (λ (s : Sum). IsAdded old before new after factor s) (sym e) (record {
    adds = λ p x z. k.adds p (x +ℤ factor *ℤ number_of a p) (h.adds p x z) ∙ ap (int_wrap w128) (plus_ring x factor (number_of a p) (number_of b p));
  })

  two_added : (a b : Sum) (turned : ℤ) (p : Part) (x : ℤ) → turned ≡ int_wrap w128 (pos 0 -ℤ factor) → IsAdded old before between middle factor a → IsAdded between middle new after turned b → value_at old before p ≡ int_wrap w128 x → value_at new after p ≡ int_wrap w128 (x +ℤ factor *ℤ (number_of a p -ℤ number_of b p))
  two_added a b turned p x t h k z =
      k.adds p (x +ℤ factor *ℤ number_of a p) (h.adds p x z) ∙ wrap_factor (x +ℤ factor *ℤ number_of a p) turned (pos 0 -ℤ factor) (number_of b p) t ∙ ap (int_wrap w128) (minus_ring x factor (number_of a p) (number_of b p))

  pub minus_added : (s a b : Sum) (turned : ℤ) → s ≡ Minus a b → turned ≡ int_wrap w128 (pos 0 -ℤ factor) → IsAdded old before between middle factor a → IsAdded between middle new after turned b → IsAdded old before new after factor s
  minus_added s a b turned e t h k = subst (λ (s : Sum). IsAdded old before new after factor s) (sym e) (record { adds = λ p x z. two_added a b turned p x t h k z })

-- the same of an equal constant
pub as_added : (old new : List Summand) (before z after factor : ℤ) (s : Sum) → z ≡ after → IsAdded old before new after factor s → IsAdded old before new z factor s
as_added old new before z after factor s e h = subst (λ (z : ℤ). IsAdded old before new z factor s) (sym e) h

pub as_bound_added : (terms : List Term) (old new : List Summand) (before z after factor : ℤ) (o : Option Bound) → z ≡ after → IsBoundAdded terms old before new after factor o → IsBoundAdded terms old before new z factor o
as_bound_added terms old new before z after factor o e h = subst (λ (z : ℤ). IsBoundAdded terms old before new z factor o) (sym e) h

-- the 1 of a strict bound stands in its constant alone
module _ (room : List Summand) (before first factor : ℤ) where
  none_of : (strict : Bool) (u : ℕ) (x : ℤ) → x ≡ x +ℤ factor *ℤ one_of strict (Coefficient u)
  none_of true u x = none_more x factor
  none_of false u x = none_more x factor

  one_added : (strict : Bool) (p : Part) (x : ℤ) → first ≡ int_wrap w128 (before +ℤ factor *ℤ one_of strict Constant) → value_at room before p ≡ int_wrap w128 x → value_at room first p ≡ int_wrap w128 (x +ℤ factor *ℤ one_of strict p)
  one_added strict (Coefficient u) x e z = z ∙ ap (int_wrap w128) (none_of strict u x)
  one_added strict Constant x e z = e ∙ ap (λ y. int_wrap w128 (y +ℤ factor *ℤ one_of strict Constant)) z ∙ int_wrap-add_left w128 x (factor *ℤ one_of strict Constant)

pub bound_added : (old between new : List Summand) (before first middle after factor : ℤ) (terms : List Term) (o : Option Bound) (b : Bound) (one turned : ℤ) → o ≡ Some b → one ≡ one_of b.strict Constant → first ≡ int_wrap w128 (before +ℤ factor *ℤ one) → turned ≡ int_wrap w128 (pos 0 -ℤ factor) →
    IsAdded old first between middle factor (sum_at terms b.left) → IsAdded between middle new after turned (sum_at terms b.right) → IsBoundAdded terms old before new after factor o
bound_added old between new before first middle after factor terms o b one turned e f g t h k = subst (λ (o : Option Bound). IsBoundAdded terms old before new after factor o) (sym e) (record {
  adds = λ p x z. two_added old between new first middle after factor (sum_at terms b.left) (sum_at terms b.right) turned p (x +ℤ factor *ℤ one_of b.strict p) t h k
      (one_added old before first factor b.strict p x (g ∙ ap (λ y. int_wrap w128 (before +ℤ factor *ℤ y)) f) z)
      ∙ ap (int_wrap w128) (bound_ring x factor (number_of (sum_at terms b.left) p -ℤ number_of (sum_at terms b.right) p) (one_of b.strict p));
})

module _ (old new : List Summand) (before after factor : ℤ) where
  pub times_added : (s a : Sum) (n product : ℤ) → s ≡ Times n a → product ≡ int_wrap w128 (factor *ℤ n) → IsAdded old before new after product a → IsAdded old before new after factor s
  times_added s a n product e q h = subst (λ (s : Sum). IsAdded old before new after factor s) (sym e) (record {
    adds = λ p x z. h.adds p x z ∙ wrap_factor x product (factor *ℤ n) (number_of a p) q ∙ ap (λ y. int_wrap w128 (x +ℤ y)) (mul_assoc factor n (number_of a p));
  })

  alone_adds : (t u : ℕ) (sum cell x : ℤ) (b : Bool) → nat_eq t u ≡ b → cell ≡ coefficient_at old t → sum ≡ int_wrap w128 (cell +ℤ factor) → coefficient_at new t ≡ sum → ((u : ℕ) → u ≢ t → coefficient_at new u ≡ coefficient_at old u) → coefficient_at old u ≡ int_wrap w128 x →
      coefficient_at new u ≡ int_wrap w128 (x +ℤ factor *ℤ cond b (pos 1) (pos 0))
  alone_adds t u sum cell x true e f g i h z =
      let same : t ≡ u = eqb-true t u e in
      ap (coefficient_at new) (sym same) ∙ i ∙ g ∙ ap (λ y. int_wrap w128 (y +ℤ factor)) (f ∙ ap (coefficient_at old) same ∙ z) ∙ int_wrap-add_left w128 x factor ∙ ap (λ y. int_wrap w128 (x +ℤ y)) (sym (mul_one factor))
  alone_adds t u sum cell x false e f g i h z =
      h u (λ same. let y : nat_eq t u ≡ true = eq-eqb t u (sym same) in let bad : true ≡ false = sym y ∙ e in cc) ∙ z ∙ ap (int_wrap w128) (none_more x factor)

module _ (old new : List Summand) (constant factor : ℤ) where
  alone_at_part : (t : ℕ) (sum cell : ℤ) (p : Part) (x : ℤ) → cell ≡ coefficient_at old t → sum ≡ int_wrap w128 (cell +ℤ factor) → coefficient_at new t ≡ sum → ((u : ℕ) → u ≢ t → coefficient_at new u ≡ coefficient_at old u) → value_at old constant p ≡ int_wrap w128 x →
      value_at new constant p ≡ int_wrap w128 (x +ℤ factor *ℤ number_of (Single t) p)
  alone_at_part t sum cell (Coefficient u) x f g i h z = alone_adds old new constant constant factor t u sum cell x (nat_eq t u) refl f g i h z
  alone_at_part t sum cell Constant x f g i h z = z ∙ ap (int_wrap w128) (none_more x factor)

  pub alone_added : (s : Sum) (t : ℕ) (sum cell : ℤ) → s ≡ Single t → cell ≡ coefficient_at old t → sum ≡ int_wrap w128 (cell +ℤ factor) → coefficient_at new t ≡ sum → ((u : ℕ) → u ≢ t → coefficient_at new u ≡ coefficient_at old u) → IsAdded old constant new constant factor s
  alone_added s t sum cell e f g i h = subst (λ (s : Sum). IsAdded old constant new constant factor s) (sym e) (record { adds = λ p x z. alone_at_part t sum cell p x f g i h z })

-- a number is added to the constant alone
module _ (room : List Summand) (before after factor : ℤ) where
  number_at_part : (n : ℤ) (p : Part) (x : ℤ) → after ≡ int_wrap w128 (before +ℤ factor *ℤ n) → value_at room before p ≡ int_wrap w128 x → value_at room after p ≡ int_wrap w128 (x +ℤ factor *ℤ number_of (Number n) p)
  number_at_part n (Coefficient u) x e z = z ∙ ap (int_wrap w128) (none_more x factor)
  number_at_part n Constant x e z = e ∙ ap (λ y. int_wrap w128 (y +ℤ factor *ℤ n)) z ∙ int_wrap-add_left w128 x (factor *ℤ n)

  pub number_added : (s : Sum) (n : ℤ) → s ≡ Number n → after ≡ int_wrap w128 (before +ℤ factor *ℤ n) → IsAdded room before room after factor s
  number_added s n e f = subst (λ (s : Sum). IsAdded room before room after factor s) (sym e) (record { adds = λ p x z. number_at_part n p x f z })

pub none_added : (terms : List Term) (room : List Summand) (constant factor : ℤ) (o : Option Bound) → o ≡ None → IsBoundAdded terms room constant room constant factor o
none_added terms room constant factor o e = subst (λ (o : Option Bound). IsBoundAdded terms room constant room constant factor o) (sym e) (record { adds = λ p x z. z ∙ ap (int_wrap w128) (none_more x factor) })

zero_wrap : pos 0 ≡ int_wrap w128 (pos 0)
zero_wrap = sym (int_wrap_fits w128 (pos 0) zero_fits)
  where
    zero_fits : FitsSigned w128 (pos 0)
    zero_fits = omega (arith, ints)

module _ (w : Weights) (terms : List Term) where
  pub start_holds : (room : List Summand) → AreClear room (every_unit w terms) → Holds w terms room (pos 0) 0
  start_holds room c = record { holds = λ u i. c.clear u i ∙ zero_wrap; constant = zero_wrap }

  pub as_held : (room : List Summand) (z number : ℤ) (end : ℕ) → z ≡ number → Holds w terms room number end → Holds w terms room z end
  as_held room z number end e h = subst (λ (z : ℤ). Holds w terms room z end) (sym e) h

  next_at : (old new : List Summand) (before after : ℤ) (i : ℕ) (o : Option Bound) (p : Part) → length w.multipliers.now ≡ length w.literals.now → i < length w.literals.now → o ≡ place_bound w terms i →
      IsBoundAdded terms old before new after (get_or w.multipliers.now i (pos 0)) o → value_at old before p ≡ int_wrap w128 (first_total w terms i p) → value_at new after p ≡ int_wrap w128 (first_total w terms (i + 1) p)
  next_at old new before after i o p l k e a z =
      a.adds p (first_total w terms i p) z
      ∙ ap (int_wrap w128) (ap (λ (o : Option Bound). first_total w terms i p +ℤ get_or w.multipliers.now i (pos 0) *ℤ literal_number terms o p) e
      ∙ sym (total_more w.sorts.now terms w.multipliers.now w.literals.now i (record { term = 0; positive = false }) p (omega (arith, l, k)) k))

  pub next_holds : (old new : List Summand) (before after : ℤ) (i : ℕ) (o : Option Bound) → length w.multipliers.now ≡ length w.literals.now → i < length w.literals.now → o ≡ place_bound w terms i → Holds w terms old before i → IsBoundAdded terms old before new after (get_or w.multipliers.now i (pos 0)) o → Holds w terms new after (i + 1)
  next_holds old new before after i o l k e h a = record {
    holds = λ u j. next_at old new before after i o (Coefficient u) l k e a (h.holds u j);
    constant = next_at old new before after i o Constant l k e a h.constant;
  }

-- what is 0
and_assoc : (a b c : Bool) → ((a && b) && c) ≡ (a && (b && c))
and_assoc true b c = refl
and_assoc false b c = refl

and_true : (b : Bool) → (b && true) ≡ b
and_true true = refl
and_true false = refl

and_first : (a b : Bool) → a && b ≡ true → a ≡ true
and_first true b h = refl
and_first false b h = cc

and_second : (a b : Bool) → a && b ≡ true → b ≡ true
and_second true b h = h
and_second false b h = cc

and_both : (a b : Bool) → a ≡ true → b ≡ true → a && b ≡ true
and_both true b h k = k
and_both false b h k = cc

pub nothing_is : (b : Bool) (x : ℤ) → IsTrue b ↔ (x ≡ pos 0) → b ≡ is_nothing x
nothing_is true x h = sym (ap is_nothing (h.0 refl))
nothing_is false (pos zero) h = let y : IsTrue false = h.1 refl in cc
nothing_is false (pos (suc n)) h = refl
nothing_is false (negsuc n) h = refl

nothing_zero : (x : ℤ) → is_nothing x ≡ true → x ≡ pos 0
nothing_zero (pos zero) h = refl
nothing_zero (pos (suc n)) h = cc
nothing_zero (negsuc n) h = cc

-- the two ways out of a test of both
pub first_nothing : (all x p q : Bool) → all ≡ (p && q) → x ≡ p → x ≡ false → x ≡ all
first_nothing all x p q e f t = t ∙ sym (e ∙ ap (λ p. p && q) (sym f ∙ t))

pub second_nothing : (all x y p q : Bool) → all ≡ (p && q) → x ≡ p → x ≡ true → y ≡ q → y ≡ all
second_nothing all x y p q e f t g = g ∙ sym (e ∙ ap (λ p. p && q) (sym f ∙ t))

module _ (room : List Summand) where
  nothing_both : (us vs : List ℕ) → are_nothing room (us ++ vs) ≡ (are_nothing room us && are_nothing room vs)
  nothing_both [] vs = refl
  nothing_both (u ∷ us) vs = ap (λ b. is_nothing (coefficient_at room u) && b) (nothing_both us vs) ∙ sym (and_assoc (is_nothing (coefficient_at room u)) (are_nothing room us) (are_nothing room vs))

  pub plus_nothing : (s a b : Sum) → s ≡ Plus a b → are_nothing room (units s) ≡ (are_nothing room (units a) && are_nothing room (units b))
  plus_nothing s a b e = ap (λ (s : Sum). are_nothing room (units s)) e ∙ nothing_both (units a) (units b)

  pub minus_nothing : (s a b : Sum) → s ≡ Minus a b → are_nothing room (units s) ≡ (are_nothing room (units a) && are_nothing room (units b))
  minus_nothing s a b e = ap (λ (s : Sum). are_nothing room (units s)) e ∙ nothing_both (units a) (units b)

  pub alone_nothing : (s : Sum) (t : ℕ) → s ≡ Single t → are_nothing room (units s) ≡ is_nothing (coefficient_at room t)
  alone_nothing s t e = ap (λ (s : Sum). are_nothing room (units s)) e ∙ and_true (is_nothing (coefficient_at room t))

  pub bound_nothing : (terms : List Term) (o : Option Bound) (b : Bound) → o ≡ Some b → are_nothing room (bound_units terms o) ≡ (are_nothing room (units (sum_at terms b.left)) && are_nothing room (units (sum_at terms b.right)))
  bound_nothing terms o b e = ap (λ (o : Option Bound). are_nothing room (bound_units terms o)) e ∙ nothing_both (units (sum_at terms b.left)) (units (sum_at terms b.right))

  pub nothing_from : (w : Weights) (terms : List Term) (i : ℕ) → length w.multipliers.now ≡ length w.literals.now → i < length w.literals.now →
      are_nothing room (all_units w.sorts.now terms (drop i (weighted w))) ≡ (are_nothing room (bound_units terms (bound_at w.sorts.now terms (get_or w.literals.now i (record { term = 0; positive = false })))) && are_nothing room (all_units w.sorts.now terms (drop (i + 1) (weighted w))))
  nothing_from w terms i l k =
      ap (are_nothing room) (units_from w.sorts.now terms w.multipliers.now w.literals.now i (record { term = 0; positive = false }) (omega (arith, l, k)) k)
      ∙ nothing_both (bound_units terms (bound_at w.sorts.now terms (get_or w.literals.now i (record { term = 0; positive = false })))) (all_units w.sorts.now terms (drop (i + 1) (weighted w)))

  pub nothing_left : (w : Weights) (terms : List Term) (i : ℕ) → length w.multipliers.now ≡ length w.literals.now → length w.literals.now ≤ i → are_nothing room (all_units w.sorts.now terms (drop i (weighted w))) ≡ true
  nothing_left w terms i l h = ap (λ (zs : List Weighted). are_nothing room (all_units w.sorts.now terms zs)) (none_left w terms i l h)

-- the coefficients are 0 exactly where the sums agree with nothing
module _ (w : Weights) (terms : List Term) (room : List Summand) (x : ℤ) where
  to_agree : (us : List ℕ) → ((u : ℕ) → IsIn u us → coefficient_at room u ≡ total w.sorts.now terms (weighted w) (Coefficient u)) → are_nothing room us ≡ true → Agree w terms goal_none us
  to_agree [] h e = tt
  to_agree (u ∷ us) h e =
      (sym (h u (inl refl)) ∙ nothing_zero (coefficient_at room u) (and_first (is_nothing (coefficient_at room u)) (are_nothing room us) e), to_agree us (λ v i. h v (inr i)) (and_second (is_nothing (coefficient_at room u)) (are_nothing room us) e))

  from_agree : (us : List ℕ) → ((u : ℕ) → IsIn u us → coefficient_at room u ≡ total w.sorts.now terms (weighted w) (Coefficient u)) → Agree w terms goal_none us → are_nothing room us ≡ true
  from_agree [] h a = refl
  from_agree (u ∷ us) h a = and_both (is_nothing (coefficient_at room u)) (are_nothing room us) (ap is_nothing (h u (inl refl) ∙ a.0)) (from_agree us (λ v i. h v (inr i)) a.1)

  exact : IsWeighting w terms → IsTotalKnown w terms (length w.literals.now) → Holds w terms room x (length w.literals.now) → (u : ℕ) → IsIn u (every_unit w terms) → coefficient_at room u ≡ total w.sorts.now terms (weighted w) (Coefficient u)
  exact g k h u i = h.holds u i ∙ int_wrap_fits w128 (first_total w terms (length w.literals.now) (Coefficient u)) (k (Coefficient u)) ∙ whole w terms (lengths w terms g) (Coefficient u)

  agree_by : (b : Bool) → IsWeighting w terms → IsTotalKnown w terms (length w.literals.now) → Holds w terms room x (length w.literals.now) → b ≡ are_nothing room (every_unit w terms) → IsTrue b ↔ Agree w terms goal_none (every_unit w terms)
  agree_by b g k h e = ((λ y. to_agree (every_unit w terms) (exact g k h) (sym e ∙ y)), (λ a. e ∙ from_agree (every_unit w terms) (exact g k h) a))

  pub not_nothing : (b : Bool) → IsWeighting w terms → IsTotalKnown w terms (length w.literals.now) → Holds w terms room x (length w.literals.now) → b ≡ are_nothing room (every_unit w terms) → b ≡ false → IsLinearOf w terms → ⊥
  not_nothing b g k h e f = unlike_units w terms b (agree_by b g k h e) f

  pub all_nothing : (b : Bool) → IsWeighting w terms → IsTotalKnown w terms (length w.literals.now) → Holds w terms room x (length w.literals.now) → b ≡ are_nothing room (every_unit w terms) → b ≡ true → IsTrue (lt_z (pos 0) x) ↔ IsLinearOf w terms
  all_nothing b g k h e t = like_units w terms b x g (agree_by b g k h e) t h.constant k

-- The axioms of division are true.
use Rattle.std.proofs.Common.{◌≡◌, ℕ, false, cond, inl, inr, Option, ℤ, pos, negsuc, ◌+ℤ◌, ◌-ℤ◌, ◌*ℤ◌, ◌≤ℤ◌, ◌<ℤ◌, neg_ℤ, refl, sym, ap, ◌∙◌, subst, arith}
use Rattle.std.specs.Prelude.{int_div, int_rem}
use Rattle.std.proofs.lemmas.Int.{ints}
use Rattle.object_types.specs.Values.{is_zero_int}
use Rattle.method.specs.SpecValue.{quotient, remainder}
use Rattle.method.proofs.Global.{same_int_is, test_cases}
use Rattle.int_ranges.specs.Ring.{mul_comm}
use Rattle.int_ranges.specs.QuotientLaws.{div_mul_rem, rem_within_positive, rem_within_negative, rem_non_negative, rem_non_positive}
use Rattle.terms.specs.declared.term.Kind.TheVariants as k
use Rattle.terms.specs.Formula.{Formula, binary}
use Rattle.term_meaning.specs.Meaning.{Env, IsEnv, int_value, number, Language}
use Rattle.axiom_instances.specs.Terms.{num, eq, no}
use Rattle.axiom_instances.specs.Axioms.{axiom_24i, axiom_24j, axiom_24k, axiom_24l, axiom_24m, axiom_29a, axiom_29b}
use Rattle.axiom_instances.proofs.Kit.{Has, Given, RowHolds, one, more, node_has, imp_holds, both_given, both_hold, no_given, eq_given, eq_holds, le_given, le_holds, num_has, gives_holds, int_holds}

not_zero : (b : ℤ) → (b ≡ pos 0 → ⊥) → is_zero_int b ≡ false
not_zero b h = elim (test_cases (is_zero_int b)) [
  | inl z ↦ absurd (h (same_int_is b (pos 0) z))
  | inr f ↦ f
]

rem_is : (a b : ℤ) → (b ≡ pos 0 → ⊥) → remainder a b ≡ int_rem a b
rem_is a b h = ap (λ z. cond z a (int_rem a b)) (not_zero b h)

div_is : (a b : ℤ) → (b ≡ pos 0 → ⊥) → quotient a b ≡ int_div a b
div_is a b h = ap (λ z. cond z (pos 0) (int_div a b)) (not_zero b h)

recombined : (a b : ℤ) → (b ≡ pos 0 → ⊥) → a ≡ b *ℤ quotient a b +ℤ remainder a b
recombined a b h = sym (div_mul_rem a b) ∙ (λ i. mul_comm (int_div a b) b i +ℤ int_rem a b) ∙ (λ i. b *ℤ sym (div_is a b h) i +ℤ sym (rem_is a b h) i)

remainder_low : (a b : ℤ) → pos 0 ≤ℤ a → (b ≡ pos 0 → ⊥) → pos 0 ≤ℤ remainder a b
remainder_low a b l h = subst (λ r. pos 0 ≤ℤ r) (sym (rem_is a b h)) (rem_non_negative a b l)

remainder_high : (a b : ℤ) → a ≤ℤ pos 0 → (b ≡ pos 0 → ⊥) → remainder a b ≤ℤ pos 0
remainder_high a b l h = subst (λ r. r ≤ℤ pos 0) (sym (rem_is a b h)) (rem_non_positive a b l)

positive : (b : ℤ) → pos 1 ≤ℤ b → b ≡ pos 0 → ⊥
positive b l h = omega (arith, ints)

negative : (b : ℤ) → b ≤ℤ negsuc 0 → b ≡ pos 0 → ⊥
negative b l h = omega (arith, ints)

within_positive : (a b : ℤ) → pos 1 ≤ℤ b → (remainder a b ≤ℤ (b -ℤ pos 1)) × ((pos 1 -ℤ b) ≤ℤ remainder a b)
within_positive a b l =
    let above : pos 0 <ℤ b = omega (arith, ints) in
    let w = rem_within_positive a b above in
    let low : neg_ℤ b <ℤ int_rem a b = w.0 in
    let high : int_rem a b <ℤ b = w.1 in
    let bounds : (int_rem a b ≤ℤ (b -ℤ pos 1)) × ((pos 1 -ℤ b) ≤ℤ int_rem a b) = (omega (arith, ints), omega (arith, ints)) in
    subst (λ r. (r ≤ℤ (b -ℤ pos 1)) × ((pos 1 -ℤ b) ≤ℤ r)) (sym (rem_is a b (positive b l))) bounds

within_negative : (a b : ℤ) → b ≤ℤ negsuc 0 → (remainder a b ≤ℤ (negsuc 0 -ℤ b)) × ((b +ℤ pos 1) ≤ℤ remainder a b)
within_negative a b l =
    let below : b <ℤ pos 0 = omega (arith, ints) in
    let w = rem_within_negative a b below in
    let low : b <ℤ int_rem a b = w.0 in
    let high : int_rem a b <ℤ neg_ℤ b = w.1 in
    let bounds : (int_rem a b ≤ℤ (negsuc 0 -ℤ b)) × ((b +ℤ pos 1) ≤ℤ int_rem a b) = (omega (arith, ints), omega (arith, ints)) in
    subst (λ r. (r ≤ℤ (negsuc 0 -ℤ b)) × ((b +ℤ pos 1) ≤ℤ r)) (sym (rem_is a b (negative b l))) bounds

module _ {l : Language} {e : Env} (env : IsEnv l.program e) (tree : ℕ → Option Formula) where
  unlike_zero : {f : Formula} {b : ℤ} → Has l e f (int_value b) → Given l e (no (eq f (num (pos 0)))) → b ≡ pos 0 → ⊥
  unlike_zero {f} {b} h g z = no_given g (eq_holds h (num_has (pos 0)) (ap int_value z))

  div_has : {f g : Formula} {a b : ℤ} → Has l e f (int_value a) → Has l e g (int_value b) → Has l e (binary k.Div f g) (int_value (quotient a b))
  div_has {f} {g} {a} {b} h i = node_has (more h (one i)) refl

  mod_has : {f g : Formula} {a b : ℤ} → Has l e f (int_value a) → Has l e g (int_value b) → Has l e (binary k.Mod f g) (int_value (remainder a b))
  mod_has {f} {g} {a} {b} h i = node_has (more h (one i)) refl

  add_has : {f g : Formula} {a b : ℤ} → Has l e f (int_value a) → Has l e g (int_value b) → Has l e (binary k.Add f g) (int_value (a +ℤ b))
  add_has {f} {g} {a} {b} h i = node_has (more h (one i)) refl

  sub_has : {f g : Formula} {a b : ℤ} → Has l e f (int_value a) → Has l e g (int_value b) → Has l e (binary k.Sub f g) (int_value (a -ℤ b))
  sub_has {f} {g} {a} {b} h i = node_has (more h (one i)) refl

  mul_has : {f g : Formula} {a b : ℤ} → Has l e f (int_value a) → Has l e g (int_value b) → Has l e (binary k.Mul f g) (int_value (a *ℤ b))
  mul_has {f} {g} {a} {b} h i = node_has (more h (one i)) refl

  pub holds_24i : RowHolds l e (axiom_24i l tree)
  holds_24i = int_holds env tree (λ f b h. int_holds env tree (λ g a i. gives_holds (imp_holds (λ z.
      eq_holds i (add_has (mul_has h (div_has i h)) (mod_has i h)) (ap int_value (recombined a b (unlike_zero h z)))))))

  pub holds_24j : RowHolds l e (axiom_24j l tree)
  holds_24j = int_holds env tree (λ f a h. int_holds env tree (λ g b i. gives_holds (imp_holds (λ z.
      let p = both_given z in
      le_holds (num_has (pos 0)) (mod_has h i) (remainder_low a b (le_given (num_has (pos 0)) h p.0) (unlike_zero i p.1))))))

  pub holds_24k : RowHolds l e (axiom_24k l tree)
  holds_24k = int_holds env tree (λ f a h. int_holds env tree (λ g b i. gives_holds (imp_holds (λ z.
      let p = both_given z in
      le_holds (mod_has h i) (num_has (pos 0)) (remainder_high a b (le_given h (num_has (pos 0)) p.0) (unlike_zero i p.1))))))

  pub holds_24l : RowHolds l e (axiom_24l l tree)
  holds_24l = int_holds env tree (λ f b h. int_holds env tree (λ g a i. gives_holds (imp_holds (λ z.
      let w = within_positive a b (le_given (num_has (pos 1)) h z) in
      both_hold (le_holds (mod_has i h) (sub_has h (num_has (pos 1))) w.0) (le_holds (sub_has (num_has (pos 1)) h) (mod_has i h) w.1)))))

  pub holds_24m : RowHolds l e (axiom_24m l tree)
  holds_24m = int_holds env tree (λ f b h. int_holds env tree (λ g a i. gives_holds (imp_holds (λ z.
      let w = within_negative a b (le_given h (num_has (negsuc 0)) z) in
      both_hold (le_holds (mod_has i h) (sub_has (num_has (negsuc 0)) h) w.0) (le_holds (add_has h (num_has (pos 1))) (mod_has i h) w.1)))))

  pub holds_29a : RowHolds l e (axiom_29a l tree)
  holds_29a = int_holds env tree (λ f a h. int_holds env tree (λ g b i. gives_holds (imp_holds (λ z.
      eq_holds (div_has h i) (num_has (pos 0)) (ap (λ b. int_value (quotient a (number b))) (eq_given i (num_has (pos 0)) z))))))

  pub holds_29b : RowHolds l e (axiom_29b l tree)
  holds_29b = int_holds env tree (λ f a h. int_holds env tree (λ g b i. gives_holds (imp_holds (λ z.
      eq_holds (mod_has h i) h (ap (λ b. int_value (remainder a (number b))) (eq_given i (num_has (pos 0)) z))))))

-- From the tests to the row of `linear`, and back.
use Rattle.std.proofs.Common.{◌≡◌, ◌⊎◌, inl, inr, ◌↔◌, ℕ, suc, List, [], ◌∷◌, length, Bool, true, false, IsTrue, ◌&&◌, Option, None, ℤ, pos, ◌<ℤ◌, FitsSigned, refl, ap, sym, ◌∙◌, subst, arith}
use Rattle.std.specs.Int.{w128, int_wrap}
use Rattle.std.proofs.lemmas.Int.{ints, int_wrap_fits}
use Rattle.std.proofs.lemmas.List.{take_all}
use lib.Signed.{lt_z}
use Rattle.int_ranges.specs.declared.exact.Wide.{Wide}
use Rattle.terms.specs.declared.term.Term.{Term}
use Rattle.terms.specs.declared.term.Literal.{Literal}
use Rattle.terms.specs.declared.sort.Sort.{Sort}
use Rattle.rule_linear.specs.declared.form.Part.{Part}
use Rattle.rule_linear.specs.declared.form.Part.TheVariants.{Coefficient, Constant}
use Rattle.rule_linear.specs.declared.bound.Weights.{Weights}
use Rattle.rule_linear.specs.declared.agreement.Target.{Target}
use Rattle.rule_linear.specs.Bounds.{bound_at, fits_bound, total, is_weighting, total_steps}
use Rattle.rule_linear.specs.Sides.{weighted, first_total}
use Rattle.rule_linear.specs.Walks.{IsTotalKnown, IsAllKnown}
use Rattle.rule_linear.specs.Tests.{Agree, all_units, IsWeighting, IsLinearOf, LinearLeavesOf}
use Rattle.rule_linear.proofs.InOrder.{fit_not_leaves}
use Rattle.rule_linear.proofs.Adding.{zip_length}
use Rattle.rule_linear.specs.Walks.{IsIn}
use Rattle.rule_linear.proofs.Agreeing.{agree_at, total_off}

-- nothing: what the sums are to agree with in `linear`
abbrev pub goal_none : Target
goal_none = record { factor = pos 1; bound = None }

and_second : (a b : Bool) → a && b ≡ true → b ≡ true
and_second true b h = h
and_second false b h = cc

pub weighting_lengths : (sorts : List (Option Sort)) (terms : List Term) (ms : List ℤ) (ls : List Literal) → is_weighting sorts terms ms ls ≡ true → length ms ≡ length ls
weighting_lengths sorts terms [] [] h = refl
weighting_lengths sorts terms [] (l ∷ ls) h = cc
weighting_lengths sorts terms (m ∷ ms) [] h = cc
weighting_lengths sorts terms (m ∷ ms) (l ∷ ls) h = ap suc (weighting_lengths sorts terms ms ls (and_second (fits_bound (bound_at sorts terms l) m) (is_weighting sorts terms ms ls) h))

positive_test : (n : ℤ) → IsTrue (lt_z (pos 0) n) ↔ (pos 0 <ℤ n)
positive_test n = ((λ t. grind (arith, ints)), (λ h. grind (arith, ints)))

module _ (w : Weights) (terms : List Term) where
  pub lengths : IsWeighting w terms → length w.multipliers.now ≡ length w.literals.now
  lengths h = weighting_lengths w.sorts.now terms w.multipliers.now w.literals.now h

  pub whole : length w.multipliers.now ≡ length w.literals.now → (p : Part) → first_total w terms (length w.literals.now) p ≡ total w.sorts.now terms (weighted w) p
  whole e p =
      let l = zip_length w.multipliers.now w.literals.now e in
      ap (λ zs. total w.sorts.now terms zs p) (take_all (length w.literals.now) (weighted w) (omega (arith, l)))

  pub whole_known : length w.multipliers.now ≡ length w.literals.now → IsAllKnown w terms → IsTotalKnown w terms (length w.literals.now)
  whole_known e k p = subst (λ (x : ℤ). FitsSigned w128 x) (sym (whole e p)) (k.known p)

  linear_units : IsLinearOf w terms → (us : List ℕ) → Agree w terms goal_none us
  linear_units row [] = tt
  linear_units row (u ∷ us) = (row.units u, linear_units row us)

  unit_zero : (u : ℕ) → Agree w terms goal_none (all_units w.sorts.now terms (weighted w)) → (total w.sorts.now terms (weighted w) (Coefficient u) ≡ pos 0) ⊎ IsIn u (all_units w.sorts.now terms (weighted w)) → total w.sorts.now terms (weighted w) (Coefficient u) ≡ pos 0
  unit_zero u a (inl e) = e
  unit_zero u a (inr i) = agree_at w terms goal_none (all_units w.sorts.now terms (weighted w)) u i a

  -- where the units don't agree, it is no row
  pub unlike_units : (b : Bool) → IsTrue b ↔ Agree w terms goal_none (all_units w.sorts.now terms (weighted w)) → b ≡ false → IsLinearOf w terms → ⊥
  unlike_units b f e row = let y : IsTrue b = f.1 (linear_units row (all_units w.sorts.now terms (weighted w))) in cc

  -- where they do, it is one if the constant is positive
  pub like_units : (b : Bool) (x : ℤ) → IsWeighting w terms → IsTrue b ↔ Agree w terms goal_none (all_units w.sorts.now terms (weighted w)) → b ≡ true →
      x ≡ int_wrap w128 (first_total w terms (length w.literals.now) Constant) → IsTotalKnown w terms (length w.literals.now) → IsTrue (lt_z (pos 0) x) ↔ IsLinearOf w terms
  like_units b x h f e y k =
      let same : x ≡ total w.sorts.now terms (weighted w) Constant = y ∙ int_wrap_fits w128 (first_total w terms (length w.literals.now) Constant) (k Constant) ∙ whole (lengths h) Constant in
      let a = f.0 e in
      let t = positive_test x in (
        (λ p. record { weighting = h; units = λ u. unit_zero u a (total_off w.sorts.now terms (weighted w) u); positive = subst (λ (x : ℤ). pos 0 <ℤ x) same (t.0 p) }),
        (λ row. t.1 (subst (λ (x : ℤ). pos 0 <ℤ x) (sym same) row.positive)),
      )

  pub not_weighting : (b : Bool) → b ≡ is_weighting w.sorts.now terms w.multipliers.now w.literals.now → b ≡ false → IsWeighting w terms → ⊥
  not_weighting b e f h = let bad : true ≡ false = sym h ∙ sym e ∙ f in cc

  pub no_linear : (IsWeighting w terms → ⊥) → IsLinearOf w terms → ⊥
  no_linear none row = none row.weighting

  pub no_leaves : (IsWeighting w terms → ⊥) → (x : Wide) → LinearLeavesOf w terms x → ⊥
  no_leaves none x row = none row.weighting

  pub none_leaves : IsAllKnown w terms → (x : Wide) → LinearLeavesOf w terms x → ⊥
  none_leaves k x row = fit_not_leaves (total_steps w.sorts.now terms [] (weighted w)) x k.fit row.first

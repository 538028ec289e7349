-- What is tested unit by unit holds of all units.
use Rattle.std.proofs.Common.{◌≡◌, ◌⊎◌, inl, inr, ◌↔◌, ℕ, ◌+◌, ◌<◌, ◌≤◌, List, [], ◌∷◌, ◌++◌, drop, length, get_or, Bool, true, false, IsTrue, ◌&&◌, ℤ, pos, ◌+ℤ◌, ◌*ℤ◌, Option, Some, None, refl, ap, sym, ◌∙◌, subst, arith, add-one}
use Rattle.std.specs.List.{zip}
use Rattle.std.specs.Int.{w128, int_wrap}
use Rattle.std.proofs.lemmas.Int.{ints, int_wrap_fits}
use Rattle.std.proofs.lemmas.List.{take_all, drop_all}
use Rattle.int_ranges.specs.Ring.{mul_zero}
use Rattle.terms.specs.declared.term.Term.{Term}
use Rattle.terms.specs.declared.term.Literal.{Literal}
use Rattle.terms.specs.declared.sort.Sort.{Sort}
use Rattle.rule_linear.specs.declared.form.Part.TheVariants.{Coefficient}
use Rattle.rule_linear.specs.declared.bound.Bound.{Bound}
use Rattle.rule_linear.specs.declared.bound.Weights.{Weights}
use Rattle.rule_linear.specs.declared.agreement.Target.{Target}
use Rattle.rule_linear.specs.Bounds.{bound_at, literal_number, Weighted, total}
use Rattle.rule_linear.specs.Sides.{weighted, first_total}
use Rattle.rule_linear.specs.Walks.{IsTotalKnown}
use Rattle.rule_linear.specs.Tests.{multiple, AgreesAt, Agree, all_units, bound_units}
use Rattle.rule_linear.specs.Walks.{IsIn}
use Rattle.rule_linear.proofs.Adding.{zip_at, bound_off}

zip_short : (ms : List ℤ) (ls : List Literal) → length (zip ms ls) ≤ length ls
zip_short [] ls = omega arith
zip_short (m ∷ ms) [] = omega arith
zip_short (m ∷ ms) (l ∷ ls) = let h = zip_short ms ls in omega (arith, h)

module _ (sorts : List (Option Sort)) (terms : List Term) where
  in_left : (u : ℕ) (us vs : List ℕ) → IsIn u us → IsIn u (us ++ vs)
  in_left u [] vs h = absurd h
  in_left u (v ∷ us) vs (inl e) = inl e
  in_left u (v ∷ us) vs (inr h) = inr (in_left u us vs h)

  in_right : (u : ℕ) (us vs : List ℕ) → IsIn u vs → IsIn u (us ++ vs)
  in_right u [] vs h = h
  in_right u (v ∷ us) vs h = inr (in_right u us vs h)

  literal_off : (o : Option Bound) (u : ℕ) → (literal_number terms o (Coefficient u) ≡ pos 0) ⊎ IsIn u (bound_units terms o)
  literal_off None u = inl refl
  literal_off (Some b) u = bound_off terms b u

  add_off : (m x y : ℤ) (us vs : List ℕ) (u : ℕ) → (x ≡ pos 0) ⊎ IsIn u us → (y ≡ pos 0) ⊎ IsIn u vs → ((m *ℤ x +ℤ y) ≡ pos 0) ⊎ IsIn u (us ++ vs)
  add_off m x y us vs u (inl e) (inl f) = let p : m *ℤ x ≡ pos 0 = ap (λ x. m *ℤ x) e ∙ mul_zero m in inl (omega (arith, ints, p, f))
  add_off m x y us vs u (inr i) h = inr (in_left u us vs i)
  add_off m x y us vs u (inl e) (inr i) = inr (in_right u us vs i)

  -- a unit that stands in no bound has 0 in the sum
  pub total_off : (zs : List Weighted) (u : ℕ) → (total sorts terms zs (Coefficient u) ≡ pos 0) ⊎ IsIn u (all_units sorts terms zs)
  total_off [] u = inl refl
  total_off (z ∷ zs) u = add_off z.0 (literal_number terms (bound_at sorts terms z.1) (Coefficient u)) (total sorts terms zs (Coefficient u)) (bound_units terms (bound_at sorts terms z.1)) (all_units sorts terms zs) u (literal_off (bound_at sorts terms z.1) u) (total_off zs u)

  -- the units from the literal at i on
  pub units_from : (ms : List ℤ) (ls : List Literal) (i : ℕ) (d : Literal) → i < length ms → i < length ls →
      all_units sorts terms (drop i (zip ms ls)) ≡ bound_units terms (bound_at sorts terms (get_or ls i d)) ++ all_units sorts terms (drop (i + 1) (zip ms ls))
  units_from ms ls i d h k = ap (all_units sorts terms) (zip_at ms ls i d h k) ∙ ap (λ n. bound_units terms (bound_at sorts terms (get_or ls i d)) ++ all_units sorts terms (drop n (zip ms ls))) (sym (add-one i))

module _ (w : Weights) (terms : List Term) (g : Target) where
  pub agree_both : (us vs : List ℕ) → Agree w terms g us → Agree w terms g vs → Agree w terms g (us ++ vs)
  agree_both [] vs h k = k
  agree_both (u ∷ us) vs h k = (h.0, agree_both us vs h.1 k)

  pub agree_first : (us vs : List ℕ) → Agree w terms g (us ++ vs) → Agree w terms g us
  agree_first [] vs h = tt
  agree_first (u ∷ us) vs h = (h.0, agree_first us vs h.1)

  pub agree_second : (us vs : List ℕ) → Agree w terms g (us ++ vs) → Agree w terms g vs
  agree_second [] vs h = h
  agree_second (u ∷ us) vs h = agree_second us vs h.1

  pub agree_at : (us : List ℕ) (u : ℕ) → IsIn u us → Agree w terms g us → AgreesAt w terms g u
  agree_at [] u i h = absurd i
  agree_at (v ∷ us) u (inl e) h = subst (λ (u : ℕ). AgreesAt w terms g u) e h.0
  agree_at (v ∷ us) u (inr i) h = agree_at us u i h.1

  pub both_agree : (a b : Bool) (us vs : List ℕ) → IsTrue a ↔ Agree w terms g us → IsTrue b ↔ Agree w terms g vs → IsTrue (a && b) ↔ Agree w terms g (us ++ vs)
  both_agree true b us vs f h = ((λ y. agree_both us vs (f.0 refl) (h.0 y)), (λ k. h.1 (agree_second us vs k)))
  both_agree false b us vs f h = ((λ y. cc), (λ k. absurd (no (f.1 (agree_first us vs k)))))
    where
      no : IsTrue false → ⊥
      no y = cc

  -- the two ways out of a test of both
  pub left_yes : (a b : Bool) (all us vs : List ℕ) → a ≡ true → all ≡ us ++ vs → IsTrue a ↔ Agree w terms g us → IsTrue b ↔ Agree w terms g vs → IsTrue b ↔ Agree w terms g all
  left_yes a b all us vs t e f h =
      let f' : IsTrue true ↔ Agree w terms g us = subst (λ (a : Bool). IsTrue a ↔ Agree w terms g us) t f in
      subst (λ (all : List ℕ). IsTrue b ↔ Agree w terms g all) (sym e) (both_agree true b us vs f' h)

  pub left_no : (a b : Bool) (all us vs : List ℕ) → a ≡ false → all ≡ us ++ vs → IsTrue a ↔ Agree w terms g us → IsTrue b ↔ Agree w terms g vs → IsTrue a ↔ Agree w terms g all
  left_no a b all us vs t e f h =
      let f' : IsTrue false ↔ Agree w terms g us = subst (λ (a : Bool). IsTrue a ↔ Agree w terms g us) t f in
      subst (λ (a : Bool). IsTrue a ↔ Agree w terms g all) (sym t) (subst (λ (all : List ℕ). IsTrue false ↔ Agree w terms g all) (sym e) (both_agree false b us vs f' h))

  -- the test at one unit
  pub agrees_by : (r : Bool) (u : ℕ) (x : ℤ) → x ≡ int_wrap w128 (first_total w terms (length w.literals.now) (Coefficient u)) → IsTotalKnown w terms (length w.literals.now) → IsTrue r ↔ (x ≡ multiple terms g (Coefficient u)) → IsTrue r ↔ AgreesAt w terms g u
  agrees_by r u x e k h =
      let same : x ≡ total w.sorts.now terms (weighted w) (Coefficient u) = e ∙ int_wrap_fits w128 (first_total w terms (length w.literals.now) (Coefficient u)) (k (Coefficient u))
      ∙ ap (λ zs. total w.sorts.now terms zs (Coefficient u)) (take_all (length w.literals.now) (weighted w) (zip_short w.multipliers.now w.literals.now)) in
      ((λ y. sym same ∙ h.0 y), (λ a. h.1 (same ∙ a)))

  -- the literals from a place on
  pub next_agrees : (ms : List ℤ) (ls : List Literal) (i : ℕ) (d : Literal) (b : Bool) (o : Option Bound) → ms ≡ w.multipliers.now → ls ≡ w.literals.now → i < length ms → i < length ls → o ≡ bound_at w.sorts.now terms (get_or ls i d) → IsTrue b ↔ Agree w terms g (bound_units terms o) → b ≡ true →
      Agree w terms g (all_units w.sorts.now terms (drop i (zip ms ls))) ↔ Agree w terms g (all_units w.sorts.now terms (weighted w)) → Agree w terms g (all_units w.sorts.now terms (drop (i + 1) (zip ms ls))) ↔ Agree w terms g (all_units w.sorts.now terms (weighted w))
  next_agrees ms ls i d b o p q h k e f t r =
      let here = bound_units terms (bound_at w.sorts.now terms (get_or ls i d)) in
      let rest = all_units w.sorts.now terms (drop (i + 1) (zip ms ls)) in
      let yes : IsTrue b = cc in
      let a : Agree w terms g here = subst (λ (o : Option Bound). Agree w terms g (bound_units terms o)) e (f.0 yes) in
      let split = units_from w.sorts.now terms ms ls i d h k in
      ((λ y. r.0 (subst (λ (us : List ℕ). Agree w terms g us) (sym split) (agree_both here rest a y))), (λ z. agree_second here rest (subst (λ (us : List ℕ). Agree w terms g us) split (r.1 z))))

  pub stops_agreeing : (ms : List ℤ) (ls : List Literal) (i : ℕ) (d : Literal) (b : Bool) (o : Option Bound) → i < length ms → i < length ls → o ≡ bound_at w.sorts.now terms (get_or ls i d) → IsTrue b ↔ Agree w terms g (bound_units terms o) → b ≡ false →
      Agree w terms g (all_units w.sorts.now terms (drop i (zip ms ls))) ↔ Agree w terms g (all_units w.sorts.now terms (weighted w)) → IsTrue false ↔ Agree w terms g (all_units w.sorts.now terms (weighted w))
  stops_agreeing ms ls i d b o h k e f t r =
      let here = bound_units terms (bound_at w.sorts.now terms (get_or ls i d)) in
      let rest = all_units w.sorts.now terms (drop (i + 1) (zip ms ls)) in
      let split = units_from w.sorts.now terms ms ls i d h k in (
        (λ y. cc),
        (λ z.
            let a : Agree w terms g here = agree_first here rest (subst (λ (us : List ℕ). Agree w terms g us) split (r.1 z)) in
            let y : IsTrue b = f.1 (subst (λ (o : Option Bound). Agree w terms g (bound_units terms o)) (sym e) a) in
            cc),
      )

  pub all_agree : (i : ℕ) → length w.literals.now ≤ i → Agree w terms g (all_units w.sorts.now terms (drop i (weighted w))) ↔ Agree w terms g (all_units w.sorts.now terms (weighted w)) → IsTrue true ↔ Agree w terms g (all_units w.sorts.now terms (weighted w))
  all_agree i h r =
      let l = zip_short w.multipliers.now w.literals.now in
      let d : drop i (weighted w) ≡ [] = drop_all i (weighted w) (omega (arith, l, h)) in
      ((λ y. r.0 (subst (λ (zs : List Weighted). Agree w terms g (all_units w.sorts.now terms zs)) (sym d) tt)), (λ z. refl))

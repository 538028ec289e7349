-- From the tests to the row of `cut`, and back.
use Rattle.std.proofs.Common.{◌≡◌, ◌⊎◌, inl, inr, ◌↔◌, ℕ, List, [], ◌∷◌, ◌++◌, length, Bool, true, false, IsTrue, Option, Some, None, ℤ, pos, ◌*ℤ◌, ◌≤ℤ◌, ◌<ℤ◌, IfSome, IfOk, Result, Ok, Err, ◌+ℤ◌, refl, ap, sym, ◌∙◌, subst, arith}
use Rattle.std.specs.Prelude.{if◌then◌else◌, int_lt, int_div, int_rem}
use Rattle.std.specs.Int.{w128, int_wrap}
use Rattle.std.proofs.lemmas.Int.{ints, int_wrap_fits}
use Rattle.int_ranges.specs.Ring.{mul_zero}
use Rattle.int_ranges.specs.declared.exact.Wide.{Wide}
use Rattle.terms.specs.declared.term.Term.{Term}
use Rattle.terms.specs.declared.term.Literal.{Literal}
use Rattle.terms.specs.declared.sort.Sort.{Sort}
use Rattle.rule_linear.specs.declared.form.Part.TheVariants.{Coefficient, Constant}
use Rattle.rule_linear.specs.declared.agreement.Target.{Target}
use Rattle.rule_linear.specs.declared.bound.Bound.{Bound}
use Rattle.rule_linear.specs.declared.bound.Weights.{Weights}
use Rattle.rule_linear.specs.Forms.{AllFit, FirstLeaves}
use Rattle.rule_linear.specs.Bounds.{bound_number, bound_steps, total, is_weighting}
use Rattle.rule_linear.specs.Sides.{AreWithin, weighted, first_total}
use Rattle.rule_linear.specs.Walks.{IsTotalKnown, IsBoundKnown, IsAllKnown, all_steps}
use Rattle.rule_linear.specs.Tests.{multiple_of, AgreesAt, Agree, all_units, bound_units, IsGoal, IsWeighting}
use Rattle.rule_linear.specs.Cuts.{conclusion, rounded_up, CutForm, IsCutRow, CutRowLeaves, IsCut, CutLeaves}
use Rattle.rule_linear.specs.CutTests.{IsCutRowOf, CutRowLeavesOf, IsRounded}
use Rattle.rule_linear.proofs.InOrder.{fit_both, fit_not_leaves, leaves_first, leaves_second}
use Rattle.rule_linear.specs.Walks.{IsIn}
use Rattle.rule_linear.proofs.Adding.{bound_off}
use Rattle.rule_linear.proofs.Agreeing.{agree_at, total_off}
use Rattle.rule_linear.proofs.Rows.{whole}

pub goal_is : (terms : List Term) (n : ℕ) (o : Option Bound) (goal : Bound) → o ≡ Some goal → AreWithin n goal → IsBoundKnown terms goal → IsGoal terms n o
goal_is terms n o goal e h k = subst (λ (o : Option Bound). IsGoal terms n o) (sym e) (h, k.known)

pub sides_are : (n : ℕ) (o : Option Bound) (goal : Bound) → o ≡ Some goal → AreWithin n goal → IfSome o (AreWithin n)
sides_are n o goal e h = subst (λ (o : Option Bound). IfSome o (AreWithin n)) (sym e) h

module _ (w : Weights) (terms : List Term) (g : Target) (goal : Bound) (b : g.bound ≡ Some goal) where
  rounded_units : IsRounded w terms g goal → (us : List ℕ) → Agree w terms g us
  rounded_units row [] = tt
  rounded_units row (u ∷ us) = (row.units u, rounded_units row us)

  -- a unit that stands nowhere has 0 on both sides
  both_zero : (u : ℕ) → total w.sorts.now terms (weighted w) (Coefficient u) ≡ pos 0 → bound_number terms goal (Coefficient u) ≡ pos 0 → AgreesAt w terms g u
  both_zero u e f = e ∙ sym (mul_zero g.factor) ∙ ap (λ x. g.factor *ℤ x) (sym f) ∙ ap (λ (o : Option Bound). multiple_of terms g.factor o (Coefficient u)) (sym b)

  unit_agrees : (u : ℕ) → Agree w terms g (all_units w.sorts.now terms (weighted w)) → Agree w terms g (bound_units terms (Some goal)) →
      (total w.sorts.now terms (weighted w) (Coefficient u) ≡ pos 0) ⊎ IsIn u (all_units w.sorts.now terms (weighted w)) → (bound_number terms goal (Coefficient u) ≡ pos 0) ⊎ IsIn u (bound_units terms (Some goal)) → AgreesAt w terms g u
  unit_agrees u h k (inr i) r = agree_at w terms g (all_units w.sorts.now terms (weighted w)) u i h
  unit_agrees u h k (inl e) (inl f) = both_zero u e f
  unit_agrees u h k (inl e) (inr i) = agree_at w terms g (bound_units terms (Some goal)) u i k

  pub unlike_sum : (a : Bool) → IsTrue a ↔ Agree w terms g (all_units w.sorts.now terms (weighted w)) → a ≡ false → IsRounded w terms g goal → ⊥
  unlike_sum a f e row = let y : IsTrue a = f.1 (rounded_units row (all_units w.sorts.now terms (weighted w))) in cc

  pub unlike_goal : (a : Bool) → IsTrue a ↔ Agree w terms g (bound_units terms g.bound) → a ≡ false → IsRounded w terms g goal → ⊥
  unlike_goal a f e row = let y : IsTrue a = f.1 (rounded_units row (bound_units terms g.bound)) in cc

  pub rounded_row : (a d r : Bool) (number e : ℤ) → length w.multipliers.now ≡ length w.literals.now →
      IsTrue a ↔ Agree w terms g (all_units w.sorts.now terms (weighted w)) → a ≡ true → IsTrue d ↔ Agree w terms g (bound_units terms g.bound) → d ≡ true →
      e ≡ int_wrap w128 (first_total w terms (length w.literals.now) Constant) → IsTotalKnown w terms (length w.literals.now) → number ≡ int_wrap w128 (bound_number terms goal Constant) → IsBoundKnown terms goal →
      IsTrue r ↔ (number ≡ rounded_up e g.factor) → IsTrue r ↔ IsRounded w terms g goal
  rounded_row a d r number e l f t h s p k q m x =
      let sum : e ≡ total w.sorts.now terms (weighted w) Constant = p ∙ int_wrap_fits w128 (first_total w terms (length w.literals.now) Constant) (k Constant) ∙ whole w terms l Constant in
      let constant : number ≡ bound_number terms goal Constant = q ∙ int_wrap_fits w128 (bound_number terms goal Constant) (m.known Constant) in
      let ya : IsTrue a = cc in
      let yd : IsTrue d = cc in
      let goal_agrees : Agree w terms g (bound_units terms (Some goal)) = subst (λ (o : Option Bound). Agree w terms g (bound_units terms o)) b (h.0 yd) in (
        (λ y. record {
          units = λ u. unit_agrees u (f.0 ya) goal_agrees (total_off w.sorts.now terms (weighted w) u) (bound_off terms goal u);
          constant = sym constant ∙ x.0 y ∙ ap (λ e. rounded_up e g.factor) sum;
        }),
        (λ row. x.1 (constant ∙ row.constant ∙ ap (λ e. rounded_up e g.factor) (sym sum))),
      )

module _ (w : Weights) (terms : List Term) (g : ℤ) (last : Literal) where
  pub no_conclusion : None ≡ conclusion terms last → CutForm w.sorts.now terms g w.multipliers.now w.literals.now last → ⊥
  no_conclusion e f = let k = f.concludes in let bad : None ≡ Some f.goal = e ∙ k in cc

  pub small_divisor : g <ℤ pos 1 → CutForm w.sorts.now terms g w.multipliers.now w.literals.now last → ⊥
  small_divisor h f = let l = f.least in absurd (omega (arith, ints, h, l))

  pub unweighted : (b : Bool) → b ≡ is_weighting w.sorts.now terms w.multipliers.now w.literals.now → b ≡ false → CutForm w.sorts.now terms g w.multipliers.now w.literals.now last → ⊥
  unweighted b e f form = let h = form.weighting in let bad : true ≡ false = sym h ∙ sym e ∙ f in cc

  pub no_row : (CutForm w.sorts.now terms g w.multipliers.now w.literals.now last → ⊥) → IsCutRowOf w terms g last → ⊥
  no_row f row = f row.form

  pub no_row_leaves : (CutForm w.sorts.now terms g w.multipliers.now w.literals.now last → ⊥) → (x : Wide) → CutRowLeavesOf w terms g last x → ⊥
  no_row_leaves f x row = f row.form

  -- the form of the step fits
  abbrev pub form_is : (goal : Bound) → pos 1 ≤ℤ g → IsWeighting w terms → Some goal ≡ conclusion terms last → CutForm w.sorts.now terms g w.multipliers.now w.literals.now last
  form_is goal l h e = record { least = l; weighting = h; goal = goal; concludes = sym e }

  pub sum_leaves : (goal : Bound) (x : Wide) → pos 1 ≤ℤ g → IsWeighting w terms → Some goal ≡ conclusion terms last → FirstLeaves (all_steps w terms) x → CutRowLeavesOf w terms g last x
  sum_leaves goal x l h e f = record { form = form_is goal l h e; first = leaves_first (all_steps w terms) (bound_steps terms goal) x f }

  pub goal_leaves : (goal : Bound) (x : Wide) → pos 1 ≤ℤ g → IsWeighting w terms → Some goal ≡ conclusion terms last → IsAllKnown w terms → FirstLeaves (bound_steps terms goal) x → CutRowLeavesOf w terms g last x
  goal_leaves goal x l h e k f = record { form = form_is goal l h e; first = leaves_second (all_steps w terms) (bound_steps terms goal) x k.fit f }

  same_goal : (goal : Bound) → Some goal ≡ conclusion terms last → (f : CutForm w.sorts.now terms g w.multipliers.now w.literals.now last) → f.goal ≡ goal
  same_goal goal e f = let k = f.concludes in let s : Some goal ≡ Some f.goal = e ∙ k in cc

  pub none_leaves : (goal : Bound) → Some goal ≡ conclusion terms last → IsAllKnown w terms → IsBoundKnown terms goal → (x : Wide) → CutRowLeavesOf w terms g last x → ⊥
  none_leaves goal e k m x row =
      let fit : AllFit (bound_steps terms row.form.goal) = subst (λ (b : Bound). AllFit (bound_steps terms b)) (sym (same_goal goal e row.form)) m.fit in
      fit_not_leaves (all_steps w terms ++ bound_steps terms row.form.goal) x (fit_both (all_steps w terms) (bound_steps terms row.form.goal) k.fit fit) row.first

  pub cut_row : (goal : Bound) (t : Target) (b : Bool) → t ≡ record { factor = g; bound = Some goal } → pos 1 ≤ℤ g → IsWeighting w terms → Some goal ≡ conclusion terms last → IsTrue b ↔ IsRounded w terms t goal → IsTrue b ↔ IsCutRowOf w terms g last
  cut_row goal t b same l h e r =
      let r' : IsTrue b ↔ IsRounded w terms (record { factor = g; bound = Some goal }) goal = subst (λ (t : Target). IsTrue b ↔ IsRounded w terms t goal) same r in (
        (λ y. let k = r'.0 y in record { form = form_is goal l h e; units = k.units; constant = k.constant }),
        (λ row.
            let s = same_goal goal e row.form in
            r'.1 (record {
              units = λ u. row.units u ∙ ap (λ (b : Bound). g *ℤ bound_number terms b (Coefficient u)) s;
              constant = ap (λ (b : Bound). bound_number terms b Constant) (sym s) ∙ row.constant;
            })),
      )

-- a list of numbers and a clause, taken apart
snoc_same : {X : Type 0} (xs ys : List X) (x y : X) → xs ++ x ∷ [] ≡ ys ++ y ∷ [] → (xs ≡ ys) × (x ≡ y)
snoc_same [] [] x y e = (refl, (cc))
snoc_same [] (z ∷ []) x y e = absurd (let l : length (x ∷ []) ≡ length (z ∷ y ∷ []) = ap length e in omega (arith, l))
snoc_same [] (z ∷ v ∷ ys) x y e = absurd (let l : 1 ≡ length (z ∷ v ∷ ys ++ y ∷ []) = ap length e in omega (arith, l))
snoc_same (z ∷ []) [] x y e = absurd (let l : length (z ∷ x ∷ []) ≡ length (y ∷ []) = ap length e in omega (arith, l))
snoc_same (z ∷ v ∷ xs) [] x y e = absurd (let l : length (z ∷ v ∷ xs ++ x ∷ []) ≡ 1 = ap length e in omega (arith, l))
snoc_same (z ∷ xs) (v ∷ ys) x y e =
    let h : z ≡ v = cc in
    let t : xs ++ x ∷ [] ≡ ys ++ y ∷ [] = cc in
    let r = snoc_same xs ys x y t in
    (ap (λ z. z ∷ xs) h ∙ ap (λ xs. v ∷ xs) r.0, r.1)

module _ (sorts : List (Option Sort)) (terms : List Term) (numbers : List ℤ) (clause : List Literal) where
  pub no_numbers : numbers ≡ [] → IsCut sorts terms numbers clause → ⊥
  no_numbers e c = let h = c.numbers_are in let bad : c.g ∷ c.ms ≡ [] = sym h ∙ e in cc

  pub no_numbers_leave : numbers ≡ [] → (w : Wide) → CutLeaves sorts terms numbers clause w → ⊥
  no_numbers_leave e w c = let h = c.numbers_are in let bad : c.g ∷ c.ms ≡ [] = sym h ∙ e in cc

  not_empty : {X : Type 0} (xs : List X) (x : X) → xs ++ x ∷ [] ≡ [] → ⊥
  not_empty [] x e = cc
  not_empty (y ∷ xs) x e = cc

  pub no_literals : clause ≡ [] → IsCut sorts terms numbers clause → ⊥
  no_literals e c = not_empty c.before c.last (sym c.clause_is ∙ e)

  pub no_literals_leave : clause ≡ [] → (w : Wide) → CutLeaves sorts terms numbers clause w → ⊥
  no_literals_leave e w c = not_empty c.before c.last (sym c.clause_is ∙ e)

  module _ (g : ℤ) (ms : List ℤ) (before : List Literal) (last : Literal) (n : numbers ≡ g ∷ ms) (c : clause ≡ before ++ last ∷ []) where
    of_cut : IsCut sorts terms numbers clause → IsCutRow sorts terms g ms before last
    of_cut k =
        let a : k.g ∷ k.ms ≡ g ∷ ms = sym k.numbers_are ∙ n in
        let p : k.g ≡ g = cc in
        let q : k.ms ≡ ms = cc in
        let r = snoc_same k.before before k.last last (sym k.clause_is ∙ c) in
        subst (λ (g : ℤ). IsCutRow sorts terms g ms before last) p
        (subst (λ (ms : List ℤ). IsCutRow sorts terms k.g ms before last) q
        (subst (λ (before : List Literal). IsCutRow sorts terms k.g k.ms before last) r.0
        (subst (λ (last : Literal). IsCutRow sorts terms k.g k.ms k.before last) r.1 k.row)))

    of_leaves : (w : Wide) → CutLeaves sorts terms numbers clause w → CutRowLeaves sorts terms g ms before last w
    of_leaves w k =
        let a : k.g ∷ k.ms ≡ g ∷ ms = sym k.numbers_are ∙ n in
        let p : k.g ≡ g = cc in
        let q : k.ms ≡ ms = cc in
        let r = snoc_same k.before before k.last last (sym k.clause_is ∙ c) in
        subst (λ (g : ℤ). CutRowLeaves sorts terms g ms before last w) p
        (subst (λ (ms : List ℤ). CutRowLeaves sorts terms k.g ms before last w) q
        (subst (λ (before : List Literal). CutRowLeaves sorts terms k.g k.ms before last w) r.0
        (subst (λ (last : Literal). CutRowLeaves sorts terms k.g k.ms k.before last w) r.1 k.row)))

    pub is_row : (b : Bool) → IsTrue b ↔ IsCutRow sorts terms g ms before last → IsTrue b ↔ IsCut sorts terms numbers clause
    is_row b r = ((λ y. record { g = g; ms = ms; before = before; last = last; numbers_are = n; clause_is = c; row = r.0 y }), (λ k. r.1 (of_cut k)))

    pub row_leaves : (w : Wide) → CutRowLeaves sorts terms g ms before last w → CutLeaves sorts terms numbers clause w
    row_leaves w r = record { g = g; ms = ms; before = before; last = last; numbers_are = n; clause_is = c; row = r }

    pub no_row_of : ((w : Wide) → CutRowLeaves sorts terms g ms before last w → ⊥) → (w : Wide) → CutLeaves sorts terms numbers clause w → ⊥
    no_row_of f w k = f w (of_leaves w k)

    pub exact_of : (r : Result Bool Wide) → IfOk r (λ yes. (w : Wide) → CutRowLeaves sorts terms g ms before last w → ⊥) → IfOk r (λ yes. (w : Wide) → CutLeaves sorts terms numbers clause w → ⊥)
    exact_of (Ok b) f = λ w k. f w (of_leaves w k)
    exact_of (Err x) f = f

-- rounded up: one more where the remainder is positive
pub up_is : (number e g q r : ℤ) (b : Bool) → q ≡ int_div e g → r ≡ int_rem e g → int_lt (pos 0) r ≡ true → IsTrue b ↔ (number ≡ q +ℤ pos 1) → IsTrue b ↔ (number ≡ rounded_up e g)
up_is number e g q r b f h t k =
    let same : rounded_up e g ≡ q +ℤ pos 1 = ap (λ r. if int_lt (pos 0) r then int_div e g +ℤ pos 1 else int_div e g) (sym h) ∙ ap (λ b. if b then int_div e g +ℤ pos 1 else int_div e g) t ∙ ap (λ q. q +ℤ pos 1) (sym f) in
    subst (λ (x : ℤ). IsTrue b ↔ (number ≡ x)) (sym same) k

pub same_is : (number e g q r : ℤ) (b : Bool) → q ≡ int_div e g → r ≡ int_rem e g → int_lt (pos 0) r ≡ false → IsTrue b ↔ (number ≡ q) → IsTrue b ↔ (number ≡ rounded_up e g)
same_is number e g q r b f h t k =
    let same : rounded_up e g ≡ q = ap (λ r. if int_lt (pos 0) r then int_div e g +ℤ pos 1 else int_div e g) (sym h) ∙ ap (λ b. if b then int_div e g +ℤ pos 1 else int_div e g) t ∙ sym f in
    subst (λ (x : ℤ). IsTrue b ↔ (number ≡ x)) (sym same) k

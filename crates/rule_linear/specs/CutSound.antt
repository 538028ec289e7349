-- The row of `cut` gives consequences.
use Rattle.std.proofs.Common.{◌≡◌, ℕ, ◌+◌, List, [], ◌∷◌, ◌++◌, map, Some, None, Option, slice_get, Bool, true, false, not, ◌||◌, refl, ap, sym, ◌∙◌, subst, arith, ℤ, pos, ◌+ℤ◌, ◌-ℤ◌, ◌*ℤ◌, ◌≤ℤ◌, ◌<ℤ◌}
use Rattle.std.specs.List.{zip}
use Rattle.std.specs.Prelude.{if◌then◌else◌, int_lt, int_div, int_rem}
use Rattle.std.specs.Option.{option_and_then}
use Rattle.std.proofs.lemmas.Int.{ints, by_lt_z}
use Rattle.int_ranges.specs.Ring.{mul_sum, mul_comm, mul_one}
use Rattle.int_ranges.specs.Signs.{mul_at_most}
use Rattle.int_ranges.specs.QuotientLaws.{div_mul_rem, rem_within_positive}
use Rattle.terms.specs.declared.term.Term.{Term}
use Rattle.terms.specs.declared.term.Literal.{Literal}
use Rattle.terms.specs.declared.term.Kind.{Kind}
use Rattle.terms.specs.declared.term.Kind.TheVariants.{Le}
use Rattle.terms.specs.declared.sort.Sort.{Sort}
use Rattle.term_meaning.specs.Meaning.{Language, Env, Value, truth, number, Means, IsValuation, clause_true, literal_true}
use Rattle.vcc_rules.specs.Law.{IsConsequence}
use Rattle.rule_linear.specs.declared.form.Part.TheVariants.{Coefficient, Constant}
use Rattle.rule_linear.specs.declared.bound.Bound.{Bound}
use Rattle.rule_linear.specs.Forms.{sum_at}
use Rattle.rule_linear.specs.Bounds.{bound, bound_number, total}
use Rattle.rule_linear.specs.Cuts.{conclusion_of, rounded_up, IsCut}
use Rattle.rule_linear.specs.Values.{above, dot, dot_times, dot_same, value_is}
use Rattle.rule_linear.specs.Sound.{bool_of, or_false, bound_value, at_most, above_all, weighted_form, bound_form, one}

rounded_by : (e g q r : ℤ) (b : Bool) → int_lt (pos 0) r ≡ b → q *ℤ g +ℤ r ≡ e → (pos 0 -ℤ g) <ℤ r → (g *ℤ (if b then q +ℤ pos 1 else q) +ℤ pos 1) ≤ℤ (e +ℤ g)
rounded_by e g q r true t h l =
    let p : pos 0 <ℤ r = positive r t in
    omega (arith, ints, h, p, mul_sum g q (pos 1), mul_one g, mul_comm q g)
  where
    positive : (r : ℤ) → int_lt (pos 0) r ≡ true → pos 0 <ℤ r
    positive r t = grind (arith, ints)
rounded_by e g q r false t h l = omega (arith, ints, h, l, mul_comm q g)

-- g times the rounded quotient is less than g above the number
rounded_below : (e g : ℤ) → pos 1 ≤ℤ g → (g *ℤ rounded_up e g +ℤ pos 1) ≤ℤ (e +ℤ g)
rounded_below e g h =
    let w = rem_within_positive e g (omega (arith, ints, h)) in
    let l = w.0 in
    rounded_by e g (int_div e g) (int_rem e g) (int_lt (pos 0) (int_rem e g)) refl (div_mul_rem e g) (omega (arith, ints, l))

-- what times g is less than g is at most 0
below_one : (g x : ℤ) → pos 1 ≤ℤ g → (g *ℤ x +ℤ pos 1) ≤ℤ g → x ≤ℤ pos 0
below_one g x h k =
    by_lt_z (pos 0) x
    (λ l. let p = mul_at_most (pos 1) x g (omega (arith, ints, h)) (omega (arith, ints, l)) in absurd (omega (arith, ints, k, p, mul_one g)))
    (λ l. l)

-- the form and the rounded quotient are at most 0
cut_at_most : (g d e c : ℤ) → pos 1 ≤ℤ g → (g *ℤ d +ℤ e) ≤ℤ pos 0 → c ≡ rounded_up e g → (d +ℤ c) ≤ℤ pos 0
cut_at_most g d e c h k f =
    let r = rounded_below e g h in
    let p : g *ℤ c ≡ g *ℤ rounded_up e g = ap (λ c. g *ℤ c) f in
    below_one g (d +ℤ c) h (omega (arith, ints, k, r, p, mul_sum g d c))

module _ (language : Language) (e : Env) (terms : List Term) (v : ℕ → Value) (valued : IsValuation language e terms v) where
  concludes_means : (k : Kind) (i : ℤ) (args : List ℕ) (p : Bool) (goal : Bound) (x : Value) → conclusion_of k args p ≡ Some goal → Means language e k i (map v args) x → (if p then truth x else not (truth x)) ≡ false → (goal.strict ≡ false) × (bound_value (λ t. number (v t)) goal ≤ℤ pos 0 → ⊥)
  unfolding bound_value one
  concludes_means Le i (a ∷ b ∷ []) true goal x h m f =
      let same : bound a b false false ≡ goal = cc in
      subst (λ (goal : Bound). (goal.strict ≡ false) × (bound_value (λ t. number (v t)) goal ≤ℤ pos 0 → ⊥)) same
      (refl, λ l. let t : truth x ≡ true = m.holds (omega (arith, ints, l)) in let bad : true ≡ false = sym t ∙ f in cc)
  concludes_means Le i (a ∷ b ∷ []) false goal x h m f = cc
  concludes_means Le i [] p goal x h m f = cc
  concludes_means Le i (a ∷ []) p goal x h m f = cc
  concludes_means Le i (a ∷ b ∷ c ∷ args) p goal x h m f = cc
  concludes_means _ i args p goal x h m f = cc

  concludes_at : (l : Literal) (goal : Bound) → literal_true v l ≡ false → (o : Option Term) → slice_get terms l.term ≡ o → option_and_then (λ (n : Term). conclusion_of n.kind n.args l.positive) o ≡ Some goal → (goal.strict ≡ false) × (bound_value (λ t. number (v t)) goal ≤ℤ pos 0 → ⊥)
  concludes_at l goal f None g h = cc
  concludes_at l goal f (Some n) g h = concludes_means n.kind n.index n.args l.positive goal (v l.term) h (valued.term l.term n g) f

-- a clause with one literal more
clause_more : (v : ℕ → Value) (before : List Literal) (last : Literal) → clause_true v (before ++ last ∷ []) ≡ false → (clause_true v before ≡ false) × (literal_true v last ≡ false)
clause_more v [] last h = (refl, (or_false (literal_true v last) false h).0)
clause_more v (l ∷ ls) last h =
    let d = or_false (literal_true v l) (clause_true v (ls ++ last ∷ [])) h in
    let r = clause_more v ls last d.1 in
    (ap (λ b. b || clause_true v ls) d.0 ∙ r.0, r.1)

pub cut_sound : (language : Language) (sorts : List (Option Sort)) (terms : List Term) (root : Option ℕ) (clauses : List (List Literal)) (below : ℕ) (numbers : List ℤ) (clause : List Literal) → IsCut sorts terms numbers clause → IsConsequence language terms root clauses below clause
cut_sound language sorts terms root clauses below numbers clause c e v env valued hold =
    let w : ℕ → ℤ = λ t. number (v t) in
    let zs = zip c.ms c.before in
    let goal = c.row.form.goal in
    let g = c.g in
    let n = above_all sorts terms zs + (above (sum_at terms goal.left) + above (sum_at terms goal.right)) in
    let reads = value_is language e terms v valued in
    let total_is = weighted_form terms w reads n sorts zs (omega arith) in
    let goal_is = bound_form terms w reads n goal (omega arith) in
    let units : dot n (λ u. total sorts terms zs (Coefficient u)) w ≡ g *ℤ dot n (λ u. bound_number terms goal (Coefficient u)) w =
    dot_same n (λ u. total sorts terms zs (Coefficient u)) (λ u. g *ℤ bound_number terms goal (Coefficient u)) w c.row.units ∙ dot_times n g (λ u. bound_number terms goal (Coefficient u)) w in
    rw c.clause_is (bool_of (clause_true v (c.before ++ c.last ∷ [])) (λ f.
    let d = clause_more v c.before c.last f in
    let x = at_most language e terms sorts v valued c.ms c.before c.row.form.weighting d.0 in
    let k = concludes_at language e terms v valued c.last goal d.1 (slice_get terms c.last.term) refl c.row.form.concludes in
    let y = cut_at_most g (dot n (λ u. bound_number terms goal (Coefficient u)) w) (total sorts terms zs Constant) (bound_number terms goal Constant) c.row.form.least (omega (arith, ints, x, total_is, units)) c.row.constant in
    k.1 (omega (arith, ints, y, goal_is))))

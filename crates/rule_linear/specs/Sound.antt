-- The rows of `linear` give consequences.
use Rattle.std.proofs.Common.{◌≡◌, ℕ, ◌+◌, ◌≤◌, List, [], ◌∷◌, map, Some, None, Option, slice_get, Bool, true, false, not, ◌&&◌, ◌||◌, refl, ap, sym, ◌∙◌, arith, ℤ, pos, ◌+ℤ◌, ◌-ℤ◌, ◌*ℤ◌, ◌≤ℤ◌, int_le}
use Rattle.std.specs.List.{zip}
use Rattle.std.proofs.lemmas.Int.{ints}
use Rattle.std.specs.Option.{option_and_then}
use Rattle.std.specs.Prelude.{if◌then◌else◌}
use Rattle.int_ranges.specs.Ring.{mul_zero, mul_sum}
use Rattle.int_ranges.specs.Signs.{mul_unlike, not_at_most}
use Rattle.terms.specs.declared.term.Term.{Term}
use Rattle.terms.specs.declared.term.Literal.{Literal}
use Rattle.terms.specs.declared.sort.Sort.{Sort}
use Rattle.terms.specs.declared.term.Kind.{Kind}
use Rattle.terms.specs.declared.term.Kind.TheVariants.{Le, Eq}
use Rattle.term_meaning.specs.Meaning.{Language, Env, Value, truth, number, Means, IsValuation, clause_true, literal_true}
use Rattle.vcc_rules.specs.Law.{IsConsequence}
use Rattle.rule_linear.specs.declared.form.Part.TheVariants.{Coefficient, Constant}
use Rattle.rule_linear.specs.declared.bound.Bound.{Bound}
use Rattle.rule_linear.specs.Forms.{number_of, sum_at}
use Rattle.rule_linear.specs.Bounds.{is_int, bound, bound_of, bound_at, difference, one_of, bound_number, literal_number, Weighted, total, fits_bound, is_weighting}
use Rattle.rule_linear.specs.Rows.{IsLinear}
use Rattle.rule_linear.specs.Values.{value, dot, above, dot_sum, dot_times, dot_zero, dot_same, by_form, value_is}

unfoldable pub one : Bool → ℤ
one true = pos 1
one false = pos 0

-- the value of a bound, and of a literal's, at values of the terms
unfoldable pub bound_value : (ℕ → ℤ) → Bound → ℤ
bound_value w b = (w b.left -ℤ w b.right) +ℤ one b.strict

pub literal_value : (ℕ → ℤ) → Option Bound → ℤ
literal_value w None = pos 0
literal_value w (Some b) = bound_value w b

-- what a bound says where its literal is false
Says : Bool → ℤ → Type 0
Says true x = x ≡ pos 0
Says false x = x ≤ℤ pos 0

AtBound : (ℕ → ℤ) → Option Bound → Type 0
AtBound w None = Unit {0}
AtBound w (Some b) = Says b.equal (bound_value w b)

unnot : (b : Bool) → not b ≡ false → b ≡ true
unnot true h = refl
unnot false h = cc

pub or_false : (a b : Bool) → a || b ≡ false → (a ≡ false) × (b ≡ false)
or_false true b h = cc
or_false false b h = (refl, h)

pub bool_of : (b : Bool) → (b ≡ false → ⊥) → b ≡ true
bool_of true h = refl
bool_of false h = absurd (h refl)

and_true : (a b : Bool) → a && b ≡ true → (a ≡ true) × (b ≡ true)
and_true true b h = (refl, h)
and_true false b h = cc

module _ (language : Language) (e : Env) (terms : List Term) (sorts : List (Option Sort)) (v : ℕ → Value) (valued : IsValuation language e terms v) where
  equal_says : (t : Bool) (a b : ℕ) → number (v a) ≡ number (v b) → AtBound (λ t. number (v t)) (if t then Some (bound a b false true) else None)
  unfolding AtBound Says bound_value one
  equal_says true a b h = omega (arith, ints, h)
  equal_says false a b h = tt

  bound_says : (k : Kind) (n : ℤ) (args : List ℕ) (x : Value) (p : Bool) → Means language e k n (map v args) x → (if p then truth x else not (truth x)) ≡ false → AtBound (λ t. number (v t)) (bound_of sorts k args p)
  unfolding AtBound Says bound_value one
  bound_says Le n (a ∷ b ∷ []) x true m f =
      let no : (number (v a) ≤ℤ number (v b)) → ⊥ = (λ h. let t : truth x ≡ true = m.holds h in let bad : true ≡ false = sym t ∙ f in cc) in
      let l = not_at_most (number (v a)) (number (v b)) no in
      omega (arith, ints, l)
  bound_says Le n (a ∷ b ∷ []) x false m f =
      let t : truth x ≡ true = unnot (truth x) f in
      let l = m.yes t in
      omega (arith, ints, l)
  bound_says Eq n (a ∷ b ∷ []) x false m f =
      let t : truth x ≡ true = unnot (truth x) f in
      equal_says (is_int sorts a && is_int sorts b) a b (ap number (m.yes t))
  bound_says _ n _ x _ m f = tt

  at_node : (l : Literal) → literal_true v l ≡ false → (o : Option Term) → slice_get terms l.term ≡ o → AtBound (λ t. number (v t)) (option_and_then (λ (n : Term). bound_of sorts n.kind n.args l.positive) o)
  unfolding AtBound
  at_node l f None g = tt
  at_node l f (Some n) g = bound_says n.kind n.index n.args (v l.term) l.positive (valued.term l.term n g) f

  at_bound : (l : Literal) → literal_true v l ≡ false → AtBound (λ t. number (v t)) (bound_at sorts terms l)
  at_bound l f = at_node l f (slice_get terms l.term) refl

times_at : (s : Bool) (x m : ℤ) → (s || int_le (pos 0) m) ≡ true → Says s x → (m *ℤ x) ≤ℤ pos 0
unfolding Says
times_at true x m f a = let e : m *ℤ x ≡ pos 0 = ap (λ x. m *ℤ x) a ∙ mul_zero m in omega (arith, ints, e)
times_at false x m f a = mul_unlike m x (at_least m f) a
  where
    at_least : (m : ℤ) → int_le (pos 0) m ≡ true → pos 0 ≤ℤ m
    at_least m f = grind (arith, ints)

times : (w : ℕ → ℤ) (o : Option Bound) (m : ℤ) → fits_bound o m ≡ true → AtBound w o → (m *ℤ literal_value w o) ≤ℤ pos 0
unfolding AtBound literal_value
times w None m f a = cc
times w (Some b) m f a = times_at b.equal (bound_value w b) m f a

-- the sum of multiplier times bound, by value
pub weighted_value : List (Option Sort) → List Term → (ℕ → ℤ) → List Weighted → ℤ
weighted_value sorts terms w [] = pos 0
weighted_value sorts terms w (z ∷ zs) = z.0 *ℤ literal_value w (bound_at sorts terms z.1) +ℤ weighted_value sorts terms w zs

pub at_most : (language : Language) (e : Env) (terms : List Term) (sorts : List (Option Sort)) (v : ℕ → Value) → IsValuation language e terms v → (ms : List ℤ) (ls : List Literal) → is_weighting sorts terms ms ls ≡ true → clause_true v ls ≡ false → weighted_value sorts terms (λ t. number (v t)) (zip ms ls) ≤ℤ pos 0
unfolding weighted_value
at_most language e terms sorts v valued [] ls f c = omega (arith, ints)
at_most language e terms sorts v valued (m ∷ ms) (l ∷ ls) f c =
    let d = or_false (literal_true v l) (clause_true v ls) c in
    let g = and_true (fits_bound (bound_at sorts terms l) m) (is_weighting sorts terms ms ls) f in
    let x = times (λ t. number (v t)) (bound_at sorts terms l) m g.0 (at_bound language e terms sorts v valued l d.0) in
    let y = at_most language e terms sorts v valued ms ls g.1 d.1 in
    omega (arith, ints, x, y)
at_most language e terms sorts v valued (m ∷ ms) [] f c = cc

-- a number above the units of a bound, and of all bounds
pub above_bound : List Term → Option Bound → ℕ
above_bound terms None = 0
above_bound terms (Some b) = above (sum_at terms b.left) + above (sum_at terms b.right)

pub above_all : List (Option Sort) → List Term → List Weighted → ℕ
above_all sorts terms [] = 0
above_all sorts terms (z ∷ zs) = above_bound terms (bound_at sorts terms z.1) + above_all sorts terms zs

one_is : (b : Bool) → one b ≡ one_of b Constant
unfolding one
one_is true = refl
one_is false = refl

one_no : (b : Bool) (u : ℕ) → one_of b (Coefficient u) ≡ pos 0
one_no true u = refl
one_no false u = refl

with_zero : (x y : ℤ) → y ≡ pos 0 → x ≡ x +ℤ y
with_zero x y e = omega (arith, ints, e)

module _ (terms : List Term) (w : ℕ → ℤ) (reads : (t : ℕ) → value w (sum_at terms t) ≡ w t) (n : ℕ) where
  -- the value of a bound by its form
  pub bound_form : (b : Bound) → above (sum_at terms b.left) + above (sum_at terms b.right) ≤ n → bound_value w b ≡ dot n (λ u. bound_number terms b (Coefficient u)) w +ℤ bound_number terms b Constant
  unfolding bound_value
  bound_form b h =
      let d = by_form n w (difference terms b) h in
      let s : dot n (λ u. number_of (difference terms b) (Coefficient u)) w ≡ dot n (λ u. bound_number terms b (Coefficient u)) w =
      dot_same n (λ u. number_of (difference terms b) (Coefficient u)) (λ u. bound_number terms b (Coefficient u)) w
      (λ u. with_zero (number_of (difference terms b) (Coefficient u)) (one_of b.strict (Coefficient u)) (one_no b.strict u)) in
      omega (arith, ints, d, s, reads b.left, reads b.right, one_is b.strict)

  literal_form : (o : Option Bound) → above_bound terms o ≤ n → literal_value w o ≡ dot n (λ u. literal_number terms o (Coefficient u)) w +ℤ literal_number terms o Constant
  unfolding literal_value above_bound
  literal_form None h = omega (arith, ints, dot_zero n (λ u. pos 0) w (λ u. refl))
  literal_form (Some b) h = bound_form b h

  pub weighted_form : (sorts : List (Option Sort)) (zs : List Weighted) → above_all sorts terms zs ≤ n → weighted_value sorts terms w zs ≡ dot n (λ u. total sorts terms zs (Coefficient u)) w +ℤ total sorts terms zs Constant
  unfolding weighted_value above_all
  weighted_form sorts [] h = omega (arith, ints, dot_zero n (λ u. pos 0) w (λ u. refl))
  weighted_form sorts (z ∷ zs) h =
      let o = bound_at sorts terms z.1 in
      let m = z.0 in
      let f : ℕ → ℤ = λ u. literal_number terms o (Coefficient u) in
      let x : m *ℤ literal_value w o ≡ m *ℤ dot n f w +ℤ m *ℤ literal_number terms o Constant =
      ap (λ x. m *ℤ x) (literal_form o (omega (arith, h))) ∙ mul_sum m (dot n f w) (literal_number terms o Constant) in
      let y = weighted_form sorts zs (omega (arith, h)) in
      omega (arith, ints, x, y, dot_times n m f w, dot_sum n (λ u. m *ℤ f u) (λ u. total sorts terms zs (Coefficient u)) w)

self : (n : ℕ) → n ≤ n
self n = omega arith

pub linear_sound : (language : Language) (sorts : List (Option Sort)) (terms : List Term) (root : Option ℕ) (clauses : List (List Literal)) (below : ℕ) (ms : List ℤ) (clause : List Literal) → IsLinear sorts terms ms clause → IsConsequence language terms root clauses below clause
linear_sound language sorts terms root clauses below ms clause row e v env valued hold =
    let w : ℕ → ℤ = λ t. number (v t) in
    let zs = zip ms clause in
    let n = above_all sorts terms zs in
    let y = weighted_form terms w (value_is language e terms v valued) n sorts zs (self n) in
    let z = dot_zero n (λ u. total sorts terms zs (Coefficient u)) w row.units in
    let p = row.positive in
    bool_of (clause_true v clause) (λ c. let x = at_most language e terms sorts v valued ms clause row.weighting c in omega (arith, ints, x, y, z, p))

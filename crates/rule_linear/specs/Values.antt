-- The value of a sum at any values of its units, by its form.
use Rattle.std.proofs.Common.{◌≡◌, ℕ, zero, suc, ◌+◌, ◌<◌, ◌≤◌, List, [], ◌∷◌, map, Some, None, Option, slice_get, Bool, true, false, nat_eq, cond, ℤ, pos, ◌+ℤ◌, ◌-ℤ◌, ◌*ℤ◌, refl, ap, sym, ◌∙◌, subst, arith, eq-eqb}
use Rattle.std.specs.Option.{option_and_then}
use Rattle.std.proofs.lemmas.Int.{ints}
use Rattle.std.proofs.lemmas.Bool.{eqb-true}
use Rattle.int_ranges.specs.Ring.{mul_sum, sum_mul, diff_mul, mul_assoc, mul_zero, zero_mul, one_mul}
use Rattle.terms.specs.declared.term.Term.{Term}
use Rattle.terms.specs.declared.term.Kind.{Kind}
use Rattle.terms.specs.declared.term.Kind.TheVariants.{Int, Add, Sub, Mul}
use Rattle.term_meaning.specs.Meaning.{Language, Env, Value, number, Means, IsValuation}
use Rattle.rule_linear.specs.declared.form.Shape.{Shape}
use Rattle.rule_linear.specs.declared.form.Shape.TheVariants as s
use Rattle.rule_linear.specs.declared.form.Part.TheVariants.{Coefficient, Constant}
use Rattle.rule_linear.specs.Forms.{Sum, Number, Single, Plus, Minus, Times, number_of, whole_number, number_at, product_shape, shape_of, shape_in, of_shape, sum_within, sum_at}

abbrev pub value : (ℕ → ℤ) → Sum → ℤ
value w (Number n) = n
value w (Single t) = w t
value w (Plus a b) = value w a +ℤ value w b
value w (Minus a b) = value w a -ℤ value w b
value w (Times n a) = n *ℤ value w a

-- the first coefficients times the values of their units
abbrev pub dot : ℕ → (ℕ → ℤ) → (ℕ → ℤ) → ℤ
dot zero f w = pos 0
dot (suc n) f w = f n *ℤ w n +ℤ dot n f w

-- a number above all units
abbrev pub above : Sum → ℕ
above (Number n) = 0
above (Single t) = suc t
above (Plus a b) = above a + above b
above (Minus a b) = above a + above b
above (Times n a) = above a

pub dot_sum : (n : ℕ) (f g w : ℕ → ℤ) → dot n (λ u. f u +ℤ g u) w ≡ dot n f w +ℤ dot n g w
dot_sum zero f g w = refl
dot_sum (suc n) f g w = omega (arith, ints, sum_mul (f n) (g n) (w n), dot_sum n f g w)

pub dot_difference : (n : ℕ) (f g w : ℕ → ℤ) → dot n (λ u. f u -ℤ g u) w ≡ dot n f w -ℤ dot n g w
dot_difference zero f g w = refl
dot_difference (suc n) f g w = omega (arith, ints, diff_mul (f n) (g n) (w n), dot_difference n f g w)

pub dot_times : (n : ℕ) (m : ℤ) (f w : ℕ → ℤ) → dot n (λ u. m *ℤ f u) w ≡ m *ℤ dot n f w
dot_times zero m f w = sym (mul_zero m)
dot_times (suc n) m f w = omega (arith, ints, mul_assoc m (f n) (w n), mul_sum m (f n *ℤ w n) (dot n f w), dot_times n m f w)

pub dot_zero : (n : ℕ) (f w : ℕ → ℤ) → ((u : ℕ) → f u ≡ pos 0) → dot n f w ≡ pos 0
dot_zero zero f w z = refl
dot_zero (suc n) f w z =
    let e : f n *ℤ w n ≡ pos 0 = ap (λ x. x *ℤ w n) (z n) ∙ zero_mul (w n) in
    omega (arith, ints, e, dot_zero n f w z)

pub dot_same : (n : ℕ) (f g w : ℕ → ℤ) → ((u : ℕ) → f u ≡ g u) → dot n f w ≡ dot n g w
dot_same zero f g w e = refl
dot_same (suc n) f g w e =
    let p : f n *ℤ w n ≡ g n *ℤ w n = ap (λ x. x *ℤ w n) (e n) in
    omega (arith, ints, p, dot_same n f g w e)

-- below its number, a unit has no coefficient
before_at : (n t : ℕ) (x y : ℤ) (b : Bool) → suc n ≤ t → nat_eq t n ≡ b → y ≡ pos 0 → cond b (pos 1) (pos 0) *ℤ x +ℤ y ≡ pos 0
before_at n t x y true h e f = let same : t ≡ n = eqb-true t n e in absurd (omega (arith, same, h))
before_at n t x y false h e f = omega (arith, ints, zero_mul x, f)

single_before : (n t : ℕ) (w : ℕ → ℤ) → n ≤ t → dot n (λ u. cond (nat_eq t u) (pos 1) (pos 0)) w ≡ pos 0
single_before zero t w h = refl
single_before (suc n) t w h = before_at n t (w n) (dot n (λ u. cond (nat_eq t u) (pos 1) (pos 0)) w) (nat_eq t n) h refl (single_before n t w (omega (arith, h)))

other_below : (t n : ℕ) → t < suc n → nat_eq t n ≡ false → t < n
other_below t n h e =
    let unlike : t ≡ n → ⊥ = (λ s. let y : nat_eq t n ≡ true = eq-eqb t n s in let z : true ≡ false = sym y ∙ e in cc) in
    omega (arith, h, unlike)

dot_at : (n t : ℕ) (w : ℕ → ℤ) (y : ℤ) (b : Bool) → t < suc n → nat_eq t n ≡ b → (n ≤ t → y ≡ pos 0) → (t < n → y ≡ w t) → cond b (pos 1) (pos 0) *ℤ w n +ℤ y ≡ w t
dot_at n t w y true h e f g =
    let same : t ≡ n = eqb-true t n e in
    let q : w n ≡ w t = ap w (sym same) in
    omega (arith, ints, one_mul (w n), q, f (omega (arith, same)))
dot_at n t w y false h e f g = omega (arith, ints, zero_mul (w n), g (other_below t n h e))

single_dot : (n t : ℕ) (w : ℕ → ℤ) → t < n → dot n (λ u. cond (nat_eq t u) (pos 1) (pos 0)) w ≡ w t
single_dot zero t w h = absurd (omega (arith, h))
single_dot (suc n) t w h = dot_at n t w (dot n (λ u. cond (nat_eq t u) (pos 1) (pos 0)) w) (nat_eq t n) h refl (single_before n t w) (single_dot n t w)

-- the value of a sum by its form
pub by_form : (n : ℕ) (w : ℕ → ℤ) (a : Sum) → above a ≤ n → value w a ≡ dot n (λ u. number_of a (Coefficient u)) w +ℤ number_of a Constant
by_form n w (Number x) h = omega (arith, ints, dot_zero n (λ u. pos 0) w (λ u. refl))
by_form n w (Single t) h = omega (arith, ints, single_dot n t w (omega (arith, h)))
by_form n w (Plus a b) h =
    omega (arith, ints, dot_sum n (λ u. number_of a (Coefficient u)) (λ u. number_of b (Coefficient u)) w, by_form n w a (omega (arith, h)), by_form n w b (omega (arith, h)))
by_form n w (Minus a b) h =
    omega (arith, ints, dot_difference n (λ u. number_of a (Coefficient u)) (λ u. number_of b (Coefficient u)) w, by_form n w a (omega (arith, h)), by_form n w b (omega (arith, h)))
by_form n w (Times m a) h =
    ap (λ x. m *ℤ x) (by_form n w a h) ∙ mul_sum m (dot n (λ u. number_of a (Coefficient u)) w) (number_of a Constant)
    ∙ ap (λ x. x +ℤ m *ℤ number_of a Constant) (sym (dot_times n m (λ u. number_of a (Coefficient u)) w))

-- what a shape says of the value of its term
ShapeSays : (ℕ → ℤ) → Shape → ℤ → Type 0
ShapeSays w (s.Number n) x = x ≡ n
ShapeSays w (s.Plus a b) x = x ≡ w a +ℤ w b
ShapeSays w (s.Minus a b) x = x ≡ w a -ℤ w b
ShapeSays w (s.Times n a) x = x ≡ n *ℤ w a
ShapeSays w s.Alone x = Unit {0}

module _ (language : Language) (e : Env) (terms : List Term) (v : ℕ → Value) (valued : IsValuation language e terms v) where
  numbers : ℕ → ℤ
  numbers t = number (v t)

  whole_is : (k : Kind) (i : ℤ) (args : List ℕ) (n : ℤ) (x : Value) → whole_number k i args ≡ Some n → Means language e k i (map v args) x → number x ≡ n
  whole_is Int i [] n x h m = let same : i ≡ n = cc in ap number m ∙ same
  whole_is Int i (a ∷ args) n x h m = cc
  whole_is _ i args n x h m = cc

  number_is : (t : ℕ) (n : ℤ) (o : Option Term) → slice_get terms t ≡ o → option_and_then (λ (n : Term). whole_number n.kind n.index n.args) o ≡ Some n → number (v t) ≡ n
  number_is t n None g h = cc
  number_is t n (Some node) g h = whole_is node.kind node.index node.args n (v t) h (valued.term t node g)

  product_says : (x y : Option ℤ) (a b : ℕ) → number_at terms a ≡ x → number_at terms b ≡ y → ShapeSays (λ t. number (v t)) (product_shape x y a b) (number (v a) *ℤ number (v b))
  unfolding ShapeSays
  product_says (Some n) y a b h k = ap (λ x. x *ℤ number (v b)) (number_is a n (slice_get terms a) refl h)
  product_says None (Some n) a b h k = ap (λ y. number (v a) *ℤ y) (number_is b n (slice_get terms b) refl k) ∙ turned (number (v a)) n
    where
      turned : (x y : ℤ) → x *ℤ y ≡ y *ℤ x
      turned x y = omega (arith, ints)
  product_says None None a b h k = tt

  node_says : (k : Kind) (i : ℤ) (args : List ℕ) (x : Value) → Means language e k i (map v args) x → ShapeSays (λ t. number (v t)) (shape_of terms k i args) (number x)
  unfolding ShapeSays
  node_says Int i [] x m = ap number m
  node_says Int i (a ∷ args) x m = tt
  node_says Add i (a ∷ b ∷ []) x m = ap number m
  node_says Sub i (a ∷ b ∷ []) x m = ap number m
  node_says Mul i (a ∷ b ∷ []) x m =
      subst (λ (z : ℤ). ShapeSays (λ t. number (v t)) (product_shape (number_at terms a) (number_at terms b) a b) z) (sym (ap number m))
      (product_says (number_at terms a) (number_at terms b) a b refl refl)
  node_says _ i args x m = tt

  shape_says : (t : ℕ) (o : Option Term) → slice_get terms t ≡ o → ShapeSays (λ t. number (v t)) (shape_in terms o) (number (v t))
  unfolding ShapeSays
  shape_says t None g = tt
  shape_says t (Some n) g = node_says n.kind n.index n.args (v t) (valued.term t n g)

  value_of_shape : (f : ℕ → Sum) → ((t : ℕ) → value (λ t. number (v t)) (f t) ≡ number (v t)) → (t : ℕ) (h : Shape) → ShapeSays (λ t. number (v t)) h (number (v t)) → value (λ t. number (v t)) (of_shape f t h) ≡ number (v t)
  unfolding ShapeSays
  value_of_shape f p t (s.Number n) h = sym h
  value_of_shape f p t (s.Plus a b) h = omega (arith, ints, p a, p b, h)
  value_of_shape f p t (s.Minus a b) h = omega (arith, ints, p a, p b, h)
  value_of_shape f p t (s.Times n a) h = ap (λ x. n *ℤ x) (p a) ∙ sym h
  value_of_shape f p t s.Alone h = refl

  value_within : (n t : ℕ) → value (λ t. number (v t)) (sum_within n terms t) ≡ number (v t)
  unfolding sum_within
  value_within zero t = refl
  value_within (suc n) t = value_of_shape (sum_within n terms) (value_within n) t (shape_in terms (slice_get terms t)) (shape_says t (slice_get terms t) refl)

  -- the sum that a term is has the term's value
  pub value_is : (t : ℕ) → value (λ t. number (v t)) (sum_at terms t) ≡ number (v t)
  unfolding sum_at
  value_is t = value_within (suc t) t

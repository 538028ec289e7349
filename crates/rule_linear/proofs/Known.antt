-- Where the steps of a form fit, all of its numbers do.
use Rattle.std.proofs.Common.{◌≡◌, ◌⊎◌, inl, inr, ℕ, List, [], ◌∷◌, ◌++◌, map, Bool, true, false, nat_eq, cond, ℤ, pos, ◌+ℤ◌, ◌-ℤ◌, ◌*ℤ◌, FitsSigned, refl, ap, sym, ◌∙◌, subst, arith, Result}
use Rattle.std.specs.Int.{w128}
use Rattle.std.proofs.lemmas.Int.{ints}
use Rattle.std.proofs.lemmas.Bool.{eqb-true}
use Rattle.int_ranges.specs.Ring.{mul_zero}
use Rattle.int_ranges.specs.declared.exact.Wide.{Wide}
use Rattle.rule_linear.specs.declared.form.Part.{Part}
use Rattle.rule_linear.specs.declared.form.Part.TheVariants.{Coefficient, Constant}
use Rattle.rule_linear.specs.Forms.{Sum, Number, Single, Plus, Minus, Times, Step, number_of, units, parts, step_at, steps, AllFit, FirstLeaves}
use Rattle.rule_linear.specs.Walks.{IsIn, IsKnown}
use Rattle.rule_linear.specs.Bounds.{Meets}
use Rattle.rule_linear.proofs.InOrder.{fit_both, leaves_first, leaves_second, both_constant_meets}

in_left : (u : ℕ) (us vs : List ℕ) → IsIn u us → IsIn u (us ++ vs)
in_left u [] vs h = absurd h
in_left u (v ∷ us) vs (inl e) = inl e
in_left u (v ∷ us) vs (inr h) = inr (in_left u us vs h)

in_right : (u : ℕ) (us vs : List ℕ) → IsIn u vs → IsIn u (us ++ vs)
in_right u [] vs h = h
in_right u (v ∷ us) vs h = inr (in_right u us vs h)

-- a unit that stands nowhere in a sum has the coefficient 0
abbrev pub IsOff : Sum → ℕ → Type 0
IsOff s u = (number_of s (Coefficient u) ≡ pos 0) ⊎ IsIn u (units s)

single_off : (t u : ℕ) (b : Bool) → nat_eq t u ≡ b → (cond b (pos 1) (pos 0) ≡ pos 0) ⊎ IsIn u (t ∷ [])
single_off t u true e = inr (inl (eqb-true t u e))
single_off t u false e = inl refl

two_off : (us vs : List ℕ) (u : ℕ) (x y z : ℤ) → ((x ≡ pos 0) → (y ≡ pos 0) → z ≡ pos 0) → (x ≡ pos 0) ⊎ IsIn u us → (y ≡ pos 0) ⊎ IsIn u vs → (z ≡ pos 0) ⊎ IsIn u (us ++ vs)
two_off us vs u x y z f (inl e) (inl g) = inl (f e g)
two_off us vs u x y z f (inr i) h = inr (in_left u us vs i)
two_off us vs u x y z f (inl e) (inr i) = inr (in_right u us vs i)

times_off : (us : List ℕ) (u : ℕ) (n x : ℤ) → (x ≡ pos 0) ⊎ IsIn u us → (n *ℤ x ≡ pos 0) ⊎ IsIn u us
times_off us u n x (inl e) = inl (ap (λ x. n *ℤ x) e ∙ mul_zero n)
times_off us u n x (inr i) = inr i

zero_sum : (x y : ℤ) → x ≡ pos 0 → y ≡ pos 0 → x +ℤ y ≡ pos 0
zero_sum x y e f = omega (arith, ints, e, f)

zero_difference : (x y : ℤ) → x ≡ pos 0 → y ≡ pos 0 → x -ℤ y ≡ pos 0
zero_difference x y e f = omega (arith, ints, e, f)

pub off : (s : Sum) (u : ℕ) → IsOff s u
off (Number n) u = inl refl
off (Single t) u = single_off t u (nat_eq t u) refl
off (Plus a b) u = two_off (units a) (units b) u (number_of a (Coefficient u)) (number_of b (Coefficient u)) _ (zero_sum (number_of a (Coefficient u)) (number_of b (Coefficient u))) (off a u) (off b u)
off (Minus a b) u = two_off (units a) (units b) u (number_of a (Coefficient u)) (number_of b (Coefficient u)) _ (zero_difference (number_of a (Coefficient u)) (number_of b (Coefficient u))) (off a u) (off b u)
off (Times n a) u = times_off (units a) u n (number_of a (Coefficient u)) (off a u)

fit_at : (f : Part → Step) (us : List ℕ) (u : ℕ) → AllFit (map f (parts us)) → IsIn u us → FitsSigned w128 (f (Coefficient u)).result
fit_at f [] u h i = absurd i
fit_at f (v ∷ us) u h (inl e) = subst (λ (u : ℕ). FitsSigned w128 (f (Coefficient u)).result) e h.0
fit_at f (v ∷ us) u h (inr i) = fit_at f us u h.1 i

fit_constant : (f : Part → Step) (us : List ℕ) → AllFit (map f (parts us)) → FitsSigned w128 (f Constant).result
fit_constant f [] h = h.0
fit_constant f (v ∷ us) h = fit_constant f us h.1

fit_or : (f : Part → Step) (us : List ℕ) (u : ℕ) → AllFit (map f (parts us)) → FitsSigned w128 (f (Coefficient u)).result ⊎ IsIn u us → FitsSigned w128 (f (Coefficient u)).result
fit_or f us u h (inl k) = k
fit_or f us u h (inr i) = fit_at f us u h i

-- all results fit, where those at the parts do, and those elsewhere do
pub everywhere : (f : Part → Step) (us : List ℕ) → AllFit (map f (parts us)) → ((u : ℕ) → FitsSigned w128 (f (Coefficient u)).result ⊎ IsIn u us) → (p : Part) → FitsSigned w128 (f p).result
everywhere f us h k (Coefficient u) = fit_or f us u h (k u)
everywhere f us h k Constant = fit_constant f us h

pub zero_fits : (us : List ℕ) (u : ℕ) (x : ℤ) → (x ≡ pos 0) ⊎ IsIn u us → FitsSigned w128 x ⊎ IsIn u us
zero_fits us u x (inl e) = inl (subst (λ x. FitsSigned w128 x) (sym e) (zero_128))
  where
    zero_128 : FitsSigned w128 (pos 0)
    zero_128 = omega (arith, ints)
zero_fits us u x (inr i) = inr i

pub number_known : (n : ℤ) → FitsSigned w128 n → IsKnown (Number n)
number_known n h = record { fit = tt; known = at }
  where
    at : (p : Part) → FitsSigned w128 (number_of (Number n) p)
    at (Coefficient u) = omega (arith, ints)
    at Constant = h

cond_fits : (b : Bool) → FitsSigned w128 (cond b (pos 1) (pos 0))
cond_fits true = omega (arith, ints)
cond_fits false = omega (arith, ints)

pub single_known : (t : ℕ) → IsKnown (Single t)
single_known t = record { fit = tt; known = at }
  where
    at : (p : Part) → FitsSigned w128 (number_of (Single t) p)
    at (Coefficient u) = cond_fits (nat_eq t u)
    at Constant = omega (arith, ints)

pub plus_known : (s a b : Sum) → s ≡ Plus a b → IsKnown a → IsKnown b → AllFit (map (step_at (Plus a b)) (parts (units a ++ units b))) → IsKnown s
plus_known s a b e k l h = subst (λ (s : Sum). IsKnown s) (sym e) (record {
  fit = fit_both (steps a) _ k.fit (fit_both (steps b) _ l.fit h);
  known = everywhere (step_at (Plus a b)) (units a ++ units b) h (λ u. zero_fits (units a ++ units b) u (number_of (Plus a b) (Coefficient u)) (off (Plus a b) u));
})

pub minus_known : (s a b : Sum) → s ≡ Minus a b → IsKnown a → IsKnown b → AllFit (map (step_at (Minus a b)) (parts (units a ++ units b))) → IsKnown s
minus_known s a b e k l h = subst (λ (s : Sum). IsKnown s) (sym e) (record {
  fit = fit_both (steps a) _ k.fit (fit_both (steps b) _ l.fit h);
  known = everywhere (step_at (Minus a b)) (units a ++ units b) h (λ u. zero_fits (units a ++ units b) u (number_of (Minus a b) (Coefficient u)) (off (Minus a b) u));
})

pub times_known : (s a : Sum) (n : ℤ) → s ≡ Times n a → IsKnown a → AllFit (map (step_at (Times n a)) (parts (units a))) → IsKnown s
times_known s a n e k h = subst (λ (s : Sum). IsKnown s) (sym e) (record {
  fit = fit_both (steps a) _ k.fit h;
  known = everywhere (step_at (Times n a)) (units a) h (λ u. zero_fits (units a) u (number_of (Times n a) (Coefficient u)) (off (Times n a) u));
})

-- the first step that leaves, among those of a part, or among those of the whole
module _ (s a b : Sum) (w : Wide) where
  pub plus_left : s ≡ Plus a b → FirstLeaves (steps a) w → FirstLeaves (steps s) w
  plus_left e h = subst (λ (s : Sum). FirstLeaves (steps s) w) (sym e) (leaves_first (steps a) _ w h)

  pub plus_right : s ≡ Plus a b → IsKnown a → FirstLeaves (steps b) w → FirstLeaves (steps s) w
  plus_right e k h = subst (λ (s : Sum). FirstLeaves (steps s) w) (sym e) (leaves_second (steps a) _ w k.fit (leaves_first (steps b) _ w h))

  pub plus_whole : s ≡ Plus a b → IsKnown a → IsKnown b → FirstLeaves (map (step_at (Plus a b)) (parts (units a ++ units b))) w → FirstLeaves (steps s) w
  plus_whole e k l h = subst (λ (s : Sum). FirstLeaves (steps s) w) (sym e) (leaves_second (steps a) _ w k.fit (leaves_second (steps b) _ w l.fit h))

  pub minus_left : s ≡ Minus a b → FirstLeaves (steps a) w → FirstLeaves (steps s) w
  minus_left e h = subst (λ (s : Sum). FirstLeaves (steps s) w) (sym e) (leaves_first (steps a) _ w h)

  pub minus_right : s ≡ Minus a b → IsKnown a → FirstLeaves (steps b) w → FirstLeaves (steps s) w
  minus_right e k h = subst (λ (s : Sum). FirstLeaves (steps s) w) (sym e) (leaves_second (steps a) _ w k.fit (leaves_first (steps b) _ w h))

  pub minus_whole : s ≡ Minus a b → IsKnown a → IsKnown b → FirstLeaves (map (step_at (Minus a b)) (parts (units a ++ units b))) w → FirstLeaves (steps s) w
  minus_whole e k l h = subst (λ (s : Sum). FirstLeaves (steps s) w) (sym e) (leaves_second (steps a) _ w k.fit (leaves_second (steps b) _ w l.fit h))

pub times_left : (s a : Sum) (n : ℤ) (w : Wide) → s ≡ Times n a → FirstLeaves (steps a) w → FirstLeaves (steps s) w
times_left s a n w e h = subst (λ (s : Sum). FirstLeaves (steps s) w) (sym e) (leaves_first (steps a) _ w h)

pub times_whole : (s a : Sum) (n : ℤ) (w : Wide) → s ≡ Times n a → IsKnown a → FirstLeaves (map (step_at (Times n a)) (parts (units a))) w → FirstLeaves (steps s) w
times_whole s a n w e k h = subst (λ (s : Sum). FirstLeaves (steps s) w) (sym e) (leaves_second (steps a) _ w k.fit h)

-- A unit that the second sum lacks keeps its number, so the steps at the units of the second sum and at the constant tell of all.
units_fit : (f : Part → Step) (us : List ℕ) → ((u : ℕ) → FitsSigned w128 (f (Coefficient u)).result) → AllFit (map f (map Coefficient us))
units_fit f [] h = tt
units_fit f (u ∷ us) h = (h u, units_fit f us h)

fit_in : (f : Part → Step) (vs : List ℕ) (u : ℕ) → AllFit (map f (map Coefficient vs)) → FitsSigned w128 (f (Coefficient u)).result ⊎ IsIn u vs → FitsSigned w128 (f (Coefficient u)).result
fit_in f vs u h (inl k) = k
fit_in f [] u h (inr i) = absurd i
fit_in f (v ∷ vs) u h (inr (inl e)) = subst (λ (u : ℕ). FitsSigned w128 (f (Coefficient u)).result) e h.0
fit_in f (v ∷ vs) u h (inr (inr i)) = fit_in f vs u h.1 (inr i)

pub after_meets : {X : Type 0} (f : Part → Step) (us vs : List ℕ) (r : Result X Wide) → AllFit (map f (map Coefficient vs)) → ((u : ℕ) → FitsSigned w128 (f (Coefficient u)).result ⊎ IsIn u vs) → Meets (f Constant ∷ []) r → Meets (map f (parts (us ++ vs))) r
after_meets f us vs r h k m = both_constant_meets f us vs r (units_fit f us (λ u. fit_in f vs u h (k u))) h m

sum_kept : (vs : List ℕ) (u : ℕ) (x y : ℤ) → FitsSigned w128 x → (y ≡ pos 0) ⊎ IsIn u vs → FitsSigned w128 (x +ℤ y) ⊎ IsIn u vs
sum_kept vs u x y h (inl e) = inl (kept x y h e)
  where
    kept : (x y : ℤ) → FitsSigned w128 x → y ≡ pos 0 → FitsSigned w128 (x +ℤ y)
    kept x y h e = omega (arith, ints, h, e)
sum_kept vs u x y h (inr i) = inr i

difference_kept : (vs : List ℕ) (u : ℕ) (x y : ℤ) → FitsSigned w128 x → (y ≡ pos 0) ⊎ IsIn u vs → FitsSigned w128 (x -ℤ y) ⊎ IsIn u vs
difference_kept vs u x y h (inl e) = inl (kept x y h e)
  where
    kept : (x y : ℤ) → FitsSigned w128 x → y ≡ pos 0 → FitsSigned w128 (x -ℤ y)
    kept x y h e = omega (arith, ints, h, e)
difference_kept vs u x y h (inr i) = inr i

pub plus_elsewhere : (a b : Sum) → IsKnown a → (u : ℕ) → FitsSigned w128 (number_of a (Coefficient u) +ℤ number_of b (Coefficient u)) ⊎ IsIn u (units b)
plus_elsewhere a b k u = sum_kept (units b) u (number_of a (Coefficient u)) (number_of b (Coefficient u)) (k.known (Coefficient u)) (off b u)

pub minus_elsewhere : (a b : Sum) → IsKnown a → (u : ℕ) → FitsSigned w128 (number_of a (Coefficient u) -ℤ number_of b (Coefficient u)) ⊎ IsIn u (units b)
minus_elsewhere a b k u = difference_kept (units b) u (number_of a (Coefficient u)) (number_of b (Coefficient u)) (k.known (Coefficient u)) (off b u)

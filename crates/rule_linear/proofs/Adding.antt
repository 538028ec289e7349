-- The steps for a bound, and for a literal more.
use Rattle.std.proofs.Common.{◌≡◌, ◌⊎◌, inl, inr, ℕ, zero, suc, ◌+◌, ◌<◌, List, [], ◌∷◌, ◌++◌, map, take, drop, length, get_or, Bool, true, false, ℤ, pos, ◌+ℤ◌, ◌-ℤ◌, ◌*ℤ◌, FitsSigned, Option, refl, ap, sym, ◌∙◌, subst, arith, add-one, Result}
use Rattle.std.specs.List.{zip}
use Rattle.std.specs.Int.{w128, int_wrap}
use Rattle.std.proofs.lemmas.Int.{ints, int_wrap_fits}
use Rattle.int_ranges.specs.Ring.{mul_zero}
use Rattle.int_ranges.specs.declared.exact.Wide.{Wide}
use Rattle.terms.specs.declared.term.Term.{Term}
use Rattle.terms.specs.declared.term.Literal.{Literal}
use Rattle.terms.specs.declared.sort.Sort.{Sort}
use Rattle.rule_linear.specs.declared.form.Part.{Part}
use Rattle.rule_linear.specs.declared.form.Part.TheVariants.{Coefficient, Constant}
use Rattle.rule_linear.specs.declared.bound.Bound.{Bound}
use Rattle.rule_linear.specs.Forms.{number_of, units, parts, plus, times, step_at, steps, sum_at, AllFit, FirstLeaves}
use Rattle.rule_linear.specs.Bounds.{Meets, difference, one_of, bound_number, one_step, bound_steps, bound_at, Weighted, added_steps, total_steps}
use Rattle.rule_linear.specs.Walks.{IsKnown, IsBoundKnown}
use Rattle.rule_linear.specs.Walks.{IsIn}
use Rattle.rule_linear.proofs.InOrder.{fit_both, leaves_first, leaves_second}
use Rattle.rule_linear.proofs.Known.{off, everywhere, zero_fits, minus_known, minus_left, minus_right, minus_whole}
use Rattle.rule_linear.proofs.Wraps.{wrap_apart}

one_known : (strict : Bool) (f : Part → ℤ) → ((p : Part) → FitsSigned w128 (f p)) → AllFit (one_step strict (f Constant)) → (p : Part) → FitsSigned w128 (f p +ℤ one_of strict p)
one_known true f k h Constant = h.0
one_known true f k h (Coefficient u) = let l = k (Coefficient u) in omega (arith, ints, l)
one_known false f k h p = let l = k p in omega (arith, ints, l)

one_off : (strict : Bool) (u : ℕ) → one_of strict (Coefficient u) ≡ pos 0
one_off true u = refl
one_off false u = refl

-- the step for the 1
pub one_meets : {X : Type 0} (strict : Bool) (x y d a b : ℤ) (r : Result X Wide) → strict ≡ true → x ≡ int_wrap w128 a → y ≡ int_wrap w128 b → d ≡ int_wrap w128 (x -ℤ y) → FitsSigned w128 (a -ℤ b) → Meets (plus d (pos 1) ∷ []) r → Meets (one_step strict (a -ℤ b)) r
one_meets strict x y d a b r t e f g k m =
    let same : d ≡ a -ℤ b = g ∙ wrap_apart x y a b e f ∙ int_wrap_fits w128 (a -ℤ b) k in
    subst (λ (strict : Bool). Meets (one_step strict (a -ℤ b)) r) (sym t) (subst (λ (z : ℤ). Meets (plus z (pos 1) ∷ []) r) same m)

pub none_meets : (strict : Bool) (x : ℤ) → strict ≡ false → AllFit (one_step strict x)
none_meets strict x e = subst (λ (strict : Bool). AllFit (one_step strict x)) (sym e) tt

module _ (terms : List Term) (b : Bound) where
  pub difference_known : IsKnown (sum_at terms b.left) → IsKnown (sum_at terms b.right) → AllFit (map (step_at (difference terms b)) (parts (units (sum_at terms b.left) ++ units (sum_at terms b.right)))) → IsKnown (difference terms b)
  difference_known k l h = minus_known (difference terms b) (sum_at terms b.left) (sum_at terms b.right) refl k l h

  pub bound_known : IsKnown (difference terms b) → AllFit (one_step b.strict (number_of (difference terms b) Constant)) → IsBoundKnown terms b
  bound_known k h = record {
    fit = fit_both (steps (difference terms b)) (one_step b.strict (number_of (difference terms b) Constant)) k.fit h;
    known = one_known b.strict (number_of (difference terms b)) k.known h;
  }

  pub bound_left : (w : Wide) → FirstLeaves (steps (sum_at terms b.left)) w → FirstLeaves (bound_steps terms b) w
  bound_left w h = leaves_first (steps (difference terms b)) (one_step b.strict (number_of (difference terms b) Constant)) w (minus_left (difference terms b) (sum_at terms b.left) (sum_at terms b.right) w refl h)

  pub bound_right : (w : Wide) → IsKnown (sum_at terms b.left) → FirstLeaves (steps (sum_at terms b.right)) w → FirstLeaves (bound_steps terms b) w
  bound_right w k h = leaves_first (steps (difference terms b)) (one_step b.strict (number_of (difference terms b) Constant)) w (minus_right (difference terms b) (sum_at terms b.left) (sum_at terms b.right) w refl k h)

  pub bound_whole : (w : Wide) → IsKnown (sum_at terms b.left) → IsKnown (sum_at terms b.right) → FirstLeaves (map (step_at (difference terms b)) (parts (units (sum_at terms b.left) ++ units (sum_at terms b.right)))) w → FirstLeaves (bound_steps terms b) w
  bound_whole w k l h = leaves_first (steps (difference terms b)) (one_step b.strict (number_of (difference terms b) Constant)) w (minus_whole (difference terms b) (sum_at terms b.left) (sum_at terms b.right) w refl k l h)

  pub bound_one : (w : Wide) → IsKnown (difference terms b) → FirstLeaves (one_step b.strict (number_of (difference terms b) Constant)) w → FirstLeaves (bound_steps terms b) w
  bound_one w k h = leaves_second (steps (difference terms b)) (one_step b.strict (number_of (difference terms b) Constant)) w k.fit h

  bound_off_with : (u : ℕ) → (number_of (difference terms b) (Coefficient u) ≡ pos 0) ⊎ IsIn u (units (sum_at terms b.left) ++ units (sum_at terms b.right)) → (bound_number terms b (Coefficient u) ≡ pos 0) ⊎ IsIn u (units (sum_at terms b.left) ++ units (sum_at terms b.right))
  bound_off_with u (inl e) = inl (ap (λ x. x +ℤ one_of b.strict (Coefficient u)) e ∙ ap (λ x. pos 0 +ℤ x) (one_off b.strict u))
  bound_off_with u (inr i) = inr i

  pub bound_off : (u : ℕ) → (bound_number terms b (Coefficient u) ≡ pos 0) ⊎ IsIn u (units (sum_at terms b.left) ++ units (sum_at terms b.right))
  bound_off u = bound_off_with u (off (difference terms b) u)

  times_bound_off : (m : ℤ) (u : ℕ) → (bound_number terms b (Coefficient u) ≡ pos 0) ⊎ IsIn u (units (sum_at terms b.left) ++ units (sum_at terms b.right)) → (m *ℤ bound_number terms b (Coefficient u) ≡ pos 0) ⊎ IsIn u (units (sum_at terms b.left) ++ units (sum_at terms b.right))
  times_bound_off m u (inl e) = inl (ap (λ x. m *ℤ x) e ∙ mul_zero m)
  times_bound_off m u (inr i) = inr i

  -- the products fit everywhere
  pub products_known : (m : ℤ) → AllFit (map (λ p. times m (bound_number terms b p)) (parts (units (sum_at terms b.left) ++ units (sum_at terms b.right)))) → (p : Part) → FitsSigned w128 (m *ℤ bound_number terms b p)
  products_known m h = everywhere (λ p. times m (bound_number terms b p)) (units (sum_at terms b.left) ++ units (sum_at terms b.right)) h
      (λ u. zero_fits (units (sum_at terms b.left) ++ units (sum_at terms b.right)) u (m *ℤ bound_number terms b (Coefficient u)) (times_bound_off m u (bound_off u)))

  same_fits : (u : ℕ) (x y : ℤ) → FitsSigned w128 x → (y ≡ pos 0) ⊎ IsIn u (units (sum_at terms b.left) ++ units (sum_at terms b.right)) → FitsSigned w128 (x +ℤ y) ⊎ IsIn u (units (sum_at terms b.left) ++ units (sum_at terms b.right))
  same_fits u x y h (inl e) = inl (fits_with x y h e)
    where
      fits_with : (x y : ℤ) → FitsSigned w128 x → y ≡ pos 0 → FitsSigned w128 (x +ℤ y)
      fits_with x y h e = omega (arith, ints, h, e)
  same_fits u x y h (inr i) = inr i

  -- and so do the new sums
  pub sums_known : (before : Part → ℤ) (m : ℤ) → ((p : Part) → FitsSigned w128 (before p)) → AllFit (map (λ p. plus (before p) (m *ℤ bound_number terms b p)) (parts (units (sum_at terms b.left) ++ units (sum_at terms b.right)))) → (p : Part) → FitsSigned w128 (before p +ℤ m *ℤ bound_number terms b p)
  sums_known before m k h = everywhere (λ p. plus (before p) (m *ℤ bound_number terms b p)) (units (sum_at terms b.left) ++ units (sum_at terms b.right)) h
      (λ u. same_fits u (before (Coefficient u)) (m *ℤ bound_number terms b (Coefficient u)) (k (Coefficient u)) (times_bound_off m u (bound_off u)))

-- a list of pairs at a place
pub zip_at : (ms : List ℤ) (ls : List Literal) (i : ℕ) (d : Literal) → i < length ms → i < length ls → drop i (zip ms ls) ≡ (get_or ms i (pos 0), get_or ls i d) ∷ drop (suc i) (zip ms ls)
zip_at [] ls i d h k = absurd (omega arith)
zip_at (m ∷ ms) [] i d h k = absurd (omega arith)
zip_at (m ∷ ms) (l ∷ ls) zero d h k = refl
zip_at (m ∷ ms) (l ∷ ls) (suc i) d h k = zip_at ms ls i d (omega arith) (omega arith)

pub zip_before : (ms : List ℤ) (ls : List Literal) (i : ℕ) (d : Literal) → i < length ms → i < length ls → take (suc i) (zip ms ls) ≡ take i (zip ms ls) ++ (get_or ms i (pos 0), get_or ls i d) ∷ []
zip_before [] ls i d h k = absurd (omega arith)
zip_before (m ∷ ms) [] i d h k = absurd (omega arith)
zip_before (m ∷ ms) (l ∷ ls) zero d h k = refl
zip_before (m ∷ ms) (l ∷ ls) (suc i) d h k = ap (λ zs. (m, l) ∷ zs) (zip_before ms ls i d (omega arith) (omega arith))

pub zip_length : (ms : List ℤ) (ls : List Literal) → length ms ≡ length ls → length (zip ms ls) ≡ length ls
zip_length [] [] e = refl
zip_length [] (l ∷ ls) e = e
zip_length (m ∷ ms) [] e = refl
zip_length (m ∷ ms) (l ∷ ls) e = ap suc (zip_length ms ls (omega (arith, e)))

-- the steps from the literal at i on
pub steps_from : (sorts : List (Option Sort)) (terms : List Term) (ms : List ℤ) (ls : List Literal) (i : ℕ) (d : Literal) → i < length ms → i < length ls →
    total_steps sorts terms (take i (zip ms ls)) (drop i (zip ms ls))
    ≡ added_steps sorts terms (take i (zip ms ls)) (get_or ms i (pos 0)) (bound_at sorts terms (get_or ls i d)) ++ total_steps sorts terms (take (i + 1) (zip ms ls)) (drop (i + 1) (zip ms ls))
steps_from sorts terms ms ls i d h k =
    let zs = zip ms ls in
    let z : Weighted = (get_or ms i (pos 0), get_or ls i d) in
    ap (total_steps sorts terms (take i zs)) (zip_at ms ls i d h k)
    ∙ ap (λ ys. added_steps sorts terms (take i zs) (get_or ms i (pos 0)) (bound_at sorts terms (get_or ls i d)) ++ total_steps sorts terms ys (drop (suc i) zs)) (sym (zip_before ms ls i d h k))
    ∙ ap (λ n. added_steps sorts terms (take i zs) (get_or ms i (pos 0)) (bound_at sorts terms (get_or ls i d)) ++ total_steps sorts terms (take n zs) (drop n zs)) (sym (add-one i))

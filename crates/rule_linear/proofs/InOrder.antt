-- Steps one after the other.
use Rattle.std.proofs.Common.{◌≡◌, inl, inr, ℕ, List, [], ◌∷◌, ◌++◌, map, ℤ, FitsSigned, refl, ap, sym, ◌∙◌, subst, Result, Ok, Err}
use Rattle.std.specs.Int.{w128, int_wrap}
use Rattle.std.proofs.lemmas.Int.{int_wrap_fits}
use Rattle.int_ranges.specs.declared.exact.Wide.{Wide}
use Rattle.rule_linear.specs.declared.form.Part.{Part}
use Rattle.rule_linear.specs.declared.form.Part.TheVariants.{Coefficient, Constant}
use Rattle.rule_linear.specs.Forms.{Sum, Plus, Minus, Step, plus, minus, times, units, parts, AllFit, FirstLeaves}
use Rattle.rule_linear.specs.Bounds.{Meets}

pub fit_both : (ss ts : List Step) → AllFit ss → AllFit ts → AllFit (ss ++ ts)
fit_both [] ts f g = g
fit_both (s ∷ ss) ts f g = (f.0, fit_both ss ts f.1 g)

pub leaves_first : (ss ts : List Step) (w : Wide) → FirstLeaves ss w → FirstLeaves (ss ++ ts) w
leaves_first [] ts w h = absurd h
leaves_first (s ∷ ss) ts w (inl h) = inl h
leaves_first (s ∷ ss) ts w (inr h) = inr (h.0, leaves_first ss ts w h.1)

pub leaves_second : (ss ts : List Step) (w : Wide) → AllFit ss → FirstLeaves ts w → FirstLeaves (ss ++ ts) w
leaves_second [] ts w f h = h
leaves_second (s ∷ ss) ts w f h = inr (f.0, leaves_second ss ts w f.1 h)

-- where all fit, none leaves
pub fit_not_leaves : (ss : List Step) (w : Wide) → AllFit ss → FirstLeaves ss w → ⊥
fit_not_leaves [] w f h = h
fit_not_leaves (s ∷ ss) w f (inl h) = h.0 f.0
fit_not_leaves (s ∷ ss) w f (inr h) = fit_not_leaves ss w f.1 h.1

pub meets_then : {X : Type 0} (ss ts : List Step) (r : Result X Wide) → AllFit ss → Meets ts r → Meets (ss ++ ts) r
meets_then ss ts (Ok x) f m = fit_both ss ts f m
meets_then ss ts (Err w) f m = leaves_second ss ts w f m

-- a step with other names for its operands
pub plus_meets : {X : Type 0} (x y a b : ℤ) (r : Result X Wide) → x ≡ int_wrap w128 a → y ≡ int_wrap w128 b → FitsSigned w128 a → FitsSigned w128 b → Meets (plus x y ∷ []) r → Meets (plus a b ∷ []) r
plus_meets x y a b r e f g h m =
    subst (λ (a : ℤ). Meets (plus a b ∷ []) r) (e ∙ int_wrap_fits w128 a g) (subst (λ (b : ℤ). Meets (plus x b ∷ []) r) (f ∙ int_wrap_fits w128 b h) m)

pub minus_meets : {X : Type 0} (x y a b : ℤ) (r : Result X Wide) → x ≡ int_wrap w128 a → y ≡ int_wrap w128 b → FitsSigned w128 a → FitsSigned w128 b → Meets (minus x y ∷ []) r → Meets (minus a b ∷ []) r
minus_meets x y a b r e f g h m =
    subst (λ (a : ℤ). Meets (minus a b ∷ []) r) (e ∙ int_wrap_fits w128 a g) (subst (λ (b : ℤ). Meets (minus x b ∷ []) r) (f ∙ int_wrap_fits w128 b h) m)

pub times_meets : {X : Type 0} (n y b : ℤ) (r : Result X Wide) → y ≡ int_wrap w128 b → FitsSigned w128 b → Meets (times n y ∷ []) r → Meets (times n b ∷ []) r
times_meets n y b r f h m = subst (λ (b : ℤ). Meets (times n b ∷ []) r) (f ∙ int_wrap_fits w128 b h) m

-- the steps at the units of two lists
pub steps_both : (f : Part → Step) (us vs : List ℕ) → map f (map Coefficient (us ++ vs)) ≡ map f (map Coefficient us) ++ map f (map Coefficient vs)
steps_both f [] vs = refl
steps_both f (u ∷ us) vs = ap (λ ss. f (Coefficient u) ∷ ss) (steps_both f us vs)

pub two_meet : {X : Type 0} (f : Part → Step) (us vs : List ℕ) (r : Result X Wide) → AllFit (map f (map Coefficient us)) → Meets (map f (map Coefficient vs)) r → Meets (map f (map Coefficient (us ++ vs))) r
two_meet f us vs r h m = subst (λ (ss : List Step). Meets ss r) (sym (steps_both f us vs)) (meets_then (map f (map Coefficient us)) (map f (map Coefficient vs)) r h m)

pub two_leave : (f : Part → Step) (us vs : List ℕ) (w : Wide) → FirstLeaves (map f (map Coefficient us)) w → FirstLeaves (map f (map Coefficient (us ++ vs))) w
two_leave f us vs w h = subst (λ (ss : List Step). FirstLeaves ss w) (sym (steps_both f us vs)) (leaves_first (map f (map Coefficient us)) (map f (map Coefficient vs)) w h)

-- the constant stands last
pub with_constant : (f : Part → Step) (us : List ℕ) → map f (parts us) ≡ map f (map Coefficient us) ++ f Constant ∷ []
with_constant f [] = refl
with_constant f (u ∷ us) = ap (λ ss. f (Coefficient u) ∷ ss) (with_constant f us)

-- the steps at the units of a sum, from those of its parts
module _ (f : Part → Step) (s a b : Sum) where
  pub left_leaves : (w : Wide) → s ≡ Plus a b → FirstLeaves (map f (map Coefficient (units a))) w → FirstLeaves (map f (map Coefficient (units s))) w
  left_leaves w e h = subst (λ (s : Sum). FirstLeaves (map f (map Coefficient (units s))) w) (sym e) (two_leave f (units a) (units b) w h)

  pub right_meets : {X : Type 0} (r : Result X Wide) → s ≡ Plus a b → AllFit (map f (map Coefficient (units a))) → Meets (map f (map Coefficient (units b))) r → Meets (map f (map Coefficient (units s))) r
  right_meets r e h m = subst (λ (s : Sum). Meets (map f (map Coefficient (units s))) r) (sym e) (two_meet f (units a) (units b) r h m)

  pub left_leaves_minus : (w : Wide) → s ≡ Minus a b → FirstLeaves (map f (map Coefficient (units a))) w → FirstLeaves (map f (map Coefficient (units s))) w
  left_leaves_minus w e h = subst (λ (s : Sum). FirstLeaves (map f (map Coefficient (units s))) w) (sym e) (two_leave f (units a) (units b) w h)

  pub right_meets_minus : {X : Type 0} (r : Result X Wide) → s ≡ Minus a b → AllFit (map f (map Coefficient (units a))) → Meets (map f (map Coefficient (units b))) r → Meets (map f (map Coefficient (units s))) r
  right_meets_minus r e h m = subst (λ (s : Sum). Meets (map f (map Coefficient (units s))) r) (sym e) (two_meet f (units a) (units b) r h m)

-- the steps at the units, and at the constant behind them
module _ (f : Part → Step) where
  pub units_leave : (us : List ℕ) (w : Wide) → FirstLeaves (map f (map Coefficient us)) w → FirstLeaves (map f (parts us)) w
  units_leave us w h = subst (λ (ss : List Step). FirstLeaves ss w) (sym (with_constant f us)) (leaves_first (map f (map Coefficient us)) (f Constant ∷ []) w h)

  pub constant_meets : {X : Type 0} (us : List ℕ) (r : Result X Wide) → AllFit (map f (map Coefficient us)) → Meets (f Constant ∷ []) r → Meets (map f (parts us)) r
  constant_meets us r h m = subst (λ (ss : List Step). Meets ss r) (sym (with_constant f us)) (meets_then (map f (map Coefficient us)) (f Constant ∷ []) r h m)

  pub first_units_leave : (us vs : List ℕ) (w : Wide) → FirstLeaves (map f (map Coefficient us)) w → FirstLeaves (map f (parts (us ++ vs))) w
  first_units_leave us vs w h = units_leave (us ++ vs) w (two_leave f us vs w h)

  pub second_units_leave : (us vs : List ℕ) (w : Wide) → AllFit (map f (map Coefficient us)) → FirstLeaves (map f (map Coefficient vs)) w → FirstLeaves (map f (parts (us ++ vs))) w
  second_units_leave us vs w g h = units_leave (us ++ vs) w (subst (λ (ss : List Step). FirstLeaves ss w) (sym (steps_both f us vs)) (leaves_second (map f (map Coefficient us)) (map f (map Coefficient vs)) w g h))

  pub both_constant_meets : {X : Type 0} (us vs : List ℕ) (r : Result X Wide) → AllFit (map f (map Coefficient us)) → AllFit (map f (map Coefficient vs)) → Meets (f Constant ∷ []) r → Meets (map f (parts (us ++ vs))) r
  both_constant_meets us vs r g h m = constant_meets (us ++ vs) r (subst (λ (ss : List Step). AllFit ss) (sym (steps_both f us vs)) (fit_both (map f (map Coefficient us)) (map f (map Coefficient vs)) g h)) m

-- What the negation of a literal bounds, and sums of multiples of such bounds. From linear integer arithmetic (the lemma of Farkas). Own: the order of the steps.
use Rattle.std.specs.Prelude.{ℕ, List, [], ◌∷◌, ◌++◌, map, Some, None, Option, option_and_then, slice_get, if◌then◌else◌, Bool, true, false, ◌&&◌, ◌||◌, ℤ, pos, ◌+ℤ◌, ◌*ℤ◌, int_le, Result, Ok, Err}
use Rattle.int_ranges.specs.declared.exact.Wide.{Wide}
use Rattle.terms.specs.declared.term.Term.{Term}
use Rattle.terms.specs.declared.term.Literal.{Literal}
use Rattle.terms.specs.declared.term.Kind.{Kind}
use Rattle.terms.specs.declared.term.Kind.TheVariants.{Le, Eq}
use Rattle.terms.specs.declared.sort.Sort.{Sort}
use Rattle.terms.specs.declared.sort.Sort.TheVariants as s
use Rattle.rule_linear.specs.declared.form.Part.{Part}
use Rattle.rule_linear.specs.declared.form.Part.TheVariants.{Coefficient, Constant}
use Rattle.rule_linear.specs.declared.bound.Bound.{Bound}
use Rattle.rule_linear.specs.Forms.{Sum, Minus, number_of, units, parts, Step, plus, times, steps, sum_at, AllFit, FirstLeaves}

-- the sorts of the terms, by number, as far as they have one: this term is an Int
abbrev pub is_int_sort : Option (Option Sort) → Bool
is_int_sort (Some (Some s.Int)) = true
is_int_sort _ = false

abbrev pub is_int : List (Option Sort) → ℕ → Bool
is_int sorts t = is_int_sort (slice_get sorts t)

abbrev pub bound : ℕ → ℕ → Bool → Bool → Bound
bound a b strict equal = record { left = a; right = b; strict = strict; equal = equal }

-- The bound of a literal, from its negation: left - right, and 1 where it is strict, is at most 0, or is 0. `+(a <= b)` gives `b - a + 1 <= 0`, `-(a <= b)` gives `a - b <= 0`, and `-(a = b)` on Int gives `a - b = 0`.
abbrev pub bound_of : List (Option Sort) → Kind → List ℕ → Bool → Option Bound
bound_of sorts Le (a ∷ b ∷ []) true = Some (bound b a true false)
bound_of sorts Le (a ∷ b ∷ []) false = Some (bound a b false false)
bound_of sorts Eq (a ∷ b ∷ []) false = if is_int sorts a && is_int sorts b then Some (bound a b false true) else None
bound_of sorts _ _ _ = None

abbrev pub bound_at : List (Option Sort) → List Term → Literal → Option Bound
bound_at sorts terms l = option_and_then (λ (n : Term). bound_of sorts n.kind n.args l.positive) (slice_get terms l.term)

-- the two sides of a bound, put together
abbrev pub difference : List Term → Bound → Sum
difference terms b = Minus (sum_at terms b.left) (sum_at terms b.right)

-- the 1 of a strict bound
abbrev pub one_of : Bool → Part → ℤ
one_of true Constant = pos 1
one_of true (Coefficient u) = pos 0
one_of false p = pos 0

-- the number that a part has in the form of a bound
abbrev pub bound_number : List Term → Bound → Part → ℤ
bound_number terms b p = number_of (difference terms b) p +ℤ one_of b.strict p

abbrev pub one_step : Bool → ℤ → List Step
one_step true c = plus c (pos 1) ∷ []
one_step false c = []

-- the steps by which it is worked out; the 1 is added last
abbrev pub bound_steps : List Term → Bound → List Step
bound_steps terms b = steps (difference terms b) ++ one_step b.strict (number_of (difference terms b) Constant)

abbrev pub bound_parts : List Term → Bound → List Part
bound_parts terms b = parts (units (sum_at terms b.left) ++ units (sum_at terms b.right))

-- of a literal that has no bound, nothing is worked out
abbrev pub literal_number : List Term → Option Bound → Part → ℤ
literal_number terms None p = pos 0
literal_number terms (Some b) p = bound_number terms b p

-- a multiplier with its literal
abbrev pub Weighted : Type 0
Weighted = ℤ × Literal

-- a multiplier of a bound that isn't an equation is not negative
abbrev pub fits_bound : Option Bound → ℤ → Bool
fits_bound None m = false
fits_bound (Some b) m = b.equal || int_le (pos 0) m

module _ (sorts : List (Option Sort)) (terms : List Term) where
  -- the sum of multiplier times bound
  abbrev pub total : List Weighted → Part → ℤ
  total [] p = pos 0
  total (z ∷ zs) p = z.0 *ℤ literal_number terms (bound_at sorts terms z.1) p +ℤ total zs p

  -- The steps for one literal: its bound; then the multiplier times each part of it; then these products are added to the sum of the literals before.
  abbrev pub added_steps : List Weighted → ℤ → Option Bound → List Step
  added_steps before m None = []
  added_steps before m (Some b) =
      bound_steps terms b
      ++ (map (λ p. times m (bound_number terms b p)) (bound_parts terms b)
      ++ map (λ p. plus (total before p) (m *ℤ bound_number terms b p)) (bound_parts terms b))

  -- the steps for all literals, one after the other
  abbrev pub total_steps : List Weighted → List Weighted → List Step
  total_steps before [] = []
  total_steps before (z ∷ zs) = added_steps before z.0 (bound_at sorts terms z.1) ++ total_steps (before ++ z ∷ []) zs

  -- the form of the step: one multiplier for each literal, and each literal has a bound
  abbrev pub is_weighting : List ℤ → List Literal → Bool
  is_weighting [] [] = true
  is_weighting (m ∷ ms) (l ∷ ls) = fits_bound (bound_at sorts terms l) m && is_weighting ms ls
  is_weighting _ _ = false

-- what working out the steps answers: that all fit, or the first that leaves 128 bits
abbrev pub Meets : {X : Type 0} → List Step → Result X Wide → Type 0
Meets ss (Ok x) = AllFit ss
Meets ss (Err w) = FirstLeaves ss w

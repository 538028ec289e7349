-- The coefficients of units in the room where they are summed, and the constant beside them. Own.
use Rattle.std.specs.Prelude.{◌≡◌, ℕ, zero, List, [], ◌∷◌, get_or, Option, Bool, true, false, ◌&&◌, ℤ, pos, ◌+ℤ◌, ◌*ℤ◌}
use Rattle.std.specs.Int.{w128, int_wrap}
use Rattle.terms.specs.declared.term.Term.{Term}
use Rattle.vcc_rules.specs.declared.rule.Summand.{Summand}
use Rattle.rule_linear.specs.declared.form.Part.{Part}
use Rattle.rule_linear.specs.declared.form.Part.TheVariants.{Coefficient, Constant}
use Rattle.rule_linear.specs.declared.bound.Bound.{Bound}
use Rattle.rule_linear.specs.declared.bound.Weights.{Weights}
use Rattle.rule_linear.specs.Forms.{Sum, number_of}
use Rattle.rule_linear.specs.Bounds.{bound_at, literal_number}
use Rattle.rule_linear.specs.Sides.{weighted, first_total}
use Rattle.rule_linear.specs.Tests.{bound_units, all_units}
use Rattle.rule_linear.specs.Walks.{IsIn}

-- the coefficient that stands at a unit
abbrev pub coefficient_at : List Summand → ℕ → ℤ
coefficient_at room u = (get_or room u (record { coefficient = pos 0; unit = 0 })).coefficient

-- those of these units are 0 afterwards, and what was 0 still is
pub record AreCleared (old new : List Summand) (us : List ℕ) : Type 0 where
  pub cleared : (u : ℕ) → IsIn u us → coefficient_at new u ≡ pos 0
  pub kept : (u : ℕ) → coefficient_at old u ≡ pos 0 → coefficient_at new u ≡ pos 0

-- those of these units are 0
pub record AreClear (room : List Summand) (us : List ℕ) : Type 0 where
  pub clear : (u : ℕ) → IsIn u us → coefficient_at room u ≡ pos 0

-- what was summed of a part: the coefficient that stands at its unit, or the constant beside the room
abbrev pub value_at : List Summand → ℤ → Part → ℤ
value_at room constant (Coefficient u) = coefficient_at room u
value_at room constant Constant = constant

-- so many times each part of the sum was added, modulo 2^128
pub record IsAdded (old : List Summand) (before : ℤ) (new : List Summand) (after : ℤ) (factor : ℤ) (s : Sum) : Type 0 where
  pub adds : (p : Part) (x : ℤ) → value_at old before p ≡ int_wrap w128 x → value_at new after p ≡ int_wrap w128 (x +ℤ factor *ℤ number_of s p)

-- the same of a bound; of none, nothing was added
pub record IsBoundAdded (terms : List Term) (old : List Summand) (before : ℤ) (new : List Summand) (after : ℤ) (factor : ℤ) (b : Option Bound) : Type 0 where
  pub adds : (p : Part) (x : ℤ) → value_at old before p ≡ int_wrap w128 x → value_at new after p ≡ int_wrap w128 (x +ℤ factor *ℤ literal_number terms b p)

-- the bound of the literal at a place, and its units
abbrev pub place_bound : Weights → List Term → ℕ → Option Bound
place_bound w terms i = bound_at w.sorts.now terms (get_or w.literals.now i (record { term = 0; positive = false }))

abbrev pub place_units : Weights → List Term → ℕ → List ℕ
place_units w terms i = bound_units terms (place_bound w terms i)

-- the units of all bounds
abbrev pub every_unit : Weights → List Term → List ℕ
every_unit w terms = all_units w.sorts.now terms (weighted w)

-- at each of them stands its number in the sum of the first multiples, and the constant is that of the sum, modulo 2^128
pub record Holds (w : Weights) (terms : List Term) (room : List Summand) (number : ℤ) (end : ℕ) : Type 0 where
  pub holds : (u : ℕ) → IsIn u (every_unit w terms) → coefficient_at room u ≡ int_wrap w128 (first_total w terms end (Coefficient u))
  pub constant : number ≡ int_wrap w128 (first_total w terms end Constant)

-- the number is 0
abbrev pub is_nothing : ℤ → Bool
is_nothing (pos zero) = true
is_nothing _ = false

-- the coefficients of these units are 0
abbrev pub are_nothing : List Summand → List ℕ → Bool
are_nothing room [] = true
are_nothing room (u ∷ us) = is_nothing (coefficient_at room u) && are_nothing room us

-- The language of a program: its annotations as formulas. Own.
use Rattle.std.specs.Prelude.{ℕ, zero, suc, ◌+◌, nat_le, if◌then◌else◌, false, List, [], ◌∷◌, map, Option, Some, None}
use Rattle.method.specs.declared.program.Sort.{Sort as HoleSort}
use Rattle.method.specs.declared.program.Sort.TheVariants.{IntSort, RefSort}
use Rattle.method.specs.declared.program.StructInfo.{StructInfo}
use Rattle.method.specs.declared.program.Shape.{Shape}
use Rattle.method.specs.declared.program.Program.{Program}
use Rattle.terms.specs.Formula.{Formula}
use Rattle.conditions.specs.Formulas.{nat, null, true_formula, all_of, integer, reference, heap}
use Rattle.conditions.specs.Symbolic.{Symbolic, Number, Reference}
use Rattle.conditions.specs.Annotations.{Scene, formula, claim_scene}
use Rattle.conditions.specs.Quantified.{QuantifiedFormula, program_quantifiers, find_quantifier}
use Rattle.term_meaning.specs.Meaning.{Language, Quantified}

-- one more than the greatest number of these formulas
abbrev pub number_bound : List QuantifiedFormula → ℕ
number_bound [] = 0
number_bound (q ∷ qs) = if nat_le (suc q.number) (number_bound qs) then number_bound qs else suc q.number

-- a number that no formula has stands for truth
abbrev pub formula_of : Option QuantifiedFormula → Quantified
formula_of None = record { holes = []; body = true_formula }
formula_of (Some q) = record { holes = q.arguments; body = q.body }

-- n formulas by their numbers, from the first number on
abbrev pub formulas_from : List QuantifiedFormula → ℕ → ℕ → List Quantified
formulas_from qs first zero = []
formulas_from qs first (suc n) = formula_of (find_quantifier first qs) ∷ formulas_from qs (suc first) n

-- the quantified formulas of a program by their numbers
unfoldable pub quantifiers_of : Program → List Quantified
quantifiers_of p = formulas_from (program_quantifiers p) 0 (number_bound (program_quantifiers p))

-- An invariant: the object, the earlier and the later heap are constants 0 to 2.
abbrev pub struct_scene : Scene
struct_scene = record { before = heap 1; after = heap 2; past = false; me = null; this = reference 0; locals = []; entry = []; result = Number (nat 0); bound = []; subject = null }

-- the invariants of a type as one formula
abbrev pub invariant_formula : Program → StructInfo → Formula
invariant_formula p s = all_of (map (λ e. formula p e struct_scene) s.invariants.items)

-- those of all types
unfoldable pub invariants_of : Program → List Formula
invariants_of p = map (invariant_formula p) p.structs.items

-- A conjunct of a claim: the heap is constant 0, the values of its holes stand behind it.
abbrev pub hole_constant : ℕ → HoleSort → Symbolic
hole_constant n IntSort = Number (integer n)
hole_constant n RefSort = Reference (reference n)

abbrev pub hole_constants : ℕ → List HoleSort → List Symbolic
hole_constants n [] = []
hole_constants n (s ∷ ss) = hole_constant n s ∷ hole_constants (n + 1) ss

-- the conjunct of a shape as a formula
abbrev pub conjunct_formula : Program → Shape → Formula
conjunct_formula p sh = formula p sh.conjunct (claim_scene p (heap 0) (hole_constants 1 sh.holes.items))

-- those of all shapes
unfoldable pub conjuncts_of : Program → List Formula
conjuncts_of p = map (conjunct_formula p) p.shapes.items

-- the program with the formulas of its quantifiers, invariants and conjuncts: what its terms mean
abbrev pub language_of : Program → Language
language_of p = record { program = p; quantified = quantifiers_of p; invariants = invariants_of p; conjuncts = conjuncts_of p }

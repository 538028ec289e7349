-- Which numbers of a step name terms, parameter by parameter. Own.
use Rattle.std.specs.Prelude.{◌≡◌, ℕ, ℤ, pos, negsuc, Bool, true, false, if◌then◌else◌, List, [], ◌∷◌, ◌++◌, drop, length, Option, Some, None}
use Rattle.terms.specs.declared.sort.Columns.{Columns}
use Rattle.term_meaning.specs.Meaning.{Language}
use Rattle.term_sorts.specs.Sorting.{HasColumns}
use Rattle.axiom_parameters.specs.Parameters.{Parameter, OneTerm, TermList, TypeNumber, ColumnKeys, FormulaHoles, name_terms, key_count, hole_count}

-- the number that the parameter takes first names a term
abbrev pub is_term : Parameter → Bool
is_term OneTerm = true
is_term _ = false

-- how many terms follow that number
abbrev pub follow : Language → Parameter → ℕ → ℕ
follow l OneTerm n = 0
follow l TermList n = n
follow l TypeNumber n = 0
follow l ColumnKeys n = key_count l n
follow l FormulaHoles n = hole_count l n

-- the number, where it isn't negative
abbrev pub natural_of : ℤ → Option ℕ
natural_of (pos n) = Some n
natural_of (negsuc n) = None

-- the number, where the mark says that it names a term
abbrev pub if_marked : Bool → ℕ → List ℕ
if_marked mark n = if mark then n ∷ [] else []

-- Of the numbers, one parameter more has taken its own, each with a mark: whatever parameters come behind it.
pub record MarksOne (columns : Columns) (p : Parameter) (ns : List ℕ) (old new : List Bool) : Type 0 where
  pub each : (l : Language) (ps : List Parameter) → HasColumns columns l →
      new ++ name_terms l ps (drop (length new) ns) ≡ old ++ name_terms l (p ∷ ps) (drop (length old) ns)

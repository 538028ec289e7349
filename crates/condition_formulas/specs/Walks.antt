-- A walk over a graph that is at each node once. Own.
use Rattle.std.specs.Prelude.{◌≡◌, ℕ, ℤ, pos, negsuc, Bool, true, false, ◌&&◌, if◌then◌else◌, List, slice_index_or}
use Rattle.terms.specs.declared.term.Term.{Term}
use Rattle.terms.specs.Formula.{Formula, Formulas, Node, Stop, With}
use Rattle.conditions.specs.Formulas.{is_constant, is_number}
use Rattle.condition_formulas.specs.Standing.{StandsAs}

-- a constant's number is in the list
abbrev pub is_in : ℤ → List ℕ → Bool
is_in (negsuc n) found = true
is_in (pos n) found = is_number n found

abbrev mutual
  -- the number of each constant of the formula is in the list
  pub has_all : Formula → List ℕ → Bool
  has_all (Node kind n fs) found = if is_constant kind then is_in n found else all_have_all fs found

  pub all_have_all : Formulas → List ℕ → Bool
  all_have_all Stop found = true
  all_have_all (With f fs) found = has_all f found && all_have_all fs found

-- of the nodes that are marked the constants are in the list
abbrev pub AreSeen : List Term → List Bool → List ℕ → Type 0
AreSeen ts seen found = (id : ℕ) (f : Formula) → slice_index_or seen id false ≡ true → StandsAs ts id f → has_all f found ≡ true

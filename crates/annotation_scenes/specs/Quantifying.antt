-- The arguments of a quantified formula. Own.
use Rattle.std.specs.Prelude.{ℕ, ◌==◌, not, List, filter, length, slice_index_or}
use Rattle.terms.specs.Formula.{Formula}
use Rattle.conditions.specs.Formulas.{null}

-- what stands at a place
abbrev pub part_at : List Formula → ℕ → Formula
part_at fs n = slice_index_or fs n null

-- the places of the parts, without the one behind them
abbrev pub places_of : List Formula → List ℕ → List ℕ
places_of fs ns = filter (λ n. not (n == length fs)) ns

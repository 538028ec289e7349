-- What a contract sees of a graph of terms. From hash consing: equal terms are one.
use Rattle.std.specs.Prelude.{◌≡◌, ℕ, ◌<◌, List, All, Some, slice_get, filter, nat_lt}
use Rattle.terms.specs.declared.term.Term.{Term}
use Rattle.terms.specs.Formula.{Formula, Stands}

-- the terms, by their numbers, and how many more can be placed without taking memory
pub record HeldNodes : Type 0 where
  pub terms : List Term
  pub spare : ℕ

-- each argument of a term stands below it, and no term stands at two numbers
pub record IsGraph (ts : List Term) : Type 0 where
  pub downward : (i : ℕ) (t : Term) → slice_get ts i ≡ Some t → All (λ a. a < i) t.args
  pub distinct : (i j : ℕ) (t : Term) → slice_get ts i ≡ Some t → slice_get ts j ≡ Some t → i ≡ j

-- the numbers that are those of terms, of so many
abbrev pub those_below : ℕ → List ℕ → List ℕ
those_below n args = filter (λ a. nat_lt a n) args

-- what stood stands
abbrev pub Later : List Term → List Term → Type 0
Later old new = (n : ℕ) (f : Formula) → Stands old n f → Stands new n f

-- Rows, and how numbers fit them: an instance of an axiom is named by numbers, of terms, columns, quantified formulas and types. Own.
use Rattle.std.specs.Prelude.{ℕ, Bool, false, if◌then◌else◌, List, [], ◌∷◌, replicate, Option, Some, None, slice_get}
use Rattle.terms.specs.declared.sort.Sort.{Sort}
use Rattle.terms.specs.declared.sort.Sort.TheVariants as s
use Rattle.terms.specs.Sorts.{same_sort}
use Rattle.terms.specs.Formula.{Formula}
use Rattle.term_meaning.specs.Columns.{Column, columns_of, further_keys}
use Rattle.term_meaning.specs.Meaning.{Language, Quantified, sort_in}

-- A row takes the numbers of an instance and gives its formula, or nothing where they don't fit.
abbrev pub Row : Type 0
Row = List ℕ → Option Formula

-- the row's formula, where no number is left
unfoldable pub gives : Formula → Row
gives f [] = Some f
gives f (n ∷ ns) = None

-- the row where the test passes
unfoldable pub fits : Bool → Row → Row
fits b row ns = if b then row ns else None

-- the row for what is there, if anything is
unfoldable pub needs : {X : Type 0} → Option X → (X → Row) → Row
needs None row ns = None
needs (Some x) row ns = row x ns

-- the row for the next number
unfoldable pub number : (ℕ → Row) → Row
number row [] = None
number row (n ∷ ns) = row n ns

-- there is a sort, and it is this one
abbrev pub is_sort : Sort → Option Sort → Bool
is_sort s None = false
is_sort s (Some t) = same_sort t s

-- In a language, `tree` giving the trees of terms by their numbers.
module _ (l : Language) (tree : ℕ → Option Formula) where
  -- the row for a term of the sort, by its number
  unfoldable pub term : Sort → (Formula → Row) → Row
  term s row = number (λ n. needs (tree n) (λ f. fits (is_sort s (sort_in l f)) (row f)))

  -- the row for a heap term, a reference term, an integer term
  unfoldable pub heap : (Formula → Row) → Row
  heap = term s.Heap

  unfoldable pub ref : (Formula → Row) → Row
  ref = term s.Ref

  unfoldable pub int : (Formula → Row) → Row
  int = term s.Int

  -- the row for terms of these sorts, by their numbers
  unfoldable pub terms : List Sort → (List Formula → Row) → Row
  terms [] row = row []
  terms (s ∷ ss) row = term s (λ f. terms ss (λ fs. row (f ∷ fs)))

  -- the row for a list of reference terms: first how many, then their numbers
  unfoldable pub refs : (List Formula → Row) → Row
  refs row = number (λ n. terms (replicate n s.Ref) row)

  -- the row for a column, by its number, with terms for its further keys
  unfoldable pub column : (ℕ → Column → List Formula → Row) → Row
  column row = number (λ n. needs (slice_get (columns_of l.program) n) (λ c. terms (further_keys l.program c) (row n c)))

  -- the row for a quantified formula, by its number, with terms for its holes
  unfoldable pub quantified : (ℕ → Formula → List Formula → Row) → Row
  quantified row = number (λ n. needs (slice_get l.quantified n) (λ (q : Quantified). terms q.holes (row n q.body)))

-- Which of the numbers of an axiom's instance name terms. From the list of axioms: what each part speaks of, in its order. Own: the table.
use Rattle.std.specs.Prelude.{ℕ, zero, suc, Bool, true, false, List, [], ◌∷◌, ◌++◌, length, replicate, Option, Some, None, slice_get, option_and_then}
use Rattle.term_meaning.specs.Columns.{Column, columns_of, further_keys}
use Rattle.term_meaning.specs.Meaning.{Language, Quantified}
use Rattle.axiom_instances.specs.Axioms.{item_at}

-- A parameter of an axiom's part.
pub data Parameter : Type 0 where
  -- a term, by its number
  OneTerm : Parameter
  -- how many terms there are, and their numbers
  TermList : Parameter
  -- a type, by its number
  TypeNumber : Parameter
  -- a column by its number, and terms for its further keys by theirs
  ColumnKeys : Parameter
  -- a quantified formula by its number, and terms for its holes by theirs
  FormulaHoles : Parameter

-- ---- the parameters of the axioms

-- so many terms, and then these
abbrev terms : ℕ → List Parameter → List Parameter
terms n ps = replicate n OneTerm ++ ps

-- the parameters of each part of the axioms, by their numbers
abbrev pub parameters : List (List (List Parameter))
parameters =
    ((FormulaHoles ∷ OneTerm ∷ []) ∷ [])
    ∷ ((FormulaHoles ∷ []) ∷ [])
    ∷ ([] ∷ terms 1 [] ∷ [] ∷ terms 1 [] ∷ [])
    ∷ (terms 2 [] ∷ terms 1 [] ∷ [])
    ∷ (terms 1 [] ∷ [])
    ∷ (terms 2 [] ∷ terms 1 [] ∷ terms 2 [] ∷ [])
    ∷ (terms 2 [] ∷ terms 2 [] ∷ [])
    ∷ (terms 2 [] ∷ [])
    ∷ (terms 3 [] ∷ [])
    ∷ (terms 3 [] ∷ [])
    ∷ (terms 2 (TypeNumber ∷ []) ∷ [])
    ∷ (terms 2 (ColumnKeys ∷ []) ∷ [])
    ∷ (terms 2 [] ∷ [])
    ∷ (terms 3 (TypeNumber ∷ []) ∷ terms 3 (TypeNumber ∷ []) ∷ [])
    ∷ (terms 2 (ColumnKeys ∷ []) ∷ [])
    ∷ (terms 3 [] ∷ [])
    ∷ (terms 4 (ColumnKeys ∷ []) ∷ [])
    ∷ (terms 4 [] ∷ [])
    ∷ (terms 4 (TypeNumber ∷ ColumnKeys ∷ []) ∷ [])
    ∷ (terms 4 [] ∷ [])
    ∷ (
    terms 4 (TermList ∷ [])
    ∷ terms 4 (TermList ∷ OneTerm ∷ ColumnKeys ∷ [])
    ∷ terms 4 (TermList ∷ OneTerm ∷ [])
    ∷ terms 4 (TermList ∷ OneTerm ∷ TypeNumber ∷ ColumnKeys ∷ [])
    ∷ []
    )
    ∷ (
    terms 4 (TermList ∷ [])
    ∷ terms 4 (TermList ∷ OneTerm ∷ [])
    ∷ terms 4 (TermList ∷ OneTerm ∷ TypeNumber ∷ [])
    ∷ terms 4 (TermList ∷ [])
    ∷ terms 3 []
    ∷ []
    )
    ∷ (
    terms 2 []
    ∷ terms 2 []
    ∷ terms 3 []
    ∷ terms 3 []
    ∷ terms 3 (ColumnKeys ∷ [])
    ∷ terms 4 []
    ∷ terms 3 (TypeNumber ∷ ColumnKeys ∷ [])
    ∷ []
    )
    ∷ (
    terms 1 []
    ∷ terms 2 []
    ∷ terms 2 []
    ∷ terms 2 []
    ∷ terms 2 (ColumnKeys ∷ [])
    ∷ terms 3 []
    ∷ terms 4 []
    ∷ terms 3 (ColumnKeys ∷ [])
    ∷ terms 2 []
    ∷ terms 2 []
    ∷ terms 2 []
    ∷ terms 2 []
    ∷ terms 2 []
    ∷ []
    )
    ∷ (terms 4 (TypeNumber ∷ ColumnKeys ∷ []) ∷ [])
    ∷ (terms 4 (TermList ∷ OneTerm ∷ TypeNumber ∷ ColumnKeys ∷ []) ∷ [])
    ∷ (terms 4 (TypeNumber ∷ ColumnKeys ∷ []) ∷ [])
    ∷ (terms 3 [] ∷ terms 3 [] ∷ [])
    ∷ (terms 2 [] ∷ terms 2 [] ∷ [])
    ∷ []

-- what is there, or no parameters
abbrev pub or_none : Option (List Parameter) → List Parameter
or_none None = []
or_none (Some ps) = ps

-- the parameters of this part of the axiom with this number, both counted from 1
abbrev pub parameters_of : ℕ → ℕ → List Parameter
parameters_of axiom_number part = or_none (option_and_then (λ parts. item_at parts part) (item_at parameters axiom_number))

-- ---- which numbers name terms

-- how many further keys a column has
abbrev pub keys_of : Language → Option Column → ℕ
keys_of l None = 0
keys_of l (Some c) = length (further_keys l.program c)

-- the same, by its number
abbrev pub key_count : Language → ℕ → ℕ
key_count l n = keys_of l (slice_get (columns_of l.program) n)

-- how many holes a quantified formula has
abbrev pub holes_of : Option Quantified → ℕ
holes_of None = 0
holes_of (Some q) = length q.holes

-- the same, by its number
abbrev pub hole_count : Language → ℕ → ℕ
hole_count l n = holes_of (slice_get l.quantified n)

-- the first numbers, so many, name terms; those behind them as rest says
unfoldable pub terms_first : ℕ → (List ℕ → List Bool) → List ℕ → List Bool
terms_first zero rest ns = rest ns
terms_first (suc k) rest [] = []
terms_first (suc k) rest (n ∷ ns) = true ∷ terms_first k rest ns

-- the first number names no term, but says how many do that follow it
unfoldable pub number_first : (ℕ → ℕ) → (List ℕ → List Bool) → List ℕ → List Bool
number_first follow rest [] = []
number_first follow rest (n ∷ ns) = false ∷ terms_first (follow n) rest ns

-- of each number that the parameters take, whether it names a term
abbrev pub name_terms : Language → List Parameter → List ℕ → List Bool
name_terms l [] = λ ns. []
name_terms l (OneTerm ∷ ps) = terms_first 1 (name_terms l ps)
name_terms l (TermList ∷ ps) = number_first (λ n. n) (name_terms l ps)
name_terms l (TypeNumber ∷ ps) = number_first (λ n. 0) (name_terms l ps)
name_terms l (ColumnKeys ∷ ps) = number_first (key_count l) (name_terms l ps)
name_terms l (FormulaHoles ∷ ps) = number_first (hole_count l) (name_terms l ps)

-- those numbers that name terms
abbrev pub term_numbers : List Bool → List ℕ → List ℕ
term_numbers [] ns = []
term_numbers (b ∷ bs) [] = []
term_numbers (true ∷ bs) (n ∷ ns) = n ∷ term_numbers bs ns
term_numbers (false ∷ bs) (n ∷ ns) = term_numbers bs ns

-- the numbers with others for those that name terms, one after the other
abbrev pub with_terms : List Bool → List ℕ → List ℕ → List ℕ
with_terms [] ns ids = ns
with_terms (b ∷ bs) [] ids = []
with_terms (false ∷ bs) (n ∷ ns) ids = n ∷ with_terms bs ns ids
with_terms (true ∷ bs) (n ∷ ns) [] = n ∷ with_terms bs ns []
with_terms (true ∷ bs) (n ∷ ns) (id ∷ ids) = id ∷ with_terms bs ns ids

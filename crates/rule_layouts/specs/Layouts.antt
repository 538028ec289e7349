-- Two lists of terms that hold the same trees under other numbers. Own.
use Rattle.std.specs.Prelude.{◌≡◌, ℕ, List, [], ◌∷◌, ℤ, pos, Some, Option, slice_get, ◌⊎◌}
use Rattle.terms.specs.declared.term.Term.{Term}
use Rattle.terms.specs.declared.term.Literal.{Literal}
use Rattle.terms.specs.declared.sort.Sort.{Sort}
use Rattle.terms.specs.Formula.{Formula, Stands}

-- two numbers, one in each list, stand for one tree
pub record SameTree (ts us : List Term) (a b : ℕ) : Type 0 where
  pub tree : Formula
  pub left : Stands ts a tree
  pub right : Stands us b tree

-- so do two lists of numbers, place by place
abbrev pub SameTrees : List Term → List Term → List ℕ → List ℕ → Type 0
SameTrees ts us [] [] = Unit {0}
SameTrees ts us [] (b ∷ bs) = ⊥
SameTrees ts us (a ∷ as') [] = ⊥
SameTrees ts us (a ∷ as') (b ∷ bs) = SameTree ts us a b × SameTrees ts us as' bs

-- two literals of one tree and sign
abbrev pub SameLiteral : List Term → List Term → Literal → Literal → Type 0
SameLiteral ts us l m = SameTree ts us l.term m.term × (l.positive ≡ m.positive)

abbrev pub SameClause : List Term → List Term → List Literal → List Literal → Type 0
SameClause ts us [] [] = Unit {0}
SameClause ts us [] (m ∷ ms) = ⊥
SameClause ts us (l ∷ ls) [] = ⊥
SameClause ts us (l ∷ ls) (m ∷ ms) = SameLiteral ts us l m × SameClause ts us ls ms

abbrev pub SameClauses : List Term → List Term → List (List Literal) → List (List Literal) → Type 0
SameClauses ts us [] [] = Unit {0}
SameClauses ts us [] (d ∷ ds) = ⊥
SameClauses ts us (c ∷ cs) [] = ⊥
SameClauses ts us (c ∷ cs) (d ∷ ds) = SameClause ts us c d × SameClauses ts us cs ds

-- two numbers of a step name terms of one tree, or the first names none
abbrev pub SameName : List Term → List Term → ℤ → ℤ → Type 0
SameName ts us z w =
    ((a b : ℕ) × (z ≡ pos a) × (w ≡ pos b) × SameTree ts us a b)
    ⊎ ((a : ℕ) (n : Term) → z ≡ pos a → slice_get ts a ≡ Some n → ⊥)

abbrev pub SameNames : List Term → List Term → List ℤ → List ℤ → Type 0
SameNames ts us [] [] = Unit {0}
SameNames ts us [] (w ∷ ws) = ⊥
SameNames ts us (z ∷ zs) [] = ⊥
SameNames ts us (z ∷ zs) (w ∷ ws) = SameName ts us z w × SameNames ts us zs ws

-- terms of one tree have one sort in two tables
abbrev pub SameSorts : List Term → List Term → List (Option Sort) → List (Option Sort) → Type 0
SameSorts ts us sorts others = (a b : ℕ) → SameTree ts us a b → slice_get sorts a ≡ slice_get others b

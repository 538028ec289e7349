-- What lemmas give. A lemma is a derivation that has no condition, so its last clause is true in every environment, and any condition may use it. Own: clauses over trees, since each condition numbers its terms anew.
use Rattle.std.specs.Prelude.{◌≡◌, ℕ, ℤ, pos, Bool, true, ◌||◌, not, false, if◌then◌else◌, List, [], ◌∷◌, map, Option, Some, None, slice_get}
use Rattle.terms.specs.declared.term.Term.{Term}
use Rattle.terms.specs.declared.term.Literal.{Literal}
use Rattle.terms.specs.Formula.{Formula}
use Rattle.term_meaning.specs.Meaning.{Language, Env, IsEnv, Value, truth, AllGive}
use Rattle.term_meaning.specs.Filling.{trees}
use Rattle.condition_formulas.specs.Standing.{StandsAs}

-- a literal that speaks of a tree
pub record TreeLiteral : Type 0 where
  pub tree : Formula
  pub positive : Bool

abbrev pub TreeClause : Type 0
TreeClause = List TreeLiteral

-- of each lemma its last clause, where it follows, and nothing where it doesn't
abbrev pub Theorems : Type 0
Theorems = List (Option TreeClause)

-- ---- in a list of terms

-- the clause is this one: literal by literal the same sign, and equal trees
abbrev pub ClauseIs : List Term → List Literal → TreeClause → Type 0
ClauseIs nodes [] [] = Unit {0}
ClauseIs nodes [] (x ∷ xs) = ⊥
ClauseIs nodes (l ∷ ls) [] = ⊥
ClauseIs nodes (l ∷ ls) (x ∷ xs) = StandsAs nodes l.term x.tree × (l.positive ≡ x.positive) × ClauseIs nodes ls xs

-- lemma J: the clause is the theorem of lemma J
abbrev pub IsLemma : Theorems → List Term → List ℤ → List Literal → Type 0
IsLemma theorems nodes numbers clause =
    (j : ℕ) × (c : TreeClause) × (numbers ≡ pos j ∷ []) × (slice_get theorems j ≡ Some (Some c)) × ClauseIs nodes clause c

-- what is held of a lemma is its theorem, over nodes; nothing where it has none
abbrev pub IsHeld : List Term → Option (List Literal) → Option TreeClause → Type 0
IsHeld nodes None None = Unit {0}
IsHeld nodes None (Some c) = ⊥
IsHeld nodes (Some clause) None = ⊥
IsHeld nodes (Some clause) (Some c) = ClauseIs nodes clause c

-- the same of each lemma
abbrev pub AreHeld : List Term → List (Option (List Literal)) → Theorems → Type 0
AreHeld nodes [] [] = Unit {0}
AreHeld nodes [] (x ∷ xs) = ⊥
AreHeld nodes (h ∷ hs) [] = ⊥
AreHeld nodes (h ∷ hs) (x ∷ xs) = IsHeld nodes h x × AreHeld nodes hs xs

-- ---- in environments

abbrev pub literal_holds : TreeLiteral → Value → Bool
literal_holds x v = if x.positive then truth v else not (truth v)

-- some literal holds, by the values of their trees
abbrev pub clause_holds : TreeClause → List Value → Bool
clause_holds [] vs = false
clause_holds (x ∷ xs) [] = false
clause_holds (x ∷ xs) (v ∷ vs) = literal_holds x v || clause_holds xs vs

-- the clause is true in every environment
abbrev pub IsValidClause : Language → TreeClause → Type 0
IsValidClause l c = (e : Env) (vs : List Value) → IsEnv l.program e → AllGive l e (trees (map (λ (x : TreeLiteral). x.tree) c)) vs → clause_holds c vs ≡ true

-- so is each theorem
abbrev pub AreValid : Language → Theorems → Type 0
AreValid l theorems = (j : ℕ) (c : TreeClause) → slice_get theorems j ≡ Some (Some c) → IsValidClause l c

-- What follows from earlier clauses, over every language. From first-order logic.
use Rattle.std.specs.Prelude.{◌≡◌, ℕ, ◌<◌, List, Option, Some, slice_get, true, false, All}
use Rattle.terms.specs.declared.term.Term.{Term}
use Rattle.terms.specs.declared.term.Literal.{Literal}
use Rattle.terms.specs.declared.sort.Sort.{Sort}
use Rattle.terms.specs.Formula.{Formula, Stands}
use Rattle.term_meaning.specs.Meaning.{Language, Env, IsEnv, Value, IsValuation, truth, clause_true, sort_in}

-- The condition, whose root this is, is false, and the first clauses are true.
pub record EarlierHold (v : ℕ → Value) (root : Option ℕ) (clauses : List (List Literal)) (below : ℕ) : Type 0 where
  pub root_false : (r : ℕ) → root ≡ Some r → truth (v r) ≡ false
  pub steps : (s : ℕ) (c : List Literal) → s < below → slice_get clauses s ≡ Some c → clause_true v c ≡ true

-- The clause is true in every environment of the language, at every valuation of the terms at which the condition is false and the earlier clauses are true: it is a consequence of them.
abbrev pub IsConsequence : Language → List Term → Option ℕ → List (List Literal) → ℕ → List Literal → Type 0
IsConsequence language terms root clauses below clause =
    (e : Env) (v : ℕ → Value) → IsEnv language.program e → IsValuation language e terms v → EarlierHold v root clauses below → clause_true v clause ≡ true

-- each literal names a term
abbrev pub IsWithin : ℕ → List Literal → Type 0
IsWithin terms clause = All (λ (l : Literal). l.term < terms) clause

abbrev pub AreWithin : ℕ → List (List Literal) → Type 0
AreWithin terms clauses = (s : ℕ) (c : List Literal) → slice_get clauses s ≡ Some c → IsWithin terms c

-- Where a term has a sort here, it stands for a tree that has this sort in the language. A term may have none.
pub record AreSortsOf (language : Language) (terms : List Term) (sorts : List (Option Sort)) : Type 0 where
  pub each : (t : ℕ) (s : Sort) → slice_get sorts t ≡ Some (Some s) → (f : Formula) × Stands terms t f × (sort_in language f ≡ Some s)

-- The rows of `refl`, `sym`, `trans` and `cong`. From first-order logic with equality: it is an equivalence, and every kind of term is a function of its arguments.
use Rattle.std.specs.Prelude.{◌≡◌, ◌⊎◌, ℕ, ℤ, pos, Bool, true, false, List, [], ◌∷◌, drop, Option, Some, slice_get, MatchOption}
use Rattle.terms.specs.declared.term.Term.{Term}
use Rattle.terms.specs.declared.term.Literal.{Literal}
use Rattle.terms.specs.declared.sort.Sort.{Sort}
use Rattle.terms.specs.declared.sort.Sort.TheVariants as s
use Rattle.terms.specs.Sorts.{same_sort}
use Rattle.vcc_rules.specs.Equality.{sides}
use Rattle.vcc_rules.specs.Rows.{yes, no}

-- refl t: `a = a`
abbrev pub IsRefl : List Term → List ℤ → List Literal → Type 0
IsRefl terms numbers clause = (t a : ℕ) × (numbers ≡ pos t ∷ []) × (sides terms t ≡ Some (a, a)) × (clause ≡ yes t ∷ [])

-- sym t u: from `a = b`, `b = a`
abbrev pub IsSym : List Term → List ℤ → List Literal → Type 0
IsSym terms numbers clause =
    (t u a b : ℕ) × (numbers ≡ pos t ∷ pos u ∷ []) × (sides terms t ≡ Some (a, b)) × (sides terms u ≡ Some (b, a)) × (clause ≡ no t ∷ yes u ∷ [])

-- trans t u w: from `a = b` and `b = c`, `a = c`
abbrev pub IsTrans : List Term → List ℤ → List Literal → Type 0
IsTrans terms numbers clause =
    (t u w a b c : ℕ) × (numbers ≡ pos t ∷ pos u ∷ pos w ∷ []) × (sides terms t ≡ Some (a, b)) × (sides terms u ≡ Some (b, c)) × (sides terms w ≡ Some (a, c))
    × (clause ≡ no t ∷ no u ∷ yes w ∷ [])

-- the sort of a term, as far as it has one: it is that of a truth value, or there is none
abbrev pub is_truth_sort : Option (Option Sort) → Bool
is_truth_sort (Some (Some sort)) = same_sort sort s.Bool
is_truth_sort _ = true

-- the term counts as a truth value, by the sorts of the terms
abbrev pub is_truth_value : List (Option Sort) → ℕ → Bool
is_truth_value sorts t = is_truth_sort (slice_get sorts t)

-- Two arguments in one place, neither of which is a truth value: where they differ, the clause begins with the denial of their equality, and the rest is behind it.
abbrev pub Passes : List (Option Sort) → List Term → ℕ → ℕ → List Literal → List Literal → Type 0
Passes sorts terms a b clause rest =
    (is_truth_value sorts a ≡ false) × (is_truth_value sorts b ≡ false)
    × (((a ≡ b) × (clause ≡ rest))
    ⊎ ((e : ℕ) × ((a ≡ b) → ⊥) × (sides terms e ≡ Some (a, b)) × (clause ≡ no e ∷ rest)))

-- the literal denies that the two are equal
abbrev pub Denies : List Term → ℕ → ℕ → Literal → Type 0
Denies terms a b l = (sides terms l.term ≡ Some (a, b)) × (l ≡ no l.term)

-- the place behind what the clause says of two arguments, from the place `at` on; none where it says nothing of them
abbrev pub IsBehind : List (Option Sort) → List Term → ℕ → ℕ → List Literal → ℕ → Option ℕ → Type 0
IsBehind sorts terms a b clause at next =
    MatchOption next
    ((rest : List Literal) → Passes sorts terms a b (drop at clause) rest → ⊥)
    (λ n. Passes sorts terms a b (drop at clause) (drop n clause))

-- the clause says that t and u are equal; of truth values, that u is true if t is
abbrev pub Agrees : List (Option Sort) → List Term → ℕ → ℕ → List Literal → Type 0
Agrees sorts terms t u clause =
    ((is_truth_value sorts t ≡ true) × (clause ≡ no t ∷ yes u ∷ []))
    ⊎ ((v : ℕ) × (is_truth_value sorts t ≡ false) × (sides terms v ≡ Some (t, u)) × (clause ≡ yes v ∷ []))

-- the clause says it of t and u with these arguments, if they are equal place by place
abbrev pub IsCongruent : List (Option Sort) → List Term → ℕ → ℕ → List ℕ → List ℕ → List Literal → Type 0
IsCongruent sorts terms t u [] [] clause = Agrees sorts terms t u clause
IsCongruent sorts terms t u (a ∷ as') (b ∷ bs) clause =
    (rest : List Literal) × Passes sorts terms a b clause rest × IsCongruent sorts terms t u as' bs rest
IsCongruent sorts terms t u _ _ clause = ⊥

-- cong t u: the two are of one kind and index
pub record IsCongruence (sorts : List (Option Sort)) (terms : List Term) (numbers : List ℤ) (clause : List Literal) : Type 0 where
  pub t : ℕ
  pub u : ℕ
  pub left : Term
  pub right : Term
  pub named : numbers ≡ pos t ∷ pos u ∷ []
  pub left_is : slice_get terms t ≡ Some left
  pub right_is : slice_get terms u ≡ Some right
  pub kind : left.kind ≡ right.kind
  pub index : left.index ≡ right.index
  pub congruent : IsCongruent sorts terms t u left.args right.args clause

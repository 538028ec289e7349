-- The rows of `map`. From the theory of arrays (McCarthy 1962): what is stored at a place is read there, and every other place is as it was.
use Rattle.std.specs.Prelude.{◌≡◌, ◌⊎◌, ◌≤◌, ◌-◌, ◌++◌, ℕ, ℤ, pos, Bool, true, false, List, [], ◌∷◌, Option, Some, slice_get}
use Rattle.terms.specs.declared.term.Term.{Term}
use Rattle.terms.specs.declared.term.Literal.{Literal}
use Rattle.terms.specs.declared.term.Kind.TheVariants as k
use Rattle.terms.specs.declared.sort.Sort.{Sort}
use Rattle.terms.specs.Formula.{term}
use Rattle.vcc_rules.specs.Equality.{sides}
use Rattle.vcc_rules.specs.Rows.{yes}

-- the term is `get C h L`
abbrev pub IsRead : List Term → ℕ → ℤ → ℕ → List ℕ → Type 0
IsRead terms t column heap keys = slice_get terms t ≡ Some (term k.Get column (heap ∷ keys))

-- the term is `set C h K v`
abbrev pub IsStore : List Term → ℕ → ℤ → ℕ → List ℕ → ℕ → Type 0
IsStore terms t column heap keys value = slice_get terms t ≡ Some (term k.Set column (heap ∷ keys ++ value ∷ []))

-- the sorts of the terms, by number, as far as they have one: there is one at hand
abbrev pub is_sort : Option (Option Sort) → Bool
is_sort (Some (Some sort)) = true
is_sort _ = false

-- the term has a sort
abbrev pub is_sorted : List (Option Sort) → ℕ → Bool
is_sorted sorts t = is_sort (slice_get sorts t)

-- the term t, which has a sort, is `get C (set D h K v) L = x`
pub record IsReadOfStore (sorts : List (Option Sort)) (terms : List Term) (t : ℕ) (C : ℤ) (L : List ℕ) (D : ℤ) (h : ℕ) (K : List ℕ) (v x : ℕ) : Type 0 where
  pub sorted : is_sorted sorts t ≡ true
  pub read : ℕ
  pub store : ℕ
  pub sides_are : sides terms t ≡ Some (read, x)
  pub is_read : IsRead terms read C store L
  pub is_store : IsStore terms store D h K v

-- map 1 t: `get C (set C h K v) K = v`
pub record IsReadBack (sorts : List (Option Sort)) (terms : List Term) (numbers : List ℤ) (clause : List Literal) : Type 0 where
  pub t : ℕ
  pub C : ℤ
  pub h : ℕ
  pub K : List ℕ
  pub v : ℕ
  pub named : numbers ≡ pos 1 ∷ pos t ∷ []
  pub reads : IsReadOfStore sorts terms t C K C h K v v
  pub given : clause ≡ yes t ∷ []

-- map 2 i t u: `get C (set C h K v) L = get C h L`, or u, which says that the keys with number i, from 1, are equal
pub record IsOtherKey (sorts : List (Option Sort)) (terms : List Term) (numbers : List ℤ) (clause : List Literal) : Type 0 where
  pub i : ℕ
  pub t : ℕ
  pub u : ℕ
  pub C : ℤ
  pub h : ℕ
  pub K : List ℕ
  pub v : ℕ
  pub L : List ℕ
  pub x : ℕ
  pub a : ℕ
  pub b : ℕ
  pub named : numbers ≡ pos 2 ∷ pos i ∷ pos t ∷ pos u ∷ []
  pub reads : IsReadOfStore sorts terms t C L C h K v x
  pub is_read : IsRead terms x C h L
  pub from_one : 1 ≤ i
  pub stored_key : slice_get K (i - 1) ≡ Some a
  pub read_key : slice_get L (i - 1) ≡ Some b
  pub keys_equal : sides terms u ≡ Some (a, b)
  pub given : clause ≡ yes u ∷ yes t ∷ []

-- map 3 t: `get C (set D h K v) L = get C h L`, of unlike columns
pub record IsOtherColumn (sorts : List (Option Sort)) (terms : List Term) (numbers : List ℤ) (clause : List Literal) : Type 0 where
  pub t : ℕ
  pub C : ℤ
  pub D : ℤ
  pub h : ℕ
  pub K : List ℕ
  pub v : ℕ
  pub L : List ℕ
  pub x : ℕ
  pub named : numbers ≡ pos 3 ∷ pos t ∷ []
  pub reads : IsReadOfStore sorts terms t C L D h K v x
  pub is_read : IsRead terms x C h L
  pub unlike : C ≡ D → ⊥
  pub given : clause ≡ yes t ∷ []

abbrev pub IsMap : List (Option Sort) → List Term → List ℤ → List Literal → Type 0
IsMap sorts terms numbers clause =
    IsReadBack sorts terms numbers clause ⊎ IsOtherKey sorts terms numbers clause ⊎ IsOtherColumn sorts terms numbers clause

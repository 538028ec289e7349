-- What the code reads of an equality whose left side reads a heap in which a value was stored.
use Rattle.std.specs.Prelude.{◌≡◌, ◌+◌, ◌<◌, ◌≤◌, ◌-◌, ℕ, ℤ, pos, List, [], ◌∷◌, Option, Some, slice_get}
use Rattle.terms.specs.declared.term.Term.{Term}
use Rattle.terms.specs.declared.term.Literal.{Literal}
use Rattle.terms.specs.declared.sort.Sort.{Sort}
use Rattle.vcc_rules.specs.declared.equality.Equality.{Equality}
use Rattle.vcc_rules.specs.Rows.{yes}
use Rattle.rule_maps.specs.declared.reading.Store.{Store}
use Rattle.rule_maps.specs.declared.reading.Reading.{Reading}
use Rattle.rule_maps.specs.Rows.{IsRead, IsStore, IsReadOfStore}

-- the term is this store
pub record IsStored (terms : List Term) (t : ℕ) (s : Store) : Type 0 where
  pub is : IsStore terms t s.column s.heap s.keys.now s.value

-- the term is no store
abbrev pub IsNoStore : List Term → ℕ → Type 0
IsNoStore terms t = (C : ℤ) (h : ℕ) (K : List ℕ) (v : ℕ) → IsStore terms t C h K v → ⊥

-- the number names a term that is this reading
pub record IsReading (sorts : List (Option Sort)) (terms : List Term) (number : ℤ) (r : Reading) : Type 0 where
  pub named : number ≡ pos r.term
  pub reads : IsReadOfStore sorts terms r.term r.column r.keys.now r.store.column r.store.heap r.store.keys.now r.store.value r.other

-- the number names no such term
abbrev pub IsNoReading : List (Option Sort) → List Term → ℤ → Type 0
IsNoReading sorts terms number = (t : ℕ) (C : ℤ) (L : List ℕ) (D : ℤ) (h : ℕ) (K : List ℕ) (v x : ℕ) → number ≡ pos t → IsReadOfStore sorts terms t C L D h K v x → ⊥

-- the right side reads the heap from before the store, in the same column and at the same keys
pub record IsUnchanged (terms : List Term) (r : Reading) : Type 0 where
  pub is : IsRead terms r.other r.column r.store.heap r.keys.now

-- the key with this number, from 1
pub record IsKey (keys : List ℕ) (number : ℤ) (key : ℕ) : Type 0 where
  pub i : ℕ
  pub named : number ≡ pos i
  pub from_one : 1 ≤ i
  pub at : slice_get keys (i - 1) ≡ Some key

-- no number from 1 up to the count
abbrev pub IsNoIndex : ℤ → ℕ → Type 0
IsNoIndex number count = (i : ℕ) → number ≡ pos (i + 1) → i < count → ⊥

-- what was stored is read
abbrev pub ReadsBack : Reading → List Literal → Type 0
ReadsBack r clause = (r.column ≡ r.store.column) × (r.keys.now ≡ r.store.keys.now) × (r.other ≡ r.store.value) × (clause ≡ yes r.term ∷ [])

-- the keys with this number, of the store and of what is read, are the sides of the equality
abbrev pub ReadsElsewhere : List Term → ℤ → Reading → Equality → List Literal → Type 0
ReadsElsewhere terms number r e clause =
    (r.column ≡ r.store.column) × IsUnchanged terms r × IsKey r.store.keys.now number e.left × IsKey r.keys.now number e.right
    × (clause ≡ yes e.term ∷ yes r.term ∷ [])

-- another column is read
abbrev pub ReadsColumn : List Term → Reading → List Literal → Type 0
ReadsColumn terms r clause = ((r.column ≡ r.store.column) → ⊥) × IsUnchanged terms r × (clause ≡ yes r.term ∷ [])

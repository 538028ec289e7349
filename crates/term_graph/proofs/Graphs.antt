-- A graph with a term more, and one cut at a mark.
use Rattle.std.proofs.Common.{◌≡◌, ℕ, zero, suc, ◌<◌, ◌≤◌, List, [], ◌∷◌, ◌++◌, length, take, All, Contains, Some, slice_get, ◌⊎◌, inl, inr, refl, ap, sym, ◌∙◌, arith}
use Rattle.std.proofs.lemmas.Option.{slice_get_within, get_or_from_slice_get}
use Rattle.terms.specs.declared.term.Term.{Term}
use Rattle.term_graph.specs.Graph.{IsGraph}

-- a place of a list with one more at its end
pub get_pushed : {X : Type 0} (xs : List X) (y : X) (i : ℕ) (x : X) → slice_get (xs ++ y ∷ []) i ≡ Some x → (slice_get xs i ≡ Some x) ⊎ ((i ≡ length xs) × (x ≡ y))
get_pushed [] y zero x h = inr (refl, cc)
get_pushed [] y (suc i) x h = inl h
get_pushed (z ∷ xs) y zero x h = inl h
get_pushed (z ∷ xs) y (suc i) x h =
    elim (get_pushed xs y i x h) as (λ _. (slice_get xs i ≡ Some x) ⊎ ((suc i ≡ suc (length xs)) × (x ≡ y))) [ inl g ↦ inl g | inr g ↦ inr (ap suc g.0, g.1) ]

-- what is at a place is in the list
pub contained_at : {X : Type 0} (xs : List X) (i : ℕ) (x : X) → slice_get xs i ≡ Some x → Contains xs x
contained_at xs i x h = (i, slice_get_within xs i x h, get_or_from_slice_get xs i x x h)

pub graph_pushed : (ts : List Term) (t : Term) → IsGraph ts → All (λ a. a < length ts) t.args → (Contains ts t → ⊥) → IsGraph (ts ++ t ∷ [])
graph_pushed ts t b below new = record {
  downward = λ i u h. elim (get_pushed ts t i u h) [ inl g ↦ b.downward i u g | inr g ↦ rw (g.0, g.1) below ];
  distinct = λ i j u p q.
      elim (get_pushed ts t i u p) [
        | inl g ↦ elim (get_pushed ts t j u q) [ inl h ↦ b.distinct i j u g h | inr h ↦ absurd (new (contained_at ts i t (g ∙ ap Some h.1))) ]
        | inr g ↦ elim (get_pushed ts t j u q) [ inl h ↦ absurd (new (contained_at ts j t (h ∙ ap Some g.1))) | inr h ↦ g.0 ∙ sym h.0 ]
      ];
}

-- what stands in a list's front stands in the list
pub get_taken : {X : Type 0} (n : ℕ) (xs : List X) (i : ℕ) (x : X) → slice_get (take n xs) i ≡ Some x → slice_get xs i ≡ Some x
get_taken zero xs i x h = cc
get_taken (suc n) [] i x h = h
get_taken (suc n) (y ∷ xs) zero x h = h
get_taken (suc n) (y ∷ xs) (suc i) x h = get_taken n xs i x h

pub get_kept : {X : Type 0} (n : ℕ) (xs : List X) (i : ℕ) (x : X) → i < n → slice_get xs i ≡ Some x → slice_get (take n xs) i ≡ Some x
get_kept zero xs i x l h = absurd (omega arith)
get_kept (suc n) [] i x l h = h
get_kept (suc n) (y ∷ xs) zero x l h = h
get_kept (suc n) (y ∷ xs) (suc i) x l h = get_kept n xs i x (omega arith) h

pub taken_few : {X : Type 0} (n : ℕ) (xs : List X) → length (take n xs) ≤ length xs
taken_few zero xs = omega arith
taken_few (suc n) [] = omega arith
taken_few (suc n) (x ∷ xs) = let h : length (take n xs) ≤ length xs = taken_few n xs in omega arith

pub graph_taken : (n : ℕ) (ts : List Term) → IsGraph ts → IsGraph (take n ts)
graph_taken n ts b = record {
  downward = λ i t g. b.downward i t (get_taken n ts i t g);
  distinct = λ i j t g h. b.distinct i j t (get_taken n ts i t g) (get_taken n ts j t h);
}

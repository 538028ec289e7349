-- One step of a loop over a list, with what is left of it; and lists that grow.
use Rattle.std.proofs.Common.{◌≡◌, ℕ, ◌+◌, ◌<◌, ◌≤◌, List, [], ◌∷◌, ◌++◌, length, drop, get_or, map, sym, ap, ◌∙◌, append_assoc, append-nil}
use Rattle.std.proofs.lemmas.List.{map-append}
use Rattle.elab_shapes.proofs.Rows.{drop_at, drop_all}

-- one more stands behind
pub pushed_one : {X Y : Type 0} (f : X → Y) (old new : List X) (x : X) (y : Y) → new ≡ old ++ x ∷ [] → f x ≡ y → map f new ≡ map f old ++ y ∷ []
pushed_one f old new x y e h = ap (map f) e ∙ (map-append f old (x ∷ []) ∙ ap (λ z. map f old ++ z ∷ []) h)

-- none is added
pub none_added : {X : Type 0} (old more : List X) → more ≡ [] → old ≡ old ++ more
none_added old more e = sym (ap (λ xs. old ++ xs) e ∙ append-nil old)

-- others are added
pub others_added : {X : Type 0} (old new first second : List X) → first ≡ second → new ≡ old ++ first → new ≡ old ++ second
others_added old new first second e h = h ∙ ap (λ xs. old ++ xs) e

module _ {X Y Z : Type 0} (see : X → Y) (walk : ℕ → List Y → List Z) (made : ℕ → Y → List Z) (size : Y → ℕ) (law : (n : ℕ) (y : Y) (ys : List Y) → walk n (y ∷ ys) ≡ made n y ++ walk (n + size y) ys) where
  -- what is made of an element is added
  pub one_more : (xs : List X) (i : ℕ) (x : X) → i < length xs → x ≡ get_or xs i x → (n m : ℕ) → m ≡ n + size (see x) → (old new total : List Z) → new ≡ old ++ made n (see x)
      → old ++ walk n (map see (drop i xs)) ≡ total → new ++ walk m (map see (drop (i + 1) xs)) ≡ total
  one_more xs i x lt is n m e old new total f g =
      let rest = map see (drop (i + 1) xs) in
      ap (λ k. new ++ walk k rest) e ∙ (ap (λ ns. ns ++ walk (n + size (see x)) rest) f ∙ (append_assoc old (made n (see x)) (walk (n + size (see x)) rest)
      ∙ (ap (λ ns. old ++ ns) (sym (ap (λ zs. walk n (map see zs)) (drop_at xs i x lt is) ∙ law n (see x) rest)) ∙ g)))

-- all are added
pub all_added : {X Y Z : Type 0} (see : X → Y) (walk : List Y → List Z) → walk [] ≡ [] → (xs : List X) (i : ℕ) → length xs ≤ i → (done total : List Z) → done ++ walk (map see (drop i xs)) ≡ total → done ≡ total
all_added see walk empty xs i h done total e = sym (ap (λ zs. done ++ walk (map see zs)) (drop_all xs i h) ∙ (ap (λ zs. done ++ zs) empty ∙ append-nil done)) ∙ e

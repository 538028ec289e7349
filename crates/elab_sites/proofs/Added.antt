-- Lists that grow by what each of several adds.
use Rattle.std.proofs.Common.{◌≡◌, ℕ, zero, suc, ◌+◌, ◌<◌, ◌≤◌, refl, sym, ◌∙◌, ap, append-nil, append_assoc, List, [], ◌∷◌, ◌++◌, map, take, drop, get_or, length, arith}
use Rattle.std.specs.Prelude.{flat_map}
use Rattle.std.proofs.lemmas.Grind.{flat_map-append}
use Rattle.std.proofs.lemmas.List.{map-append}
use Rattle.typing_expressions.proofs.Rows.{take_at, take_all}

-- what stood there, what was added first, and what behind that
pub then_added : {Z : Type 0} (start before after first one both : List Z) → before ≡ start ++ first → after ≡ before ++ one → first ++ one ≡ both → after ≡ start ++ both
then_added start before after first one both h k m = k ∙ (ap (λ zs. zs ++ one) h ∙ (append_assoc start first one ∙ ap (λ zs. start ++ zs) m))

-- one more of several, and all of them
pub more : {X Y Z : Type 0} (f : Y → List Z) (v : X → Y) (start before after : List Z) (xs : List X) (i : ℕ) (y : X) → i < length xs → y ≡ get_or xs i y → before ≡ start ++ flat_map f (map v (take i xs)) → after ≡ before ++ f (v y)
    → after ≡ start ++ flat_map f (map v (take (i + 1) xs))
more f v start before after xs i y lt is so_far added =
    let done = map v (take i xs) in
    then_added start before after (flat_map f done) (f (v y)) (flat_map f (map v (take (i + 1) xs))) so_far added
    (sym (ap (flat_map f) (take_at v xs i y lt is) ∙ (flat_map-append f done (v y ∷ []) ∙ ap (λ (zs : List _). flat_map f done ++ zs) (append-nil (f (v y))))))

pub whole : {X Z : Type 0} (f : List X → List Z) (start now : List Z) (xs : List X) (i : ℕ) → length xs ≤ i → now ≡ start ++ f (take i xs) → now ≡ start ++ f xs
whole f start now xs i h so_far = so_far ∙ ap (λ (ys : List _). start ++ f ys) (take_all xs i h)

-- one of each
pub mapped : {X Y Z : Type 0} (f : Y → Z) (v : X → Y) (start before after : List Z) (xs : List X) (i : ℕ) (y : X) → i < length xs → y ≡ get_or xs i y → before ≡ start ++ map f (map v (take i xs)) → after ≡ before ++ f (v y) ∷ []
    → after ≡ start ++ map f (map v (take (i + 1) xs))
mapped f v start before after xs i y lt is so_far added =
    let done = map v (take i xs) in
    then_added start before after (map f done) (f (v y) ∷ []) (map f (map v (take (i + 1) xs))) so_far added
    (sym (ap (map f) (take_at v xs i y lt is) ∙ map-append f done (v y ∷ [])))

pub dropped : {X : Type 0} (xs : List X) (i : ℕ) → length xs ≤ i → drop i xs ≡ []
dropped [] zero h = refl
dropped [] (suc i) h = refl
dropped (x ∷ xs) zero h = absurd (omega arith)
dropped (x ∷ xs) (suc i) h = dropped xs i (omega arith)

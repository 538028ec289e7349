-- Lists, and numbers in them.
use Rattle.std.proofs.Common.{◌≡◌, ℕ, pos, List, [], ◌∷◌, ◌++◌, map, take, drop, length, flat_map, All, Some, option_map, refl, ap, sym, ◌∙◌, subst, append_assoc}
use Rattle.std.proofs.lemmas.List.Elements.{All-take, All-drop}
use Rattle.axiom_steps.specs.Steps.{naturals}
use Rattle.block_layout.specs.Layout.{but_last}

pub some_is : {X : Type 0} (x y : X) → Some x ≡ Some y → x ≡ y
some_is x y h = cc

pub append_nil : {X : Type 0} (xs : List X) → xs ++ [] ≡ xs
append_nil [] = refl
append_nil (x ∷ xs) = ap (λ ys. x ∷ ys) (append_nil xs)

pub drop_front : {X : Type 0} (xs ys : List X) → drop (length xs) (xs ++ ys) ≡ ys
drop_front [] ys = refl
drop_front (x ∷ xs) ys = drop_front xs ys

pub take_front : {X : Type 0} (xs ys : List X) → take (length xs) (xs ++ ys) ≡ xs
take_front [] ys = refl
take_front (x ∷ xs) ys = ap (λ zs. x ∷ zs) (take_front xs ys)

pub but_last_more : {X : Type 0} (xs : List X) (x : X) → but_last (xs ++ x ∷ []) ≡ Some xs
but_last_more [] x = refl
but_last_more (y ∷ []) x = refl
but_last_more (y ∷ z ∷ xs) x = ap (λ o. option_map (λ zs. y ∷ zs) o) (but_last_more (z ∷ xs) x)

pub naturals_of : (ns : List ℕ) → naturals (map pos ns) ≡ Some ns
naturals_of [] = refl
naturals_of (n ∷ ns) = ap (λ o. option_map (λ ms. n ∷ ms) o) (naturals_of ns)

pub flat_both : {X Y : Type 0} (f : X → List Y) (xs ys : List X) → flat_map f (xs ++ ys) ≡ flat_map f xs ++ flat_map f ys
flat_both f [] ys = refl
flat_both f (x ∷ xs) ys = ap (λ zs. f x ++ zs) (flat_both f xs ys) ∙ sym (append_assoc (f x) (flat_map f xs) (flat_map f ys))

pub map_both : {X Y : Type 0} (f : X → Y) (xs ys : List X) → map f (xs ++ ys) ≡ map f xs ++ map f ys
map_both f [] ys = refl
map_both f (x ∷ xs) ys = ap (λ zs. f x ∷ zs) (map_both f xs ys)

-- what holds of each of two lists' elements
pub all_left : {X : Type 0} (P : X → Type 0) (xs ys : List X) → All P (xs ++ ys) → All P xs
all_left {X} P xs ys h = subst (λ (zs : List X). All P zs) (take_front xs ys) (All-take P (length xs) (xs ++ ys) h)

pub all_right : {X : Type 0} (P : X → Type 0) (xs ys : List X) → All P (xs ++ ys) → All P ys
all_right {X} P xs ys h = subst (λ (zs : List X). All P zs) (drop_front xs ys) (All-drop P (length xs) (xs ++ ys) h)

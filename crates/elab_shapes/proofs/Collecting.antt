-- Shapes, as they are collected.
use Rattle.std.proofs.Common.{◌≡◌, Bool, true, false, ◌||◌, if◌then◌else◌, List, [], ◌∷◌, ◌++◌, map, reverse, refl, sym, ap, ◌∙◌, append_assoc}
use Rattle.std.specs.List.{list_any}
use Rattle.std.proofs.Math.Bool.{or_assoc, or_comm}
use Rattle.std.proofs.lemmas.List.{reverse-append, map-append}
use Rattle.method.specs.declared.program.Shape as m
use Rattle.typed_program.specs.Trees.{Shape}
use Rattle.typed_program.specs.Shapes.{same_shape, first_ones}
use Rattle.typed_program.specs.Views.{shape}
use Rattle.elab_shapes.specs.Conjuncts.{with_new}

-- ---- each shape once

any_both : {X : Type 0} (p : X → Bool) (xs ys : List X) → list_any p (xs ++ ys) ≡ (list_any p xs || list_any p ys)
any_both p [] ys = refl
any_both p (x ∷ xs) ys = ap (λ b. p x || b) (any_both p xs ys) ∙ sym (or_assoc (p x) (list_any p xs) (list_any p ys))

turned : {X : Type 0} (x : X) (xs : List X) → reverse (x ∷ xs) ≡ reverse xs ++ x ∷ []
turned x xs = reverse-append (x ∷ []) xs

or_false : (b : Bool) → (b || false) ≡ b
or_false true = refl
or_false false = refl

-- a test of elements in the other order
any_turned : {X : Type 0} (p : X → Bool) (xs : List X) → list_any p (reverse xs) ≡ list_any p xs
any_turned p [] = refl
any_turned p (x ∷ xs) =
    ap (list_any p) (turned x xs) ∙ (any_both p (reverse xs) (x ∷ []) ∙ (ap (λ b. b || (p x || false)) (any_turned p xs)
    ∙ (or_comm (list_any p xs) (p x || false) ∙ ap (λ b. b || list_any p xs) (or_false (p x)))))

-- a test of what elements stand for
any_seen : {X Y : Type 0} (f : X → Y) (p : Y → Bool) (xs : List X) → list_any p (map f xs) ≡ list_any (λ x. p (f x)) xs
any_seen f p [] = refl
any_seen f p (x ∷ xs) = ap (λ b. p (f x) || b) (any_seen f p xs)

new_by : (found : List Shape) (x : Shape) (b : Bool) → list_any (same_shape x) found ≡ b → with_new found x ≡ (if b then found else found ++ x ∷ [])
new_by found x b e = ap (λ c. if c then found else found ++ x ∷ []) e

-- one that stands among them already
pub with_old : (found : List m.Shape) (one : m.Shape) (b : Bool) → b ≡ list_any (λ x. same_shape (shape one) (shape x)) found → b ≡ true → map shape found ≡ with_new (map shape found) (shape one)
with_old found one b e is = sym (new_by (map shape found) (shape one) true (any_seen shape (same_shape (shape one)) found ∙ (sym e ∙ is)))

-- one that doesn't
pub with_more : (found more : List m.Shape) (one : m.Shape) (b : Bool) → b ≡ list_any (λ x. same_shape (shape one) (shape x)) found → b ≡ false → more ≡ found ++ one ∷ [] → map shape more ≡ with_new (map shape found) (shape one)
with_more found more one b e is f =
    ap (map shape) f ∙ (map-append shape found (one ∷ []) ∙ sym (new_by (map shape found) (shape one) false (any_seen shape (same_shape (shape one)) found ∙ (sym e ∙ is))))

abbrev first_by : List Shape → Shape → List Shape → Bool → List Shape
first_by earlier x xs b = if b then first_ones earlier xs else x ∷ first_ones (x ∷ earlier) xs

-- the first of what is left is looked at
pub one_seen : (found new all left : List m.Shape) (one : m.Shape) (total : List Shape) → all ≡ one ∷ left → map shape new ≡ with_new (map shape found) (shape one)
    → map shape found ++ first_ones (reverse (map shape found)) (map shape all) ≡ total → map shape new ++ first_ones (reverse (map shape new)) (map shape left) ≡ total
one_seen found new all left one total e f g =
    ap (λ ns. ns ++ first_ones (reverse ns) xs) f ∙ (go (list_any (same_shape x) seen) refl ∙ (ap (λ ns. seen ++ first_ones (reverse seen) (map shape ns)) (sym e) ∙ g))
  where
    seen : List Shape
    seen = map shape found

    x : Shape
    x = shape one

    xs : List Shape
    xs = map shape left

    go : (b : Bool) → list_any (same_shape x) seen ≡ b → with_new seen x ++ first_ones (reverse (with_new seen x)) xs ≡ seen ++ first_ones (reverse seen) (x ∷ xs)
    go true is =
        ap (λ ns. ns ++ first_ones (reverse ns) xs) (new_by seen x true is) ∙ sym (ap (λ b. seen ++ first_by (reverse seen) x xs b) (any_turned (same_shape x) seen ∙ is))
    go false is =
        ap (λ ns. ns ++ first_ones (reverse ns) xs) (new_by seen x false is) ∙ (ap (λ ns. (seen ++ x ∷ []) ++ first_ones ns xs) (reverse-append seen (x ∷ []))
        ∙ (append_assoc seen (x ∷ []) (first_ones (x ∷ reverse seen) xs) ∙ sym (ap (λ b. seen ++ first_by (reverse seen) x xs b) (any_turned (same_shape x) seen ∙ is))))

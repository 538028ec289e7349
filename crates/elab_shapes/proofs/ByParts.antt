-- Annotations by their parts.
use Rattle.std.proofs.Common.{◌≡◌, ℕ, zero, suc, ◌+◌, ◌-◌, ◌<◌, ◌≤◌, max, List, [], ◌∷◌, ◌++◌, length, drop, get_or, map, refl, sym, ap, ◌∙◌, arith, append_assoc, append-nil, length-append}
use Rattle.std.proofs.lemmas.List.{map-append}
use Rattle.method.specs.declared.program.Hole.{Hole}
use Rattle.method.specs.declared.program.Conjunct.{Conjunct}
use Rattle.method.specs.declared.program.Spec as s
use Rattle.method.specs.declared.program.Spec.TheVariants as v
use Rattle.typed_program.specs.Trees as t
use Rattle.typed_program.specs.Trees.{Spec, Specs, Stop, With, Shape}
use Rattle.typed_program.specs.Shapes.{Sorts, holes, all_holes, size, opened, all_opened, shapes_in, all_shapes, conjunct_shapes, numbered, all_numbered, numbered_conjuncts}
use Rattle.typed_program.specs.Views.{spec, specs, in_row}
use Rattle.elab_shapes.specs.Parts.{Part, plain, all_plain, conjunct, conjuncts, parts, row, with_parts}
use Rattle.elab_shapes.specs.Conjuncts.{own_holes, own_shape, numbered_part}
use Rattle.elab_shapes.proofs.Rows.{drop_at, drop_all}

-- ---- heights

abbrev mutual
  pub height : Spec → ℕ
  height (t.SField x i) = height x + 1
  height (t.SClosed x) = height x + 1
  height (t.SOwner x) = height x + 1
  height (t.SClaimCount x) = height x + 1
  height (t.SMember x y) = max (height x) (height y) + 1
  height (t.SNot x) = height x + 1
  height (t.SNegate x) = height x + 1
  height (t.SArithmetic o x y) = max (height x) (height y) + 1
  height (t.SCompare o x y) = max (height x) (height y) + 1
  height (t.SAnd x y) = max (height x) (height y) + 1
  height (t.SOr x y) = max (height x) (height y) + 1
  height (t.SImplies x y) = max (height x) (height y) + 1
  height (t.SIff x y) = max (height x) (height y) + 1
  height (t.SChoose x y z) = max (height x) (max (height y) (height z)) + 1
  height (t.SOld x) = height x + 1
  height (t.SUnchanged x) = height x + 1
  height (t.SWrapped x) = height x + 1
  height (t.SWrapped0 x) = height x + 1
  height (t.SMutable x) = height x + 1
  height (t.SFresh x) = height x + 1
  height (t.SClaimsObject x y) = max (height x) (height y) + 1
  height (t.SClaims x xs) = max (height x) (row_height xs) + 1
  height (t.SLists x) = height x + 1
  height (t.SForAll n ty x y) = max (height x) (height y) + 1
  height (t.SExists n ty x ys) = max (height x) (row_height ys) + 1
  height (t.SClaimsOnly n x ys) = max (height x) (row_height ys) + 1
  height _ = 1

  pub row_height : Specs → ℕ
  row_height Stop = 0
  row_height (With x xs) = max (height x) (row_height xs)

abbrev highest : List Part → ℕ
highest [] = 0
highest (p ∷ ps) = max (height p.spec) (highest ps)

conjuncts_high : (xs : Specs) → highest (conjuncts xs) ≡ row_height xs
conjuncts_high Stop = refl
conjuncts_high (With x xs) = ap (max (height x)) (conjuncts_high xs)

plain_high : (xs : Specs) → highest (all_plain xs) ≡ row_height xs
plain_high Stop = refl
plain_high (With x xs) = ap (max (height x)) (plain_high xs)

all_lower : (x : Spec) → highest (parts x) < height x
all_lower (t.SClaims x xs) = let e = conjuncts_high xs in omega (arith, e)
all_lower (t.SExists n ty x ys) = let e = plain_high ys in omega (arith, e)
all_lower (t.SClaimsOnly n x ys) = let e = plain_high ys in omega (arith, e)
all_lower _ = omega arith

one_low : (ps : List Part) (i : ℕ) (p : Part) → i < length ps → p ≡ get_or ps i p → height p.spec ≤ highest ps
one_low [] i p lt is = absurd (omega arith)
one_low (q ∷ ps) zero p lt is = let e = ap (λ (r : Part). height r.spec) is in omega (arith, e)
one_low (q ∷ ps) (suc i) p lt is = let h = one_low ps i p (omega arith) is in omega (arith, h)

-- a part is lower than the whole
pub part_lower : (x : Spec) (i : ℕ) (p : Part) → i < length (parts x) → p ≡ get_or (parts x) i p → height p.spec < height x
part_lower x i p lt is = let a = one_low (parts x) i p lt is in let b = all_lower x in omega (arith, a, b)

-- ---- rows by their places

pub plain_row_at : (xs : List s.Spec) (i : ℕ) (d : s.Spec) (e : Part) → i < length xs → get_or (all_plain (in_row xs)) i e ≡ plain (spec (get_or xs i d))
plain_row_at [] i d e lt = absurd (omega arith)
plain_row_at (x ∷ xs) zero d e lt = refl
plain_row_at (x ∷ xs) (suc i) d e lt = plain_row_at xs i d e (omega arith)

pub conjuncts_at : (xs : List s.Spec) (i : ℕ) (d : s.Spec) (e : Part) → i < length xs → get_or (conjuncts (in_row xs)) i e ≡ conjunct (spec (get_or xs i d))
conjuncts_at [] i d e lt = absurd (omega arith)
conjuncts_at (x ∷ xs) zero d e lt = refl
conjuncts_at (x ∷ xs) (suc i) d e lt = conjuncts_at xs i d e (omega arith)

pub plain_length : (xs : List s.Spec) → length (all_plain (in_row xs)) ≡ length xs
plain_length [] = refl
plain_length (x ∷ xs) = ap suc (plain_length xs)

pub conjuncts_length : (xs : List s.Spec) → length (conjuncts (in_row xs)) ≡ length xs
conjuncts_length [] = refl
conjuncts_length (x ∷ xs) = ap suc (conjuncts_length xs)

-- one that isn't the first
pub row_part : (xs : List s.Spec) (x : Spec) (i : ℕ) (m : s.Spec) (p : Part) → (i ≡ 0 → ⊥) → i < length (plain x ∷ all_plain (in_row xs)) → m ≡ get_or xs (i - 1) m → p ≡ plain (spec m) → p ≡ get_or (plain x ∷ all_plain (in_row xs)) i p
row_part xs x zero m p some lt is e = absurd (some refl)
row_part xs x (suc i) m p some lt is e =
    let back : suc i - 1 ≡ i = omega arith in
    let n = plain_length xs in
    e ∙ (ap (λ z. plain (spec z)) (is ∙ ap (λ k. get_or xs k m) back) ∙ sym (plain_row_at xs i m p (omega (arith, n, lt))))

pub claims_part : (xs : List s.Spec) (x : Spec) (i : ℕ) (m : s.Spec) (p : Part) → (i ≡ 0 → ⊥) → i < length (plain x ∷ conjuncts (in_row xs)) → m ≡ get_or xs (i - 1) m → p ≡ conjunct (spec m) → p ≡ get_or (plain x ∷ conjuncts (in_row xs)) i p
claims_part xs x zero m p some lt is e = absurd (some refl)
claims_part xs x (suc i) m p some lt is e =
    let back : suc i - 1 ≡ i = omega arith in
    let n = conjuncts_length xs in
    e ∙ (ap (λ z. conjunct (spec z)) (is ∙ ap (λ k. get_or xs k m) back) ∙ sym (conjuncts_at xs i m p (omega (arith, n, lt))))

pub row_is : (xs : List s.Spec) → row (specs xs) ≡ in_row xs
row_is [] = refl
row_is (x ∷ xs) = ap (With (spec x)) (row_is xs)

-- ---- what parts give, put together

abbrev pub gathered : {X Y : Type 0} → (X → List Y) → List X → List Y
gathered f [] = []
gathered f (x ∷ xs) = f x ++ gathered f xs

-- the same with nothing behind the last
abbrev joined : {X Y : Type 0} → (X → List Y) → List X → List Y
joined f [] = []
joined f (x ∷ []) = f x
joined f (x ∷ y ∷ ys) = f x ++ joined f (y ∷ ys)

joined_is : {X Y : Type 0} (f : X → List Y) (xs : List X) → joined f xs ≡ gathered f xs
joined_is f [] = refl
joined_is f (x ∷ []) = sym (append-nil (f x))
joined_is f (x ∷ y ∷ ys) = ap (λ ns. f x ++ ns) (joined_is f (y ∷ ys))

abbrev pub part_holes : Part → List Hole
part_holes p = holes p.spec

conjuncts_holes : (xs : Specs) → all_holes xs ≡ gathered part_holes (conjuncts xs)
conjuncts_holes Stop = refl
conjuncts_holes (With x xs) = ap (λ ns. holes x ++ ns) (conjuncts_holes xs)

plain_holes : (xs : Specs) → all_holes xs ≡ gathered part_holes (all_plain xs)
plain_holes Stop = refl
plain_holes (With x xs) = ap (λ ns. holes x ++ ns) (plain_holes xs)

-- the holes of an annotation are those of its parts, but for one that is a hole itself
pub holes_by_parts : (x : Spec) → own_holes x ++ gathered part_holes (parts x) ≡ holes x
holes_by_parts (t.SHas c) = append-nil c.holes
holes_by_parts (t.SClaims x xs) = ap (λ ns. holes x ++ ns) (sym (conjuncts_holes xs))
holes_by_parts (t.SExists n ty x ys) = ap (λ ns. holes x ++ ns) (sym (plain_holes ys))
holes_by_parts (t.SClaimsOnly n x ys) = ap (λ ns. holes x ++ ns) (sym (plain_holes ys))
holes_by_parts x = ap (λ ns. own_holes x ++ ns) (sym (joined_is part_holes (parts x)))

-- an annotation that is no hole itself
pub none_own : (x : s.Spec) → ((i : ℕ) → x ≡ s.Variable i → ⊥) → ((i : ℕ) → x ≡ s.Bound i → ⊥) → (x ≡ s.This → ⊥) → (x ≡ s.Me → ⊥) → (x ≡ s.Result → ⊥) → ((c : Conjunct) → x ≡ s.Has c → ⊥) → own_holes (spec x) ≡ []
none_own (v.Variable i) a b c d e f = absurd (a _ refl)
none_own (v.Bound i) a b c d e f = absurd (b _ refl)
none_own v.This a b c d e f = absurd (c refl)
none_own v.Me a b c d e f = absurd (d refl)
none_own v.Result a b c d e f = absurd (e refl)
none_own (v.Has h) a b c d e f = absurd (f _ refl)
none_own _ a b c d e f = refl

parted_has_none : (x : Spec) → (0 ≡ length (parts x) → ⊥) → own_holes x ≡ []
parted_has_none (t.SVariable i) h = absurd (h refl)
parted_has_none (t.SBound i) h = absurd (h refl)
parted_has_none t.SThis h = absurd (h refl)
parted_has_none t.SMe h = absurd (h refl)
parted_has_none t.SResult h = absurd (h refl)
parted_has_none (t.SHas c) h = absurd (h refl)
parted_has_none _ h = refl

-- the holes of an annotation that has parts
pub holes_of_parts : (x : Spec) → (0 ≡ length (parts x) → ⊥) → gathered part_holes (parts x) ≡ holes x
holes_of_parts x h = ap (λ ns. ns ++ gathered part_holes (parts x)) (sym (parted_has_none x h)) ∙ holes_by_parts x

module _ (h : Sorts) where
  abbrev pub part_shapes : Part → List Shape
  part_shapes p = own_shape h p ++ shapes_in h p.spec

  plain_shapes : (xs : Specs) → all_shapes h xs ≡ gathered part_shapes (all_plain xs)
  plain_shapes Stop = refl
  plain_shapes (With x xs) = ap (λ ns. shapes_in h x ++ ns) (plain_shapes xs)

  one_more_conjunct : (x : Spec) (xs : Specs) → conjunct_shapes h (With x xs) ≡ part_shapes (conjunct x) ++ conjunct_shapes h xs
  one_more_conjunct (t.SLists x) xs = refl
  one_more_conjunct _ xs = refl

  conjuncts_shapes : (xs : Specs) → conjunct_shapes h xs ≡ gathered part_shapes (conjuncts xs)
  conjuncts_shapes Stop = refl
  conjuncts_shapes (With x xs) = one_more_conjunct x xs ∙ ap (λ ns. part_shapes (conjunct x) ++ ns) (conjuncts_shapes xs)

  -- the shapes in an annotation are those of its parts
  pub shapes_by_parts : (x : Spec) → gathered part_shapes (parts x) ≡ shapes_in h x
  shapes_by_parts (t.SClaims x xs) = ap (λ ns. shapes_in h x ++ ns) (sym (conjuncts_shapes xs))
  shapes_by_parts (t.SExists n ty x ys) = ap (λ ns. shapes_in h x ++ ns) (sym (plain_shapes ys))
  shapes_by_parts (t.SClaimsOnly n x ys) = ap (λ ns. shapes_in h x ++ ns) (sym (plain_shapes ys))
  shapes_by_parts x = sym (joined_is part_shapes (parts x))

module _ (l : List Shape) (h : Sorts) where
  plain_numbered : (xs : Specs) → all_numbered l h xs ≡ row (map (numbered_part l h) (all_plain xs))
  plain_numbered Stop = refl
  plain_numbered (With x xs) = ap (With (numbered l h x)) (plain_numbered xs)

  one_more_number : (x : Spec) (xs : Specs) → numbered_conjuncts l h (With x xs) ≡ With (numbered_part l h (conjunct x)) (numbered_conjuncts l h xs)
  one_more_number (t.SLists x) xs = refl
  one_more_number _ xs = refl

  conjuncts_numbered : (xs : Specs) → numbered_conjuncts l h xs ≡ row (map (numbered_part l h) (conjuncts xs))
  conjuncts_numbered Stop = refl
  conjuncts_numbered (With x xs) = one_more_number x xs ∙ ap (With (numbered_part l h (conjunct x))) (conjuncts_numbered xs)

  -- an annotation with numbers has its parts with numbers
  pub numbered_by_parts : (x : Spec) → with_parts x (map (numbered_part l h) (parts x)) ≡ numbered l h x
  numbered_by_parts (t.SClaims x xs) = ap (t.SClaims (numbered l h x)) (sym (conjuncts_numbered xs))
  numbered_by_parts (t.SExists n ty x ys) = ap (t.SExists n ty (numbered l h x)) (sym (plain_numbered ys))
  numbered_by_parts (t.SClaimsOnly n x ys) = ap (t.SClaimsOnly n (numbered l h x)) (sym (plain_numbered ys))
  numbered_by_parts _ = refl

-- parts one behind the other, opened
abbrev pub opened_parts : ℕ → List Part → List Spec
opened_parts k [] = []
opened_parts k (p ∷ ps) = opened k p.spec ∷ opened_parts (k + size p.spec) ps

plain_opened : (k : ℕ) (xs : Specs) → all_opened k xs ≡ row (opened_parts k (all_plain xs))
plain_opened k Stop = refl
plain_opened k (With x xs) = ap (With (opened k x)) (plain_opened (k + size x) xs)

conjuncts_opened : (k : ℕ) (xs : Specs) → all_opened k xs ≡ row (opened_parts k (conjuncts xs))
conjuncts_opened k Stop = refl
conjuncts_opened k (With x xs) = ap (With (opened k x)) (conjuncts_opened (k + size x) xs)

-- an annotation with parts is opened part by part
pub opened_by_parts : (k : ℕ) (x : Spec) → (0 ≡ length (parts x) → ⊥) → with_parts x (opened_parts k (parts x)) ≡ opened k x
opened_by_parts k (t.SVariable i) h = absurd (h refl)
opened_by_parts k (t.SBound i) h = absurd (h refl)
opened_by_parts k t.SThis h = absurd (h refl)
opened_by_parts k t.SMe h = absurd (h refl)
opened_by_parts k t.SResult h = absurd (h refl)
opened_by_parts k (t.SChoose x y z) h = ap (λ n. t.SChoose (opened k x) (opened (k + size x) y) (opened n z)) (omega arith)
opened_by_parts k (t.SClaims x xs) h = ap (t.SClaims (opened k x)) (sym (conjuncts_opened (k + size x) xs))
opened_by_parts k (t.SExists n ty x ys) h = ap (t.SExists n ty (opened k x)) (sym (plain_opened (k + size x) ys))
opened_by_parts k (t.SClaimsOnly n x ys) h = ap (t.SClaimsOnly n (opened k x)) (sym (plain_opened (k + size x) ys))
opened_by_parts k _ h = refl

-- ---- what a loop over parts has done, and what is left

-- what the next part gives is put behind what has been gathered
pub one_gathered : {X Y : Type 0} (f : X → List Y) (xs : List X) (i : ℕ) (y : X) → i < length xs → y ≡ get_or xs i y → (old new total : List Y) → new ≡ old ++ f y
    → old ++ gathered f (drop i xs) ≡ total → new ++ gathered f (drop (i + 1) xs) ≡ total
one_gathered f xs i y lt is old new total e g =
    ap (λ ns. ns ++ gathered f (drop (i + 1) xs)) e ∙ (append_assoc old (f y) (gathered f (drop (i + 1) xs)) ∙ (ap (λ zs. old ++ gathered f zs) (sym (drop_at xs i y lt is)) ∙ g))

pub all_gathered : {X Y : Type 0} (f : X → List Y) (xs : List X) (i : ℕ) → length xs ≤ i → (now total : List Y) → now ++ gathered f (drop i xs) ≡ total → now ≡ total
all_gathered f xs i le now total g = sym (append-nil now) ∙ (ap (λ zs. now ++ gathered f zs) (sym (drop_all xs i le)) ∙ g)

-- what a whole gives by itself stands in front
pub start_gathered : {X Y : Type 0} (f : X → List Y) (xs : List X) (old own new whole : List Y) → new ≡ old ++ own → own ++ gathered f xs ≡ whole → new ++ gathered f xs ≡ old ++ whole
start_gathered f xs old own new whole e h = ap (λ ns. ns ++ gathered f xs) e ∙ (append_assoc old own (gathered f xs) ∙ ap (λ ns. old ++ ns) h)

-- the next part is made, and put behind those that have been
pub one_made : {X : Type 0} (f : X → Spec) (xs : List X) (i : ℕ) (y : X) → i < length xs → y ≡ get_or xs i y → (old new : List s.Spec) (z : s.Spec) (total : List Spec) → new ≡ old ++ z ∷ [] → spec z ≡ f y
    → specs old ++ map f (drop i xs) ≡ total → specs new ++ map f (drop (i + 1) xs) ≡ total
one_made f xs i y lt is old new z total e m g =
    ap (λ ns. specs ns ++ map f (drop (i + 1) xs)) e ∙ (ap (λ ns. ns ++ map f (drop (i + 1) xs)) (map-append spec old (z ∷ [])) ∙ (append_assoc (specs old) (spec z ∷ []) (map f (drop (i + 1) xs))
    ∙ (ap (λ w. specs old ++ w ∷ map f (drop (i + 1) xs)) m ∙ (ap (λ zs. specs old ++ map f zs) (sym (drop_at xs i y lt is)) ∙ g))))

pub all_made : {X : Type 0} (f : X → Spec) (xs : List X) (i : ℕ) → length xs ≤ i → (now : List s.Spec) (total : List Spec) → specs now ++ map f (drop i xs) ≡ total → specs now ≡ total
all_made f xs i le now total g = sym (append-nil (specs now)) ∙ (ap (λ zs. specs now ++ map f zs) (sym (drop_all xs i le)) ∙ g)

-- the same of parts that are opened one behind the other
pub one_opened : (xs : List Part) (i : ℕ) (y : Part) → i < length xs → y ≡ get_or xs i y → (old new : List s.Spec) (z : s.Spec) (k m : ℕ) (total : List Spec) → new ≡ old ++ z ∷ [] → spec z ≡ opened k y.spec → m ≡ k + size y.spec
    → specs old ++ opened_parts k (drop i xs) ≡ total → specs new ++ opened_parts m (drop (i + 1) xs) ≡ total
one_opened xs i y lt is old new z k m total e o n g =
    let rest = opened_parts (k + size y.spec) (drop (i + 1) xs) in
    ap (λ ns. specs ns ++ opened_parts m (drop (i + 1) xs)) e ∙ (ap (λ p. specs (old ++ z ∷ []) ++ opened_parts p (drop (i + 1) xs)) n ∙ (ap (λ ns. ns ++ rest) (map-append spec old (z ∷ [])) ∙ (append_assoc (specs old) (spec z ∷ []) rest
    ∙ (ap (λ w. specs old ++ w ∷ rest) o ∙ (ap (λ zs. specs old ++ opened_parts k zs) (sym (drop_at xs i y lt is)) ∙ g)))))

pub all_opened_up : (xs : List Part) (i k : ℕ) → length xs ≤ i → (now : List s.Spec) (total : List Spec) → specs now ++ opened_parts k (drop i xs) ≡ total → specs now ≡ total
all_opened_up xs i k le now total g = sym (append-nil (specs now)) ∙ (ap (λ zs. specs now ++ opened_parts k zs) (sym (drop_all xs i le)) ∙ g)

-- and of the number of their holes
pub one_counted : (xs : List Part) (i : ℕ) (y : Part) → i < length xs → y ≡ get_or xs i y → (k m total : ℕ) → m ≡ k + size y.spec
    → k + length (gathered part_holes (drop i xs)) ≡ total → m + length (gathered part_holes (drop (i + 1) xs)) ≡ total
one_counted xs i y lt is k m total n g =
    let at = ap (λ zs. length (gathered part_holes zs)) (drop_at xs i y lt is) in
    let sum : length (holes y.spec ++ gathered part_holes (drop (i + 1) xs)) ≡ length (holes y.spec) + length (gathered part_holes (drop (i + 1) xs)) = length-append (holes y.spec) (gathered part_holes (drop (i + 1) xs)) in
    omega (arith, at, sum, n, g)

pub all_counted : (xs : List Part) (i k total : ℕ) → length xs ≤ i → k + length (gathered part_holes (drop i xs)) ≡ total → k ≡ total
all_counted xs i k total le g = let at = ap (λ (zs : List Part). length (gathered part_holes zs)) (drop_all xs i le) in omega (arith, at, g)

-- The shapes in a plain conjunct that is opened are those in it, where its holes' variables have the sorts of what filled them.
use Rattle.std.proofs.Common.{◌≡◌, ℕ, ◌+◌, true, ◌&&◌, List, [], ◌∷◌, ◌++◌, map, refl, sym, ap, ◌∙◌}
use Rattle.std.proofs.lemmas.Bool.{and_parts}
use Rattle.method.specs.declared.program.Hole.{Hole}
use Rattle.method.specs.declared.program.Hole.TheVariants.{OfVariable}
use Rattle.method.specs.declared.program.Sort.{Sort}
use Rattle.typed_program.specs.Trees as t
use Rattle.typed_program.specs.Shapes.{Sorts, holes, all_holes, size, opened, all_opened, sort_of, shape, shapes_in, conjunct_shapes}
use Rattle.typed_laws.proofs.Numbered.{plain, row_plain}
use Rattle.text_laws.proofs.Opened.{EachHole, holes_left, holes_right, holes_last}
use Rattle.text_laws.proofs.OpenedAgain.{opened_again}

map_both : (f g : Hole → Sort) (xs ys us vs : List Hole) → map f xs ≡ map g us → map f ys ≡ map g vs → map f (xs ++ ys) ≡ map g (us ++ vs)
map_both f g xs ys us vs h j = joined f xs ys ∙ ((λ i. h i ++ j i) ∙ sym (joined g us vs))
  where
    joined : (f : Hole → Sort) (xs ys : List Hole) → map f (xs ++ ys) ≡ map f xs ++ map f ys
    joined f [] ys = refl
    joined f (x ∷ xs) ys = ap (λ zs. f x ∷ zs) (joined f xs ys)

module _ (s z : Sorts) where
  -- the variable with this number has the sort of what fills the hole
  abbrev IsSorted : ℕ → Hole → Type 0
  IsSorted k h = sort_of z (OfVariable k) ≡ sort_of s h

  -- and so have the variables from number k
  abbrev pub SameSorts : ℕ → List Hole → Type 0
  SameSorts k hs = EachHole IsSorted k hs

  mutual
    pub opened_sorts : (k : ℕ) (w : t.Spec) → plain w ≡ true → SameSorts k (holes w) → map (sort_of z) (holes (opened k w)) ≡ map (sort_of s) (holes w)
    opened_sorts k (t.SNumber v) h g = refl
    opened_sorts k (t.STruth b) h g = refl
    opened_sorts k t.SNull h g = refl
    opened_sorts k (t.SVariable i) h g = λ i. g.0 i ∷ []
    opened_sorts k (t.SBound i) h g = λ i. g.0 i ∷ []
    opened_sorts k t.SThis h g = λ i. g.0 i ∷ []
    opened_sorts k t.SMe h g = λ i. g.0 i ∷ []
    opened_sorts k t.SResult h g = λ i. g.0 i ∷ []
    opened_sorts k (t.SField x i) h g = opened_sorts k x h g
    opened_sorts k (t.SClosed x) h g = opened_sorts k x h g
    opened_sorts k (t.SOwner x) h g = opened_sorts k x h g
    opened_sorts k (t.SClaimCount x) h g = opened_sorts k x h g
    opened_sorts k (t.SNot x) h g = opened_sorts k x h g
    opened_sorts k (t.SNegate x) h g = opened_sorts k x h g
    opened_sorts k (t.SLists x) h g = opened_sorts k x h g
    opened_sorts k (t.SMember x y) h g = let c = and_parts (plain x) (plain y) h in map_both (sort_of z) (sort_of s) (holes (opened k x)) (holes (opened (k + size x) y)) (holes x) (holes y) (opened_sorts k x c.0 (holes_left IsSorted k (holes x) (holes y) g)) (opened_sorts (k + size x) y c.1 (holes_right IsSorted k (holes x) (holes y) g))
    opened_sorts k (t.SArithmetic o x y) h g = let c = and_parts (plain x) (plain y) h in map_both (sort_of z) (sort_of s) (holes (opened k x)) (holes (opened (k + size x) y)) (holes x) (holes y) (opened_sorts k x c.0 (holes_left IsSorted k (holes x) (holes y) g)) (opened_sorts (k + size x) y c.1 (holes_right IsSorted k (holes x) (holes y) g))
    opened_sorts k (t.SCompare o x y) h g = let c = and_parts (plain x) (plain y) h in map_both (sort_of z) (sort_of s) (holes (opened k x)) (holes (opened (k + size x) y)) (holes x) (holes y) (opened_sorts k x c.0 (holes_left IsSorted k (holes x) (holes y) g)) (opened_sorts (k + size x) y c.1 (holes_right IsSorted k (holes x) (holes y) g))
    opened_sorts k (t.SAnd x y) h g = let c = and_parts (plain x) (plain y) h in map_both (sort_of z) (sort_of s) (holes (opened k x)) (holes (opened (k + size x) y)) (holes x) (holes y) (opened_sorts k x c.0 (holes_left IsSorted k (holes x) (holes y) g)) (opened_sorts (k + size x) y c.1 (holes_right IsSorted k (holes x) (holes y) g))
    opened_sorts k (t.SOr x y) h g = let c = and_parts (plain x) (plain y) h in map_both (sort_of z) (sort_of s) (holes (opened k x)) (holes (opened (k + size x) y)) (holes x) (holes y) (opened_sorts k x c.0 (holes_left IsSorted k (holes x) (holes y) g)) (opened_sorts (k + size x) y c.1 (holes_right IsSorted k (holes x) (holes y) g))
    opened_sorts k (t.SImplies x y) h g = let c = and_parts (plain x) (plain y) h in map_both (sort_of z) (sort_of s) (holes (opened k x)) (holes (opened (k + size x) y)) (holes x) (holes y) (opened_sorts k x c.0 (holes_left IsSorted k (holes x) (holes y) g)) (opened_sorts (k + size x) y c.1 (holes_right IsSorted k (holes x) (holes y) g))
    opened_sorts k (t.SIff x y) h g = let c = and_parts (plain x) (plain y) h in map_both (sort_of z) (sort_of s) (holes (opened k x)) (holes (opened (k + size x) y)) (holes x) (holes y) (opened_sorts k x c.0 (holes_left IsSorted k (holes x) (holes y) g)) (opened_sorts (k + size x) y c.1 (holes_right IsSorted k (holes x) (holes y) g))
    opened_sorts k (t.SClaimsObject x y) h g = let c = and_parts (plain x) (plain y) h in map_both (sort_of z) (sort_of s) (holes (opened k x)) (holes (opened (k + size x) y)) (holes x) (holes y) (opened_sorts k x c.0 (holes_left IsSorted k (holes x) (holes y) g)) (opened_sorts (k + size x) y c.1 (holes_right IsSorted k (holes x) (holes y) g))
    opened_sorts k (t.SChoose x y w) h g =
        let c = and_parts (plain x) (plain y && plain w) h in
        let d = and_parts (plain y) (plain w) c.1 in
        let rest = holes_right IsSorted k (holes x) (holes y ++ holes w) g in
        map_both (sort_of z) (sort_of s) (holes (opened k x)) (holes (opened (k + size x) y) ++ holes (opened (k + (size x + size y)) w)) (holes x) (holes y ++ holes w) (opened_sorts k x c.0 (holes_left IsSorted k (holes x) (holes y ++ holes w) g))
        (map_both (sort_of z) (sort_of s) (holes (opened (k + size x) y)) (holes (opened (k + (size x + size y)) w)) (holes y) (holes w) (opened_sorts (k + size x) y d.0 (holes_left IsSorted (k + size x) (holes y) (holes w) rest))
        (opened_sorts (k + (size x + size y)) w d.1 (holes_last IsSorted k (size x) (size y) (holes w) (holes_right IsSorted (k + size x) (holes y) (holes w) rest))))
    opened_sorts k (t.SClaims x xs) h g =
        let c = and_parts (plain x) (row_plain xs) h in
        map_both (sort_of z) (sort_of s) (holes (opened k x)) (all_holes (all_opened (k + size x) xs)) (holes x) (all_holes xs) (opened_sorts k x c.0 (holes_left IsSorted k (holes x) (all_holes xs) g)) (row_sorts (k + size x) xs c.1 (holes_right IsSorted k (holes x) (all_holes xs) g))
    opened_sorts k (t.SOld x) h g = absurd (cc)
    opened_sorts k (t.SUnchanged x) h g = absurd (cc)
    opened_sorts k (t.SWrapped x) h g = absurd (cc)
    opened_sorts k (t.SWrapped0 x) h g = absurd (cc)
    opened_sorts k (t.SMutable x) h g = absurd (cc)
    opened_sorts k (t.SFresh x) h g = absurd (cc)
    opened_sorts k (t.SHas c) h g = absurd (cc)
    opened_sorts k (t.SForAll i ty x y) h g = absurd (cc)
    opened_sorts k (t.SExists i ty x ys) h g = absurd (cc)
    opened_sorts k (t.SClaimsOnly i x ys) h g = absurd (cc)

    row_sorts : (k : ℕ) (ws : t.Specs) → row_plain ws ≡ true → SameSorts k (all_holes ws) → map (sort_of z) (all_holes (all_opened k ws)) ≡ map (sort_of s) (all_holes ws)
    row_sorts k t.Stop h g = refl
    row_sorts k (t.With x xs) h g =
        let c = and_parts (plain x) (row_plain xs) h in
        map_both (sort_of z) (sort_of s) (holes (opened k x)) (all_holes (all_opened (k + size x) xs)) (holes x) (all_holes xs) (opened_sorts k x c.0 (holes_left IsSorted k (holes x) (all_holes xs) g)) (row_sorts (k + size x) xs c.1 (holes_right IsSorted k (holes x) (all_holes xs) g))

  opened_shape : (k : ℕ) (w : t.Spec) → plain w ≡ true → SameSorts k (holes w) → shape z (opened k w) ≡ shape s w
  opened_shape k w h g = λ i. record { holes = opened_sorts k w h g i; conjunct = opened_again 0 k w h i }

  mutual
    pub opened_shapes : (k : ℕ) (w : t.Spec) → plain w ≡ true → SameSorts k (holes w) → shapes_in z (opened k w) ≡ shapes_in s w
    opened_shapes k (t.SNumber v) h g = refl
    opened_shapes k (t.STruth b) h g = refl
    opened_shapes k t.SNull h g = refl
    opened_shapes k (t.SVariable i) h g = refl
    opened_shapes k (t.SBound i) h g = refl
    opened_shapes k t.SThis h g = refl
    opened_shapes k t.SMe h g = refl
    opened_shapes k t.SResult h g = refl
    opened_shapes k (t.SField x i) h g = opened_shapes k x h g
    opened_shapes k (t.SClosed x) h g = opened_shapes k x h g
    opened_shapes k (t.SOwner x) h g = opened_shapes k x h g
    opened_shapes k (t.SClaimCount x) h g = opened_shapes k x h g
    opened_shapes k (t.SNot x) h g = opened_shapes k x h g
    opened_shapes k (t.SNegate x) h g = opened_shapes k x h g
    opened_shapes k (t.SLists x) h g = opened_shapes k x h g
    opened_shapes k (t.SMember x y) h g = let c = and_parts (plain x) (plain y) h in λ i. opened_shapes k x c.0 (holes_left IsSorted k (holes x) (holes y) g) i ++ opened_shapes (k + size x) y c.1 (holes_right IsSorted k (holes x) (holes y) g) i
    opened_shapes k (t.SArithmetic o x y) h g = let c = and_parts (plain x) (plain y) h in λ i. opened_shapes k x c.0 (holes_left IsSorted k (holes x) (holes y) g) i ++ opened_shapes (k + size x) y c.1 (holes_right IsSorted k (holes x) (holes y) g) i
    opened_shapes k (t.SCompare o x y) h g = let c = and_parts (plain x) (plain y) h in λ i. opened_shapes k x c.0 (holes_left IsSorted k (holes x) (holes y) g) i ++ opened_shapes (k + size x) y c.1 (holes_right IsSorted k (holes x) (holes y) g) i
    opened_shapes k (t.SAnd x y) h g = let c = and_parts (plain x) (plain y) h in λ i. opened_shapes k x c.0 (holes_left IsSorted k (holes x) (holes y) g) i ++ opened_shapes (k + size x) y c.1 (holes_right IsSorted k (holes x) (holes y) g) i
    opened_shapes k (t.SOr x y) h g = let c = and_parts (plain x) (plain y) h in λ i. opened_shapes k x c.0 (holes_left IsSorted k (holes x) (holes y) g) i ++ opened_shapes (k + size x) y c.1 (holes_right IsSorted k (holes x) (holes y) g) i
    opened_shapes k (t.SImplies x y) h g = let c = and_parts (plain x) (plain y) h in λ i. opened_shapes k x c.0 (holes_left IsSorted k (holes x) (holes y) g) i ++ opened_shapes (k + size x) y c.1 (holes_right IsSorted k (holes x) (holes y) g) i
    opened_shapes k (t.SIff x y) h g = let c = and_parts (plain x) (plain y) h in λ i. opened_shapes k x c.0 (holes_left IsSorted k (holes x) (holes y) g) i ++ opened_shapes (k + size x) y c.1 (holes_right IsSorted k (holes x) (holes y) g) i
    opened_shapes k (t.SClaimsObject x y) h g = let c = and_parts (plain x) (plain y) h in λ i. opened_shapes k x c.0 (holes_left IsSorted k (holes x) (holes y) g) i ++ opened_shapes (k + size x) y c.1 (holes_right IsSorted k (holes x) (holes y) g) i
    opened_shapes k (t.SChoose x y w) h g =
        let c = and_parts (plain x) (plain y && plain w) h in
        let d = and_parts (plain y) (plain w) c.1 in
        let rest = holes_right IsSorted k (holes x) (holes y ++ holes w) g in
        λ i. opened_shapes k x c.0 (holes_left IsSorted k (holes x) (holes y ++ holes w) g) i ++ (opened_shapes (k + size x) y d.0 (holes_left IsSorted (k + size x) (holes y) (holes w) rest) i ++ opened_shapes (k + (size x + size y)) w d.1 (holes_last IsSorted k (size x) (size y) (holes w) (holes_right IsSorted (k + size x) (holes y) (holes w) rest)) i)
    opened_shapes k (t.SClaims x xs) h g = let c = and_parts (plain x) (row_plain xs) h in λ i. opened_shapes k x c.0 (holes_left IsSorted k (holes x) (all_holes xs) g) i ++ opened_conjuncts (k + size x) xs c.1 (holes_right IsSorted k (holes x) (all_holes xs) g) i
    opened_shapes k (t.SOld x) h g = absurd (cc)
    opened_shapes k (t.SUnchanged x) h g = absurd (cc)
    opened_shapes k (t.SWrapped x) h g = absurd (cc)
    opened_shapes k (t.SWrapped0 x) h g = absurd (cc)
    opened_shapes k (t.SMutable x) h g = absurd (cc)
    opened_shapes k (t.SFresh x) h g = absurd (cc)
    opened_shapes k (t.SHas c) h g = absurd (cc)
    opened_shapes k (t.SForAll i ty x y) h g = absurd (cc)
    opened_shapes k (t.SExists i ty x ys) h g = absurd (cc)
    opened_shapes k (t.SClaimsOnly i x ys) h g = absurd (cc)

    opened_conjuncts : (k : ℕ) (ws : t.Specs) → row_plain ws ≡ true → SameSorts k (all_holes ws) → conjunct_shapes z (all_opened k ws) ≡ conjunct_shapes s ws
    opened_conjuncts k t.Stop h g = refl
    opened_conjuncts k (t.With (t.SLists x) xs) h g = let c = and_parts (plain x) (row_plain xs) h in λ i. opened_shapes k x c.0 (holes_left IsSorted k (holes x) (all_holes xs) g) i ++ opened_conjuncts (k + size x) xs c.1 (holes_right IsSorted k (holes x) (all_holes xs) g) i
    opened_conjuncts k (t.With x xs) h g =
        let c = and_parts (plain x) (row_plain xs) h in
        let own = holes_left IsSorted k (holes x) (all_holes xs) g in
        λ i. (opened_shape k x c.0 own i ∷ opened_shapes k x c.0 own i) ++ opened_conjuncts (k + size x) xs c.1 (holes_right IsSorted k (holes x) (all_holes xs) g) i

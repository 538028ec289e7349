-- Shapes whose conjuncts stand for something: so are all in an annotation that does.
use Rattle.std.specs.Prelude.{true, ◌&&◌, List, [], ◌∷◌, ◌++◌, Some, Contains, is_some, IsTrue}
use Rattle.std.proofs.Common.{◌≡◌, refl, ap, subst, inl, inr}
use Rattle.std.proofs.lemmas.List.Elements.{Contains-append_left, Contains-append_right, Contains-append_cases}
use Rattle.c_syntax.specs.Items.{Item}
use Rattle.object_types.specs.Sets.{every}
use Rattle.typed_program.specs.Trees as t
use Rattle.typed_program.specs.Trees.{Spec, Specs, Stop, With, Shape}
use Rattle.typed_program.specs.Shapes.{Sorts, shape, shapes_in, all_shapes, conjunct_shapes, property_shapes}
use Rattle.typed_program.specs.Tables.{item_shapes, program}
use Rattle.typed_laws.specs.Fits.{Meant, Names, with_bound, is_pointer, is_claim, meaning, all_mean, all_refer}
use Rattle.typed_laws.proofs.Basics.{and_left, and_right, contains_tail, contains_cases, contains_none}
use Rattle.typed_laws.proofs.Numbered.{Agree, agree_bound, ref_sort, is_ref_type, plain, row_plain, neat, all_neat, plain_neat}
use Rattle.text_laws.proofs.Fitting.{first, row_first, given, refer_mean}

module _ (items : List Item) where
  -- among the shapes of the items
  abbrev pub Within : List Shape → Type 0
  Within zs = (z : Shape) → Contains zs z → Contains (item_shapes items 0 items) z

  -- The shape of a plain conjunct that stands for something, where the shapes in it are among those of the items.
  pub record HasMeaning (z : Shape) : Type 0 where
    pub sorts : Sorts
    pub names : Names
    pub conjunct : Spec
    pub agree : Agree sorts names
    pub flat : plain conjunct ≡ true
    pub some : is_some (meaning (program items) names conjunct) ≡ true
    pub is : z ≡ shape sorts conjunct
    pub within : Within (shapes_in sorts conjunct)

  -- of each of these
  abbrev pub HaveMeaning : List Shape → Type 0
  HaveMeaning zs = (z : Shape) → Contains zs z → HasMeaning z

  pub none_mean : HaveMeaning []
  none_mean z c = absurd (contains_none z c)

  pub both_mean : (xs ys : List Shape) → Within (xs ++ ys) → (Within xs → HaveMeaning xs) → (Within ys → HaveMeaning ys) → HaveMeaning (xs ++ ys)
  both_mean xs ys within f g z c =
      elim (Contains-append_cases xs ys z c) [
        | inl d ↦ f (λ u e. within u (Contains-append_left xs ys u e)) z d
        | inr d ↦ g (λ u e. within u (Contains-append_right xs ys u e)) z d
      ]

  module _ (s : Sorts) where
    -- a conjunct and the shapes in it
    conjunct_means : (n : Names) → Agree s n → (w : Spec) → plain w ≡ true → (v : Meant) → meaning (program items) n w ≡ Some v → (Within (shapes_in s w) → HaveMeaning (shapes_in s w)) → Within (shape s w ∷ shapes_in s w) → HaveMeaning (shape s w ∷ shapes_in s w)
    conjunct_means n g w flat v means rest within z c =
        let inner = λ (u : Shape) (d : Contains (shapes_in s w) u). within u (contains_tail (shape s w) u (shapes_in s w) d) in
        elim (contains_cases (shape s w) z (shapes_in s w) c) [
          | inl e ↦ subst (λ u. HasMeaning u) e (record { sorts = s; names = n; conjunct = w; agree = g; flat = flat; some = ap is_some means; is = refl; within = inner })
          | inr d ↦ rest inner z d
        ]

    mutual
      pub shapes_mean : (n : Names) → Agree s n → (w : Spec) → IsTrue (neat w) → (v : Meant) → meaning (program items) n w ≡ Some v → Within (shapes_in s w) → HaveMeaning (shapes_in s w)
      shapes_mean n g (t.SField x i) h v e within = let z = first (meaning (program items) n x) _ v e in shapes_mean n g x h z.0 z.1 within
      shapes_mean n g (t.SClosed x) h v e within = let z = first (meaning (program items) n x) _ v e in shapes_mean n g x h z.0 z.1 within
      shapes_mean n g (t.SOwner x) h v e within = let z = first (meaning (program items) n x) _ v e in shapes_mean n g x h z.0 z.1 within
      shapes_mean n g (t.SClaimCount x) h v e within = let z = first (meaning (program items) n x) _ v e in shapes_mean n g x h z.0 z.1 within
      shapes_mean n g (t.SNot x) h v e within = let z = first (meaning (program items) n x) _ v e in shapes_mean n g x h z.0 z.1 within
      shapes_mean n g (t.SNegate x) h v e within = let z = first (meaning (program items) n x) _ v e in shapes_mean n g x h z.0 z.1 within
      shapes_mean n g (t.SLists x) h v e within = let z = first (meaning (program items) n x) _ v e in shapes_mean n g x h z.0 z.1 within
      shapes_mean n g (t.SUnchanged x) h v e within = let z = first (meaning (program items) n x) _ v e in shapes_mean n g x h z.0 z.1 within
      shapes_mean n g (t.SWrapped x) h v e within = let z = first (meaning (program items) n x) _ v e in shapes_mean n g x h z.0 z.1 within
      shapes_mean n g (t.SWrapped0 x) h v e within = let z = first (meaning (program items) n x) _ v e in shapes_mean n g x h z.0 z.1 within
      shapes_mean n g (t.SMutable x) h v e within = let z = first (meaning (program items) n x) _ v e in shapes_mean n g x h z.0 z.1 within
      shapes_mean n g (t.SFresh x) h v e within = let z = first (meaning (program items) n x) _ v e in shapes_mean n g x h z.0 z.1 within
      shapes_mean n g (t.SOld x) h v e within = shapes_mean n g x h v e within
      shapes_mean n g (t.SMember x y) h v e within =
          let z = first (meaning (program items) n x) _ v e in
          let y' = first (meaning (program items) n y) _ v z.2 in
          both_mean (shapes_in s x) (shapes_in s y) within (shapes_mean n g x (and_left (neat x) (neat y) h) z.0 z.1) (shapes_mean n g y (and_right (neat x) (neat y) h) y'.0 y'.1)
      shapes_mean n g (t.SArithmetic o x y) h v e within =
          let z = first (meaning (program items) n x) _ v e in
          let y' = first (meaning (program items) n y) _ v z.2 in
          both_mean (shapes_in s x) (shapes_in s y) within (shapes_mean n g x (and_left (neat x) (neat y) h) z.0 z.1) (shapes_mean n g y (and_right (neat x) (neat y) h) y'.0 y'.1)
      shapes_mean n g (t.SCompare o x y) h v e within =
          let z = first (meaning (program items) n x) _ v e in
          let y' = first (meaning (program items) n y) _ v z.2 in
          both_mean (shapes_in s x) (shapes_in s y) within (shapes_mean n g x (and_left (neat x) (neat y) h) z.0 z.1) (shapes_mean n g y (and_right (neat x) (neat y) h) y'.0 y'.1)
      shapes_mean n g (t.SAnd x y) h v e within =
          let z = first (meaning (program items) n x) _ v e in
          let y' = first (meaning (program items) n y) _ v z.2 in
          both_mean (shapes_in s x) (shapes_in s y) within (shapes_mean n g x (and_left (neat x) (neat y) h) z.0 z.1) (shapes_mean n g y (and_right (neat x) (neat y) h) y'.0 y'.1)
      shapes_mean n g (t.SOr x y) h v e within =
          let z = first (meaning (program items) n x) _ v e in
          let y' = first (meaning (program items) n y) _ v z.2 in
          both_mean (shapes_in s x) (shapes_in s y) within (shapes_mean n g x (and_left (neat x) (neat y) h) z.0 z.1) (shapes_mean n g y (and_right (neat x) (neat y) h) y'.0 y'.1)
      shapes_mean n g (t.SImplies x y) h v e within =
          let z = first (meaning (program items) n x) _ v e in
          let y' = first (meaning (program items) n y) _ v z.2 in
          both_mean (shapes_in s x) (shapes_in s y) within (shapes_mean n g x (and_left (neat x) (neat y) h) z.0 z.1) (shapes_mean n g y (and_right (neat x) (neat y) h) y'.0 y'.1)
      shapes_mean n g (t.SIff x y) h v e within =
          let z = first (meaning (program items) n x) _ v e in
          let y' = first (meaning (program items) n y) _ v z.2 in
          both_mean (shapes_in s x) (shapes_in s y) within (shapes_mean n g x (and_left (neat x) (neat y) h) z.0 z.1) (shapes_mean n g y (and_right (neat x) (neat y) h) y'.0 y'.1)
      shapes_mean n g (t.SClaimsObject x y) h v e within =
          let z = first (meaning (program items) n x) _ v e in
          let y' = first (meaning (program items) n y) _ v z.2 in
          both_mean (shapes_in s x) (shapes_in s y) within (shapes_mean n g x (and_left (neat x) (neat y) h) z.0 z.1) (shapes_mean n g y (and_right (neat x) (neat y) h) y'.0 y'.1)
      shapes_mean n g (t.SChoose x y w) h v e within =
          let a = first (meaning (program items) n x) _ v e in
          let b = first (meaning (program items) n y) _ v a.2 in
          let c = first (meaning (program items) n w) _ v b.2 in
          let rest = and_right (neat x) (neat y && neat w) h in
          both_mean (shapes_in s x) (shapes_in s y ++ shapes_in s w) within (shapes_mean n g x (and_left (neat x) (neat y && neat w) h) a.0 a.1)
          (λ more. both_mean (shapes_in s y) (shapes_in s w) more (shapes_mean n g y (and_left (neat y) (neat w) rest) b.0 b.1) (shapes_mean n g w (and_right (neat y) (neat w) rest) c.0 c.1))
      shapes_mean n g (t.SClaims x xs) h v e within =
          let z = row_first (meaning (program items) n x) is_claim (all_mean (program items) n xs) v e in
          both_mean (shapes_in s x) (conjunct_shapes s xs) within (shapes_mean n g x (and_left (neat x) (row_plain xs) h) z.0 z.1) (conjuncts_mean n g xs (and_right (neat x) (row_plain xs) h) z.2)
      shapes_mean n g (t.SForAll i ty x y) h v e within =
          let z = first (meaning (program items) n x) _ v e in
          let y' = first (meaning (program items) (with_bound ty n) y) _ v z.2 in
          let parts = and_right (is_ref_type ty) (neat x && neat y) h in
          let inner = agree_bound s n g ty (ref_sort ty (and_left (is_ref_type ty) (neat x && neat y) h)) in
          both_mean (shapes_in s x) (shapes_in s y) within (shapes_mean n g x (and_left (neat x) (neat y) parts) z.0 z.1) (shapes_mean (with_bound ty n) inner y (and_right (neat x) (neat y) parts) y'.0 y'.1)
      shapes_mean n g (t.SExists i ty x ys) h v e within =
          let z = row_first (meaning (program items) n x) is_pointer (all_mean (program items) (with_bound ty n) ys) v e in
          let parts = and_right (is_ref_type ty) (neat x && all_neat ys) h in
          let inner = agree_bound s n g ty (ref_sort ty (and_left (is_ref_type ty) (neat x && all_neat ys) h)) in
          both_mean (shapes_in s x) (all_shapes s ys) within (shapes_mean n g x (and_left (neat x) (all_neat ys) parts) z.0 z.1) (row_means (with_bound ty n) inner ys (and_right (neat x) (all_neat ys) parts) z.2)
      shapes_mean n g (t.SClaimsOnly i x ys) h v e within =
          let z = row_first (meaning (program items) n x) is_claim (all_refer (program items) n ys) v e in
          both_mean (shapes_in s x) (all_shapes s ys) within (shapes_mean n g x (and_left (neat x) (all_neat ys) h) z.0 z.1) (row_means n g ys (and_right (neat x) (all_neat ys) h) (refer_mean (program items) n ys z.2))
      shapes_mean n g _ h v e within = none_mean

      row_means : (n : Names) → Agree s n → (ws : Specs) → IsTrue (all_neat ws) → all_mean (program items) n ws ≡ true → Within (all_shapes s ws) → HaveMeaning (all_shapes s ws)
      row_means n g Stop h e within = none_mean
      row_means n g (With x xs) h e within =
          let z = given (meaning (program items) n x) (and_left (is_some (meaning (program items) n x)) (all_mean (program items) n xs) e) in
          both_mean (shapes_in s x) (all_shapes s xs) within (shapes_mean n g x (and_left (neat x) (all_neat xs) h) z.0 z.1) (row_means n g xs (and_right (neat x) (all_neat xs) h) (and_right (is_some (meaning (program items) n x)) (all_mean (program items) n xs) e))

      conjuncts_mean : (n : Names) → Agree s n → (ws : Specs) → IsTrue (row_plain ws) → all_mean (program items) n ws ≡ true → Within (conjunct_shapes s ws) → HaveMeaning (conjunct_shapes s ws)
      conjuncts_mean n g Stop h e within = none_mean
      conjuncts_mean n g (With (t.SLists x) xs) h e within =
          let z = given (meaning (program items) n (t.SLists x)) (and_left (is_some (meaning (program items) n (t.SLists x))) (all_mean (program items) n xs) e) in
          let y = first (meaning (program items) n x) _ z.0 z.1 in
          both_mean (shapes_in s x) (conjunct_shapes s xs) within (shapes_mean n g x (plain_neat x (and_left (plain x) (row_plain xs) h)) y.0 y.1) (conjuncts_mean n g xs (and_right (plain x) (row_plain xs) h) (and_right (is_some (meaning (program items) n (t.SLists x))) (all_mean (program items) n xs) e))
      conjuncts_mean n g (With x xs) h e within =
          let own = and_left (plain x) (row_plain xs) h in
          let z = given (meaning (program items) n x) (and_left (is_some (meaning (program items) n x)) (all_mean (program items) n xs) e) in
          both_mean (shape s x ∷ shapes_in s x) (conjunct_shapes s xs) within (conjunct_means n g x own z.0 z.1 (shapes_mean n g x (plain_neat x own) z.0 z.1))
          (conjuncts_mean n g xs (and_right (plain x) (row_plain xs) h) (and_right (is_some (meaning (program items) n x)) (all_mean (program items) n xs) e))

    -- the conjuncts of a claim's property
    pub property_means : (n : Names) → Agree s n → (ws : List Spec) → IsTrue (every (λ w. plain w && is_some (meaning (program items) n w)) ws) → Within (property_shapes s ws) → HaveMeaning (property_shapes s ws)
    property_means n g [] h within = none_mean
    property_means n g (w ∷ ws) h within =
        let own = and_left (plain w && is_some (meaning (program items) n w)) (every (λ w. plain w && is_some (meaning (program items) n w)) ws) h in
        let flat = and_left (plain w) (is_some (meaning (program items) n w)) own in
        let z = given (meaning (program items) n w) (and_right (plain w) (is_some (meaning (program items) n w)) own) in
        both_mean (shape s w ∷ shapes_in s w) (property_shapes s ws) within (conjunct_means n g w flat z.0 z.1 (shapes_mean n g w (plain_neat w flat) z.0 z.1))
        (property_means n g ws (and_right (plain w && is_some (meaning (program items) n w)) (every (λ w. plain w && is_some (meaning (program items) n w)) ws) h))

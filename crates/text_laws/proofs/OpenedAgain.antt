-- A plain conjunct that is opened has as many holes, and is the same where it is opened again.
use Rattle.std.proofs.Common.{◌≡◌, ℕ, ◌+◌, true, ◌&&◌, List, ◌++◌, length, refl, sym, ap, ◌∙◌}
use Rattle.std.proofs.lemmas.Bool.{and_parts}
use Rattle.conditions.proofs.Ways.{length_both}
use Rattle.typed_program.specs.Trees as t
use Rattle.typed_program.specs.Shapes.{holes, all_holes, size, opened, all_opened}
use Rattle.typed_laws.proofs.Numbered.{plain, row_plain}

same_length : {A : Type 0} (xs ys us vs : List A) → length xs ≡ length us → length ys ≡ length vs → length (xs ++ ys) ≡ length (us ++ vs)
same_length xs ys us vs h j = length_both xs ys ∙ ((λ i. h i + j i) ∙ sym (length_both us vs))

mutual
  pub same_size : (k : ℕ) (w : t.Spec) → plain w ≡ true → size (opened k w) ≡ size w
  same_size k (t.SNumber z) h = refl
  same_size k (t.STruth b) h = refl
  same_size k t.SNull h = refl
  same_size k (t.SVariable i) h = refl
  same_size k (t.SBound i) h = refl
  same_size k t.SThis h = refl
  same_size k t.SMe h = refl
  same_size k t.SResult h = refl
  same_size k (t.SField x i) h = same_size k x h
  same_size k (t.SClosed x) h = same_size k x h
  same_size k (t.SOwner x) h = same_size k x h
  same_size k (t.SClaimCount x) h = same_size k x h
  same_size k (t.SNot x) h = same_size k x h
  same_size k (t.SNegate x) h = same_size k x h
  same_size k (t.SLists x) h = same_size k x h
  same_size k (t.SMember x y) h = let c = and_parts (plain x) (plain y) h in same_length (holes (opened k x)) (holes (opened (k + size x) y)) (holes x) (holes y) (same_size k x c.0) (same_size (k + size x) y c.1)
  same_size k (t.SArithmetic o x y) h = let c = and_parts (plain x) (plain y) h in same_length (holes (opened k x)) (holes (opened (k + size x) y)) (holes x) (holes y) (same_size k x c.0) (same_size (k + size x) y c.1)
  same_size k (t.SCompare o x y) h = let c = and_parts (plain x) (plain y) h in same_length (holes (opened k x)) (holes (opened (k + size x) y)) (holes x) (holes y) (same_size k x c.0) (same_size (k + size x) y c.1)
  same_size k (t.SAnd x y) h = let c = and_parts (plain x) (plain y) h in same_length (holes (opened k x)) (holes (opened (k + size x) y)) (holes x) (holes y) (same_size k x c.0) (same_size (k + size x) y c.1)
  same_size k (t.SOr x y) h = let c = and_parts (plain x) (plain y) h in same_length (holes (opened k x)) (holes (opened (k + size x) y)) (holes x) (holes y) (same_size k x c.0) (same_size (k + size x) y c.1)
  same_size k (t.SImplies x y) h = let c = and_parts (plain x) (plain y) h in same_length (holes (opened k x)) (holes (opened (k + size x) y)) (holes x) (holes y) (same_size k x c.0) (same_size (k + size x) y c.1)
  same_size k (t.SIff x y) h = let c = and_parts (plain x) (plain y) h in same_length (holes (opened k x)) (holes (opened (k + size x) y)) (holes x) (holes y) (same_size k x c.0) (same_size (k + size x) y c.1)
  same_size k (t.SClaimsObject x y) h = let c = and_parts (plain x) (plain y) h in same_length (holes (opened k x)) (holes (opened (k + size x) y)) (holes x) (holes y) (same_size k x c.0) (same_size (k + size x) y c.1)
  same_size k (t.SChoose x y z) h =
      let c = and_parts (plain x) (plain y && plain z) h in
      let d = and_parts (plain y) (plain z) c.1 in
      same_length (holes (opened k x)) (holes (opened (k + size x) y) ++ holes (opened (k + (size x + size y)) z)) (holes x) (holes y ++ holes z) (same_size k x c.0)
      (same_length (holes (opened (k + size x) y)) (holes (opened (k + (size x + size y)) z)) (holes y) (holes z) (same_size (k + size x) y d.0) (same_size (k + (size x + size y)) z d.1))
  same_size k (t.SClaims x xs) h = let c = and_parts (plain x) (row_plain xs) h in same_length (holes (opened k x)) (all_holes (all_opened (k + size x) xs)) (holes x) (all_holes xs) (same_size k x c.0) (same_row_size (k + size x) xs c.1)
  same_size k (t.SOld x) h = absurd (cc)
  same_size k (t.SUnchanged x) h = absurd (cc)
  same_size k (t.SWrapped x) h = absurd (cc)
  same_size k (t.SWrapped0 x) h = absurd (cc)
  same_size k (t.SMutable x) h = absurd (cc)
  same_size k (t.SFresh x) h = absurd (cc)
  same_size k (t.SHas c) h = absurd (cc)
  same_size k (t.SForAll i ty x y) h = absurd (cc)
  same_size k (t.SExists i ty x ys) h = absurd (cc)
  same_size k (t.SClaimsOnly i x ys) h = absurd (cc)

  same_row_size : (k : ℕ) (ws : t.Specs) → row_plain ws ≡ true → length (all_holes (all_opened k ws)) ≡ length (all_holes ws)
  same_row_size k t.Stop h = refl
  same_row_size k (t.With x xs) h = let c = and_parts (plain x) (row_plain xs) h in same_length (holes (opened k x)) (all_holes (all_opened (k + size x) xs)) (holes x) (all_holes xs) (same_size k x c.0) (same_row_size (k + size x) xs c.1)

behind : (j k : ℕ) (x : t.Spec) → plain x ≡ true → (y : t.Spec) → opened (j + size x) (opened (k + size x) y) ≡ opened (j + size x) y → opened (j + size (opened k x)) (opened (k + size x) y) ≡ opened (j + size x) y
behind j k x g y e = ap (λ n. opened (j + n) (opened (k + size x) y)) (same_size k x g) ∙ e

row_behind : (j k : ℕ) (x : t.Spec) → plain x ≡ true → (ys : t.Specs) → all_opened (j + size x) (all_opened (k + size x) ys) ≡ all_opened (j + size x) ys → all_opened (j + size (opened k x)) (all_opened (k + size x) ys) ≡ all_opened (j + size x) ys
row_behind j k x g ys e = ap (λ n. all_opened (j + n) (all_opened (k + size x) ys)) (same_size k x g) ∙ e

mutual
  pub opened_again : (j k : ℕ) (w : t.Spec) → plain w ≡ true → opened j (opened k w) ≡ opened j w
  opened_again j k (t.SNumber z) h = refl
  opened_again j k (t.STruth b) h = refl
  opened_again j k t.SNull h = refl
  opened_again j k (t.SVariable i) h = refl
  opened_again j k (t.SBound i) h = refl
  opened_again j k t.SThis h = refl
  opened_again j k t.SMe h = refl
  opened_again j k t.SResult h = refl
  opened_again j k (t.SField x i) h = λ u. t.SField (opened_again j k x h u) i
  opened_again j k (t.SClosed x) h = λ u. t.SClosed (opened_again j k x h u)
  opened_again j k (t.SOwner x) h = λ u. t.SOwner (opened_again j k x h u)
  opened_again j k (t.SClaimCount x) h = λ u. t.SClaimCount (opened_again j k x h u)
  opened_again j k (t.SNot x) h = λ u. t.SNot (opened_again j k x h u)
  opened_again j k (t.SNegate x) h = λ u. t.SNegate (opened_again j k x h u)
  opened_again j k (t.SLists x) h = λ u. t.SLists (opened_again j k x h u)
  opened_again j k (t.SMember x y) h = let c = and_parts (plain x) (plain y) h in λ u. t.SMember (opened_again j k x c.0 u) (behind j k x c.0 y (opened_again (j + size x) (k + size x) y c.1) u)
  opened_again j k (t.SArithmetic o x y) h = let c = and_parts (plain x) (plain y) h in λ u. t.SArithmetic o (opened_again j k x c.0 u) (behind j k x c.0 y (opened_again (j + size x) (k + size x) y c.1) u)
  opened_again j k (t.SCompare o x y) h = let c = and_parts (plain x) (plain y) h in λ u. t.SCompare o (opened_again j k x c.0 u) (behind j k x c.0 y (opened_again (j + size x) (k + size x) y c.1) u)
  opened_again j k (t.SAnd x y) h = let c = and_parts (plain x) (plain y) h in λ u. t.SAnd (opened_again j k x c.0 u) (behind j k x c.0 y (opened_again (j + size x) (k + size x) y c.1) u)
  opened_again j k (t.SOr x y) h = let c = and_parts (plain x) (plain y) h in λ u. t.SOr (opened_again j k x c.0 u) (behind j k x c.0 y (opened_again (j + size x) (k + size x) y c.1) u)
  opened_again j k (t.SImplies x y) h = let c = and_parts (plain x) (plain y) h in λ u. t.SImplies (opened_again j k x c.0 u) (behind j k x c.0 y (opened_again (j + size x) (k + size x) y c.1) u)
  opened_again j k (t.SIff x y) h = let c = and_parts (plain x) (plain y) h in λ u. t.SIff (opened_again j k x c.0 u) (behind j k x c.0 y (opened_again (j + size x) (k + size x) y c.1) u)
  opened_again j k (t.SClaimsObject x y) h = let c = and_parts (plain x) (plain y) h in λ u. t.SClaimsObject (opened_again j k x c.0 u) (behind j k x c.0 y (opened_again (j + size x) (k + size x) y c.1) u)
  opened_again j k (t.SChoose x y z) h =
      let c = and_parts (plain x) (plain y && plain z) h in
      let d = and_parts (plain y) (plain z) c.1 in
      let last : opened (j + (size (opened k x) + size (opened (k + size x) y))) (opened (k + (size x + size y)) z) ≡ opened (j + (size x + size y)) z =
      (λ u. opened (j + (same_size k x c.0 u + same_size (k + size x) y d.0 u)) (opened (k + (size x + size y)) z)) ∙ opened_again (j + (size x + size y)) (k + (size x + size y)) z d.1 in
      λ u. t.SChoose (opened_again j k x c.0 u) (behind j k x c.0 y (opened_again (j + size x) (k + size x) y d.0) u) (last u)
  opened_again j k (t.SClaims x xs) h = let c = and_parts (plain x) (row_plain xs) h in λ u. t.SClaims (opened_again j k x c.0 u) (row_behind j k x c.0 xs (row_again (j + size x) (k + size x) xs c.1) u)
  opened_again j k (t.SOld x) h = absurd (cc)
  opened_again j k (t.SUnchanged x) h = absurd (cc)
  opened_again j k (t.SWrapped x) h = absurd (cc)
  opened_again j k (t.SWrapped0 x) h = absurd (cc)
  opened_again j k (t.SMutable x) h = absurd (cc)
  opened_again j k (t.SFresh x) h = absurd (cc)
  opened_again j k (t.SHas c) h = absurd (cc)
  opened_again j k (t.SForAll i ty x y) h = absurd (cc)
  opened_again j k (t.SExists i ty x ys) h = absurd (cc)
  opened_again j k (t.SClaimsOnly i x ys) h = absurd (cc)

  pub row_again : (j k : ℕ) (ws : t.Specs) → row_plain ws ≡ true → all_opened j (all_opened k ws) ≡ all_opened j ws
  row_again j k t.Stop h = refl
  row_again j k (t.With x xs) h = let c = and_parts (plain x) (row_plain xs) h in λ u. t.With (opened_again j k x c.0 u) (row_behind j k x c.0 xs (row_again (j + size x) (k + size x) xs c.1) u)

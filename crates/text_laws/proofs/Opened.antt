-- A plain conjunct stands for the same where it is opened: its holes are variables of the types of what filled them.
use Rattle.std.proofs.Common.{◌≡◌, ℕ, suc, ◌+◌, true, ◌&&◌, ◌||◌, List, [], ◌∷◌, ◌++◌, length, Option, Some, None, slice_get, is_some, refl, ap, subst, ◌∙◌, arith}
use Rattle.std.proofs.lemmas.Bool.{and_parts}
use Rattle.method.specs.declared.program.DeclaredType.TheVariants.{Object}
use Rattle.method.specs.declared.program.Hole.{Hole}
use Rattle.method.specs.Typing.{compares_refs, and_then}
use Rattle.typed_program.specs.Trees as t
use Rattle.typed_program.specs.Trees.{Spec, Specs, Stop, With, VariableInfo, Program}
use Rattle.typed_program.specs.Shapes.{holes, all_holes, size, opened, all_opened}
use Rattle.typed_laws.specs.Fits.{Meant, Whole, Referred, Names, is_whole, is_reference, is_pointer, is_claim, both, only_if, joined, field_meant, option_meant, variable_type, hole_type, meaning, all_mean}
use Rattle.typed_laws.proofs.Numbered.{plain, row_plain}

-- the names of a conjunct that is opened: its holes' variables alone
abbrev pub opened_names : List VariableInfo → Names
opened_names vs = record { variables = vs; bound = []; this = None; result = None }

pair : {a b c d : Option Meant} (f : Meant → Meant → Option Meant) → a ≡ b → c ≡ d → and_then a (λ v. and_then c (λ w. f v w)) ≡ and_then b (λ v. and_then d (λ w. f v w))
pair f h j = λ i. and_then (h i) (λ v. and_then (j i) (λ w. f v w))

module _ (R : ℕ → Hole → Type 0) where
  -- R holds of each hole and its number, of which the first is k
  abbrev pub EachHole : ℕ → List Hole → Type 0
  EachHole k [] = Unit {0}
  EachHole k (h ∷ hs) = R k h × EachHole (suc k) hs

  pub holes_left : (k : ℕ) (xs ys : List Hole) → EachHole k (xs ++ ys) → EachHole k xs
  holes_left k [] ys h = tt
  holes_left k (x ∷ xs) ys h = (h.0, holes_left (suc k) xs ys h.1)

  pub holes_right : (k : ℕ) (xs ys : List Hole) → EachHole k (xs ++ ys) → EachHole (k + length xs) ys
  holes_right k [] ys h = subst (λ j. EachHole j ys) (zero_behind k) h
    where
      zero_behind : (k : ℕ) → k ≡ k + 0
      zero_behind k = grind (arith)
  holes_right k (x ∷ xs) ys h = subst (λ j. EachHole j ys) (one_behind k (length xs)) (holes_right (suc k) xs ys h.1)
    where
      one_behind : (k m : ℕ) → suc k + m ≡ k + suc m
      one_behind k m = grind (arith)

  -- of three parts the last
  pub holes_last : (k a b : ℕ) (hs : List Hole) → EachHole ((k + a) + b) hs → EachHole (k + (a + b)) hs
  holes_last k a b hs g = subst (λ j. EachHole j hs) (three k a b) g
    where
      three : (k a b : ℕ) → (k + a) + b ≡ k + (a + b)
      three k a b = grind (arith)

module _ (p : Program) (n : Names) (vs : List VariableInfo) where
  -- the variable with this number is of the type of what fills the hole
  abbrev IsFilled : ℕ → Hole → Type 0
  IsFilled k h = variable_type (slice_get vs k) ≡ hole_type n h

  -- and so are the variables from number k
  abbrev pub Filled : ℕ → List Hole → Type 0
  Filled k hs = EachHole IsFilled k hs

  abbrev m : Names
  m = opened_names vs

  mutual
    pub opened_means : (k : ℕ) (w : Spec) → plain w ≡ true → Filled k (holes w) → meaning p m (opened k w) ≡ meaning p n w
    opened_means k (t.SNumber z) h g = refl
    opened_means k (t.STruth b) h g = refl
    opened_means k t.SNull h g = refl
    opened_means k (t.SVariable i) h g = ap option_meant g.0
    opened_means k (t.SBound i) h g = ap option_meant g.0
    opened_means k t.SThis h g = ap option_meant g.0
    opened_means k t.SMe h g = ap option_meant g.0
    opened_means k t.SResult h g = ap option_meant g.0
    opened_means k (t.SField x i) h g = ap (λ o. and_then o (λ v. field_meant v (slice_get p.fields i))) (opened_means k x h g)
    opened_means k (t.SClosed x) h g = ap (λ o. and_then o (λ v. only_if (is_pointer v) Whole)) (opened_means k x h g)
    opened_means k (t.SOwner x) h g = ap (λ o. and_then o (λ v. only_if (is_pointer v) (Referred Object))) (opened_means k x h g)
    opened_means k (t.SClaimCount x) h g = ap (λ o. and_then o (λ v. only_if (is_pointer v) Whole)) (opened_means k x h g)
    opened_means k (t.SNot x) h g = ap (λ o. and_then o (λ v. Some Whole)) (opened_means k x h g)
    opened_means k (t.SNegate x) h g = ap (λ o. and_then o (λ v. only_if (is_whole v) Whole)) (opened_means k x h g)
    opened_means k (t.SLists x) h g = ap (λ o. and_then o (λ v. only_if (is_pointer v) Whole)) (opened_means k x h g)
    opened_means k (t.SMember x y) h g = let c = and_parts (plain x) (plain y) h in pair (λ v w. only_if (is_reference v && is_pointer w) Whole) (opened_means k x c.0 (holes_left IsFilled k (holes x) (holes y) g)) (opened_means (k + size x) y c.1 (holes_right IsFilled k (holes x) (holes y) g))
    opened_means k (t.SArithmetic o x y) h g = let c = and_parts (plain x) (plain y) h in pair (λ v w. only_if (both is_whole v w) Whole) (opened_means k x c.0 (holes_left IsFilled k (holes x) (holes y) g)) (opened_means (k + size x) y c.1 (holes_right IsFilled k (holes x) (holes y) g))
    opened_means k (t.SCompare o x y) h g = let c = and_parts (plain x) (plain y) h in pair (λ v w. only_if (both is_whole v w || (compares_refs o && both is_reference v w)) Whole) (opened_means k x c.0 (holes_left IsFilled k (holes x) (holes y) g)) (opened_means (k + size x) y c.1 (holes_right IsFilled k (holes x) (holes y) g))
    opened_means k (t.SAnd x y) h g = let c = and_parts (plain x) (plain y) h in pair (λ v w. Some Whole) (opened_means k x c.0 (holes_left IsFilled k (holes x) (holes y) g)) (opened_means (k + size x) y c.1 (holes_right IsFilled k (holes x) (holes y) g))
    opened_means k (t.SOr x y) h g = let c = and_parts (plain x) (plain y) h in pair (λ v w. Some Whole) (opened_means k x c.0 (holes_left IsFilled k (holes x) (holes y) g)) (opened_means (k + size x) y c.1 (holes_right IsFilled k (holes x) (holes y) g))
    opened_means k (t.SImplies x y) h g = let c = and_parts (plain x) (plain y) h in pair (λ v w. Some Whole) (opened_means k x c.0 (holes_left IsFilled k (holes x) (holes y) g)) (opened_means (k + size x) y c.1 (holes_right IsFilled k (holes x) (holes y) g))
    opened_means k (t.SIff x y) h g = let c = and_parts (plain x) (plain y) h in pair (λ v w. Some Whole) (opened_means k x c.0 (holes_left IsFilled k (holes x) (holes y) g)) (opened_means (k + size x) y c.1 (holes_right IsFilled k (holes x) (holes y) g))
    opened_means k (t.SClaimsObject x y) h g = let c = and_parts (plain x) (plain y) h in pair (λ v w. only_if (is_claim v && is_reference w) Whole) (opened_means k x c.0 (holes_left IsFilled k (holes x) (holes y) g)) (opened_means (k + size x) y c.1 (holes_right IsFilled k (holes x) (holes y) g))
    opened_means k (t.SChoose x y z) h g =
        let c = and_parts (plain x) (plain y && plain z) h in
        let d = and_parts (plain y) (plain z) c.1 in
        let rest = holes_right IsFilled k (holes x) (holes y ++ holes z) g in
        let one = opened_means k x c.0 (holes_left IsFilled k (holes x) (holes y ++ holes z) g) in
        let two = opened_means (k + size x) y d.0 (holes_left IsFilled (k + size x) (holes y) (holes z) rest) in
        let last = opened_means (k + (size x + size y)) z d.1 (holes_last IsFilled k (size x) (size y) (holes z) (holes_right IsFilled (k + size x) (holes y) (holes z) rest)) in
        ap (λ o. and_then o (λ u. and_then (meaning p m (opened (k + size x) y)) (λ v. and_then (meaning p m (opened (k + (size x + size y)) z)) (λ w. joined v w)))) one
        ∙ (ap (λ o. and_then (meaning p n x) (λ u. and_then o (λ v. and_then (meaning p m (opened (k + (size x + size y)) z)) (λ w. joined v w)))) two
        ∙ ap (λ o. and_then (meaning p n x) (λ u. and_then (meaning p n y) (λ v. and_then o (λ w. joined v w)))) last)
    opened_means k (t.SClaims x xs) h g =
        let c = and_parts (plain x) (row_plain xs) h in
        ap (λ o. and_then o (λ v. only_if (is_claim v && all_mean p m (all_opened (k + size x) xs)) Whole)) (opened_means k x c.0 (holes_left IsFilled k (holes x) (all_holes xs) g))
        ∙ ap (λ b. and_then (meaning p n x) (λ v. only_if (is_claim v && b) Whole)) (all_opened_mean (k + size x) xs c.1 (holes_right IsFilled k (holes x) (all_holes xs) g))
    opened_means k (t.SOld x) h g = absurd (cc)
    opened_means k (t.SUnchanged x) h g = absurd (cc)
    opened_means k (t.SWrapped x) h g = absurd (cc)
    opened_means k (t.SWrapped0 x) h g = absurd (cc)
    opened_means k (t.SMutable x) h g = absurd (cc)
    opened_means k (t.SFresh x) h g = absurd (cc)
    opened_means k (t.SHas c) h g = absurd (cc)
    opened_means k (t.SForAll i ty x y) h g = absurd (cc)
    opened_means k (t.SExists i ty x ys) h g = absurd (cc)
    opened_means k (t.SClaimsOnly i x ys) h g = absurd (cc)

    pub all_opened_mean : (k : ℕ) (ws : Specs) → row_plain ws ≡ true → Filled k (all_holes ws) → all_mean p m (all_opened k ws) ≡ all_mean p n ws
    all_opened_mean k Stop h g = refl
    all_opened_mean k (With x xs) h g =
        let c = and_parts (plain x) (row_plain xs) h in
        ap (λ o. is_some o && all_mean p m (all_opened (k + size x) xs)) (opened_means k x c.0 (holes_left IsFilled k (holes x) (all_holes xs) g))
        ∙ ap (λ b. is_some (meaning p n x) && b) (all_opened_mean (k + size x) xs c.1 (holes_right IsFilled k (holes x) (all_holes xs) g))

-- The conjuncts of shapes hold no quantifier, so no quantified formulas stand in them.
use Rattle.std.proofs.Common.{◌≡◌, ℕ, ◌+◌, Bool, true, false, ◌&&◌, if◌then◌else◌, List, [], ◌∷◌, ◌++◌, Contains, refl, ap, subst, ◌∙◌, inl, inr}
use Rattle.std.specs.List.{list_any}
use Rattle.std.proofs.lemmas.Bool.{and_parts, and_from}
use Rattle.method.specs.declared.program.Shape.{Shape}
use Rattle.method.specs.declared.program.Spec.{Spec, Row_of-Spec, end_of-Spec, more_of-Spec}
use Rattle.method.specs.declared.program.Spec.TheVariants as s
use Rattle.method.specs.declared.program.Program.{Program}
use Rattle.method.specs.declared.program.Sort.TheVariants.{IntSort}
use Rattle.conditions.specs.Formulas.{heap}
use Rattle.conditions.specs.Annotations.{Scene, old_scene, claim_scene}
use Rattle.conditions.specs.Quantified.{spec_quantifiers, row_quantifiers}
use Rattle.condition_meaning.specs.Annotated.{is_empty}
use Rattle.condition_meaning.specs.Languages.{hole_constants}
use Rattle.typed_program.specs.Trees as t
use Rattle.typed_program.specs.Views as seen
use Rattle.typed_program.specs.Shapes.{Sorts, size, opened, all_opened, shape, same_shape, first_ones, numbered, numbered_conjuncts, table_shape}
use Rattle.typed_laws.proofs.Basics.{contains_head, contains_tail, contains_cases}
use Rattle.typed_laws.proofs.Numbered.{plain, row_plain}

-- no quantifier stands in it
abbrev mutual
  pub is_quantifier_free : t.Spec → Bool
  is_quantifier_free (t.SField x i) = is_quantifier_free x
  is_quantifier_free (t.SClosed x) = is_quantifier_free x
  is_quantifier_free (t.SOwner x) = is_quantifier_free x
  is_quantifier_free (t.SClaimCount x) = is_quantifier_free x
  is_quantifier_free (t.SNot x) = is_quantifier_free x
  is_quantifier_free (t.SNegate x) = is_quantifier_free x
  is_quantifier_free (t.SOld x) = is_quantifier_free x
  is_quantifier_free (t.SUnchanged x) = is_quantifier_free x
  is_quantifier_free (t.SWrapped x) = is_quantifier_free x
  is_quantifier_free (t.SWrapped0 x) = is_quantifier_free x
  is_quantifier_free (t.SMutable x) = is_quantifier_free x
  is_quantifier_free (t.SFresh x) = is_quantifier_free x
  is_quantifier_free (t.SLists x) = is_quantifier_free x
  is_quantifier_free (t.SMember x y) = is_quantifier_free x && is_quantifier_free y
  is_quantifier_free (t.SArithmetic o x y) = is_quantifier_free x && is_quantifier_free y
  is_quantifier_free (t.SCompare o x y) = is_quantifier_free x && is_quantifier_free y
  is_quantifier_free (t.SAnd x y) = is_quantifier_free x && is_quantifier_free y
  is_quantifier_free (t.SOr x y) = is_quantifier_free x && is_quantifier_free y
  is_quantifier_free (t.SImplies x y) = is_quantifier_free x && is_quantifier_free y
  is_quantifier_free (t.SIff x y) = is_quantifier_free x && is_quantifier_free y
  is_quantifier_free (t.SClaimsObject x y) = is_quantifier_free x && is_quantifier_free y
  is_quantifier_free (t.SChoose x y z) = is_quantifier_free x && (is_quantifier_free y && is_quantifier_free z)
  is_quantifier_free (t.SClaims x xs) = is_quantifier_free x && are_quantifier_free xs
  is_quantifier_free (t.SForAll n ty x y) = false
  is_quantifier_free (t.SExists n ty x ys) = false
  is_quantifier_free (t.SClaimsOnly n x ys) = false
  is_quantifier_free _ = true

  pub are_quantifier_free : t.Specs → Bool
  are_quantifier_free t.Stop = true
  are_quantifier_free (t.With x xs) = is_quantifier_free x && are_quantifier_free xs

-- a plain conjunct has none where it is opened and the conjuncts in it are numbered
mutual
  pub plain_quantifier_free : (l : List t.Shape) (s : Sorts) (k : ℕ) (w : t.Spec) → plain w ≡ true → is_quantifier_free (numbered l s (opened k w)) ≡ true
  plain_quantifier_free l s k (t.SField x i) h = plain_quantifier_free l s k x h
  plain_quantifier_free l s k (t.SClosed x) h = plain_quantifier_free l s k x h
  plain_quantifier_free l s k (t.SOwner x) h = plain_quantifier_free l s k x h
  plain_quantifier_free l s k (t.SClaimCount x) h = plain_quantifier_free l s k x h
  plain_quantifier_free l s k (t.SNot x) h = plain_quantifier_free l s k x h
  plain_quantifier_free l s k (t.SNegate x) h = plain_quantifier_free l s k x h
  plain_quantifier_free l s k (t.SLists x) h = plain_quantifier_free l s k x h
  plain_quantifier_free l s k (t.SMember x y) h = let c = and_parts (plain x) (plain y) h in and_from _ _ (plain_quantifier_free l s k x c.0) (plain_quantifier_free l s (k + size x) y c.1)
  plain_quantifier_free l s k (t.SArithmetic o x y) h = let c = and_parts (plain x) (plain y) h in and_from _ _ (plain_quantifier_free l s k x c.0) (plain_quantifier_free l s (k + size x) y c.1)
  plain_quantifier_free l s k (t.SCompare o x y) h = let c = and_parts (plain x) (plain y) h in and_from _ _ (plain_quantifier_free l s k x c.0) (plain_quantifier_free l s (k + size x) y c.1)
  plain_quantifier_free l s k (t.SAnd x y) h = let c = and_parts (plain x) (plain y) h in and_from _ _ (plain_quantifier_free l s k x c.0) (plain_quantifier_free l s (k + size x) y c.1)
  plain_quantifier_free l s k (t.SOr x y) h = let c = and_parts (plain x) (plain y) h in and_from _ _ (plain_quantifier_free l s k x c.0) (plain_quantifier_free l s (k + size x) y c.1)
  plain_quantifier_free l s k (t.SImplies x y) h = let c = and_parts (plain x) (plain y) h in and_from _ _ (plain_quantifier_free l s k x c.0) (plain_quantifier_free l s (k + size x) y c.1)
  plain_quantifier_free l s k (t.SIff x y) h = let c = and_parts (plain x) (plain y) h in and_from _ _ (plain_quantifier_free l s k x c.0) (plain_quantifier_free l s (k + size x) y c.1)
  plain_quantifier_free l s k (t.SClaimsObject x y) h = let c = and_parts (plain x) (plain y) h in and_from _ _ (plain_quantifier_free l s k x c.0) (plain_quantifier_free l s (k + size x) y c.1)
  plain_quantifier_free l s k (t.SChoose x y z) h =
      let c = and_parts (plain x) (plain y && plain z) h in
      let d = and_parts (plain y) (plain z) c.1 in
      and_from _ _ (plain_quantifier_free l s k x c.0) (and_from _ _ (plain_quantifier_free l s (k + size x) y d.0) (plain_quantifier_free l s (k + (size x + size y)) z d.1))
  plain_quantifier_free l s k (t.SClaims x xs) h = let c = and_parts (plain x) (row_plain xs) h in and_from _ _ (plain_quantifier_free l s k x c.0) (row_quantifier_free l s (k + size x) xs c.1)
  plain_quantifier_free l s k (t.SNumber z) h = refl
  plain_quantifier_free l s k (t.STruth b) h = refl
  plain_quantifier_free l s k t.SNull h = refl
  plain_quantifier_free l s k (t.SVariable i) h = refl
  plain_quantifier_free l s k (t.SBound i) h = refl
  plain_quantifier_free l s k t.SThis h = refl
  plain_quantifier_free l s k t.SMe h = refl
  plain_quantifier_free l s k t.SResult h = refl
  plain_quantifier_free l s k (t.SOld x) h = absurd (cc)
  plain_quantifier_free l s k (t.SUnchanged x) h = absurd (cc)
  plain_quantifier_free l s k (t.SWrapped x) h = absurd (cc)
  plain_quantifier_free l s k (t.SWrapped0 x) h = absurd (cc)
  plain_quantifier_free l s k (t.SMutable x) h = absurd (cc)
  plain_quantifier_free l s k (t.SFresh x) h = absurd (cc)
  plain_quantifier_free l s k (t.SHas c) h = absurd (cc)
  plain_quantifier_free l s k (t.SForAll n ty x y) h = absurd (cc)
  plain_quantifier_free l s k (t.SExists n ty x ys) h = absurd (cc)
  plain_quantifier_free l s k (t.SClaimsOnly n x ys) h = absurd (cc)

  row_quantifier_free : (l : List t.Shape) (s : Sorts) (k : ℕ) (ws : t.Specs) → row_plain ws ≡ true → are_quantifier_free (numbered_conjuncts l s (all_opened k ws)) ≡ true
  row_quantifier_free l s k t.Stop h = refl
  row_quantifier_free l s k (t.With (t.SLists x) xs) h = let c = and_parts (plain x) (row_plain xs) h in and_from _ _ (plain_quantifier_free l s k x c.0) (row_quantifier_free l s (k + size x) xs c.1)
  row_quantifier_free l s k (t.With x xs) h = let c = and_parts (plain x) (row_plain xs) h in row_quantifier_free l s (k + size x) xs c.1

both_empty : {A : Type 0} (xs ys : List A) → xs ≡ [] → ys ≡ [] → xs ++ ys ≡ []
both_empty [] ys h j = j
both_empty (x ∷ xs) ys h j = absurd (cc)

module _ (p : Program) where
  mutual
    -- no quantified formulas stand in it
    pub no_formulas : (e : Spec) (x : Scene) → is_quantifier_free (seen.spec e) ≡ true → spec_quantifiers p e x ≡ []
    no_formulas (s.Number z) x h = refl
    no_formulas (s.Truth b) x h = refl
    no_formulas s.Null x h = refl
    no_formulas (s.Variable i) x h = refl
    no_formulas (s.Bound i) x h = refl
    no_formulas s.This x h = refl
    no_formulas s.Me x h = refl
    no_formulas s.Result x h = refl
    no_formulas (s.Has c) x h = refl
    no_formulas (s.Field' q e f) x h = no_formulas e x h
    no_formulas (s.Closed' q e) x h = no_formulas e x h
    no_formulas (s.Owner' q e) x h = no_formulas e x h
    no_formulas (s.ClaimCount' q e) x h = no_formulas e x h
    no_formulas (s.Not' q e) x h = no_formulas e x h
    no_formulas (s.Negate' q e) x h = no_formulas e x h
    no_formulas (s.Old' q e) x h = no_formulas e (old_scene x) h
    no_formulas (s.Unchanged' q e) x h = no_formulas e x h
    no_formulas (s.Wrapped' q e) x h = no_formulas e x h
    no_formulas (s.Wrapped0' q e) x h = no_formulas e x h
    no_formulas (s.Mutable' q e) x h = no_formulas e x h
    no_formulas (s.Fresh' q e) x h = no_formulas e x h
    no_formulas (s.Lists' q e) x h = no_formulas e x h
    no_formulas (s.Member' q a r b) x h = let c = and_parts (is_quantifier_free (seen.spec a)) (is_quantifier_free (seen.spec b)) h in both_empty (spec_quantifiers p a x) (spec_quantifiers p b x) (no_formulas a x c.0) (no_formulas b x c.1)
    no_formulas (s.Arithmetic' op q a r b) x h = let c = and_parts (is_quantifier_free (seen.spec a)) (is_quantifier_free (seen.spec b)) h in both_empty (spec_quantifiers p a x) (spec_quantifiers p b x) (no_formulas a x c.0) (no_formulas b x c.1)
    no_formulas (s.Compare' op q a r b) x h = let c = and_parts (is_quantifier_free (seen.spec a)) (is_quantifier_free (seen.spec b)) h in both_empty (spec_quantifiers p a x) (spec_quantifiers p b x) (no_formulas a x c.0) (no_formulas b x c.1)
    no_formulas (s.And' q a r b) x h = let c = and_parts (is_quantifier_free (seen.spec a)) (is_quantifier_free (seen.spec b)) h in both_empty (spec_quantifiers p a x) (spec_quantifiers p b x) (no_formulas a x c.0) (no_formulas b x c.1)
    no_formulas (s.Or' q a r b) x h = let c = and_parts (is_quantifier_free (seen.spec a)) (is_quantifier_free (seen.spec b)) h in both_empty (spec_quantifiers p a x) (spec_quantifiers p b x) (no_formulas a x c.0) (no_formulas b x c.1)
    no_formulas (s.Implies' q a r b) x h = let c = and_parts (is_quantifier_free (seen.spec a)) (is_quantifier_free (seen.spec b)) h in both_empty (spec_quantifiers p a x) (spec_quantifiers p b x) (no_formulas a x c.0) (no_formulas b x c.1)
    no_formulas (s.Iff' q a r b) x h = let c = and_parts (is_quantifier_free (seen.spec a)) (is_quantifier_free (seen.spec b)) h in both_empty (spec_quantifiers p a x) (spec_quantifiers p b x) (no_formulas a x c.0) (no_formulas b x c.1)
    no_formulas (s.ClaimsObject' q a r b) x h = let c = and_parts (is_quantifier_free (seen.spec a)) (is_quantifier_free (seen.spec b)) h in both_empty (spec_quantifiers p a x) (spec_quantifiers p b x) (no_formulas a x c.0) (no_formulas b x c.1)
    no_formulas (s.Choose' q a r b u d) x h =
        let c = and_parts (is_quantifier_free (seen.spec a)) (is_quantifier_free (seen.spec b) && is_quantifier_free (seen.spec d)) h in
        let g = and_parts (is_quantifier_free (seen.spec b)) (is_quantifier_free (seen.spec d)) c.1 in
        both_empty (spec_quantifiers p a x ++ spec_quantifiers p b x) (spec_quantifiers p d x) (both_empty (spec_quantifiers p a x) (spec_quantifiers p b x) (no_formulas a x c.0) (no_formulas b x g.0)) (no_formulas d x g.1)
    no_formulas (s.Claims' q a m row) x h =
        let c = and_parts (is_quantifier_free (seen.spec a)) (are_quantifier_free (seen.row row)) h in
        both_empty (spec_quantifiers p a x) (row_quantifiers p row x) (no_formulas a x c.0) (no_row_formulas row x c.1)
    no_formulas (s.ForAll' n ty q e r b) x h = absurd (cc)
    no_formulas (s.Exists' n ty q e m row) x h = absurd (cc)
    no_formulas (s.ClaimsOnly' n q c m row) x h = absurd (cc)

    pub no_row_formulas : {m : _} (row : Row_of-Spec m) (x : Scene) → are_quantifier_free (seen.row row) ≡ true → row_quantifiers p row x ≡ []
    no_row_formulas end_of-Spec x h = refl
    no_row_formulas (more_of-Spec e row) x h =
        let c = and_parts (is_quantifier_free (seen.spec e)) (are_quantifier_free (seen.row row)) h in
        both_empty (spec_quantifiers p e x) (row_quantifiers p row x) (no_formulas e x c.0) (no_row_formulas row x c.1)

-- ---- the table

-- each shape of the table stands in the text
pub first_of : (z : t.Shape) (earlier xs : List t.Shape) → Contains (first_ones earlier xs) z → Contains xs z
first_of z earlier [] c = c
first_of z earlier (x ∷ xs) c = by (list_any (same_shape x) earlier) c (λ d. first_of z earlier xs d) (λ d. first_of z (x ∷ earlier) xs d)
  where
    by : (b : Bool) → Contains (if b then first_ones earlier xs else x ∷ first_ones (x ∷ earlier) xs) z → (Contains (first_ones earlier xs) z → Contains xs z) → (Contains (first_ones (x ∷ earlier) xs) z → Contains xs z) → Contains (x ∷ xs) z
    by true d old new = contains_tail x z xs (old d)
    by false d old new = elim (contains_cases x z (first_ones (x ∷ earlier) xs) d) [ inl e ↦ subst (λ u. Contains (x ∷ xs) u) e (contains_head x xs) | inr g ↦ contains_tail x z xs (new g) ]

-- the shape of a plain conjunct has none
pub shape_has_no_quantifiers : (p : Program) (l : List t.Shape) (sh : Shape) (s : Sorts) (w : t.Spec) → plain w ≡ true → seen.shape sh ≡ table_shape l (shape s w)
    → is_empty (spec_quantifiers p sh.conjunct (claim_scene p (heap 0) (hole_constants 1 sh.holes.items))) ≡ true
shape_has_no_quantifiers p l sh s w flat same =
    let sorts : Sorts = record { variables = (shape s w).holes; value = IntSort } in
    let is : seen.spec sh.conjunct ≡ numbered l sorts (opened 0 w) = ap (λ (u : t.Shape). u.conjunct) same in
    ap is_empty (no_formulas p sh.conjunct (claim_scene p (heap 0) (hole_constants 1 sh.holes.items)) (ap is_quantifier_free is ∙ plain_quantifier_free l sorts 0 w flat))

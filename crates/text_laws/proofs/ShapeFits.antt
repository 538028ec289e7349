-- The shape of a plain conjunct that stands for something fits.
use Rattle.std.proofs.Common.{◌≡◌, ℕ, zero, suc, ◌+◌, true, false, ◌&&◌, nat_lt, List, [], ◌∷◌, map, Option, Some, None, slice_get, slice_index_or, is_some, Contains, unwrap_or, refl, sym, ap, ◌∙◌, arith}
use Rattle.std.proofs.lemmas.Bool.{and_parts, and_from}
use Rattle.std.proofs.lemmas.Option.{none-some}
use Rattle.object_types.specs.Sets.{every}
use Rattle.method.specs.declared.program.DeclaredType.{DeclaredType}
use Rattle.method.specs.declared.program.DeclaredType.TheVariants.{Integer, Pointer, Object, Claim}
use Rattle.method.specs.declared.program.Hole.{Hole}
use Rattle.method.specs.declared.program.Hole.TheVariants.{OfVariable, OfBound, OfMe, OfThis, OfResult}
use Rattle.method.specs.declared.program.Sort.TheVariants.{IntSort, RefSort}
use Rattle.method.specs.declared.program.Shape.{Shape}
use Rattle.method.specs.declared.program.Program.{Program}
use Rattle.conditions.specs.Formulas.{heap}
use Rattle.conditions.specs.Annotations.{symbolic_at, claim_scene}
use Rattle.condition_meaning.specs.Fits.{is_ref, is_ref_type}
use Rattle.condition_meaning.specs.Annotated.{fits, nothing_hidden}
use Rattle.condition_meaning.specs.Languages.{hole_constant, hole_constants}
use Rattle.typed_program.specs.Trees as t
use Rattle.typed_program.specs.Views as seen
use Rattle.typed_program.specs.Shapes.{Sorts, holes, size, opened, all_opened, sort_of, sort_of_type, shape, shapes_in, numbered, table_shape}
use Rattle.typed_laws.specs.Fits.{Names, variable_type, hole_type, meaning}
use Rattle.typed_laws.proofs.Numbered.{plain, row_plain, plain_neat, Agree, typed_hole, typed_holes, Seated, numbered_means}
use Rattle.text_laws.proofs.Order.{is_ordered}
use Rattle.text_laws.proofs.SourceOrder.{plain_ordered, numbered_ordered}
use Rattle.text_laws.proofs.Fitting.{Sorted, given, fits_by_meaning}
use Rattle.text_laws.proofs.Opened.{opened_names, Filled, opened_means}

mutual
  pub plain_opened : (k : ℕ) (w : t.Spec) → plain w ≡ true → plain (opened k w) ≡ true
  plain_opened k (t.SNumber z) h = refl
  plain_opened k (t.STruth b) h = refl
  plain_opened k t.SNull h = refl
  plain_opened k (t.SVariable i) h = refl
  plain_opened k (t.SBound i) h = refl
  plain_opened k t.SThis h = refl
  plain_opened k t.SMe h = refl
  plain_opened k t.SResult h = refl
  plain_opened k (t.SField x i) h = plain_opened k x h
  plain_opened k (t.SClosed x) h = plain_opened k x h
  plain_opened k (t.SOwner x) h = plain_opened k x h
  plain_opened k (t.SClaimCount x) h = plain_opened k x h
  plain_opened k (t.SNot x) h = plain_opened k x h
  plain_opened k (t.SNegate x) h = plain_opened k x h
  plain_opened k (t.SLists x) h = plain_opened k x h
  plain_opened k (t.SMember x y) h = let c = and_parts (plain x) (plain y) h in and_from _ _ (plain_opened k x c.0) (plain_opened (k + size x) y c.1)
  plain_opened k (t.SArithmetic o x y) h = let c = and_parts (plain x) (plain y) h in and_from _ _ (plain_opened k x c.0) (plain_opened (k + size x) y c.1)
  plain_opened k (t.SCompare o x y) h = let c = and_parts (plain x) (plain y) h in and_from _ _ (plain_opened k x c.0) (plain_opened (k + size x) y c.1)
  plain_opened k (t.SAnd x y) h = let c = and_parts (plain x) (plain y) h in and_from _ _ (plain_opened k x c.0) (plain_opened (k + size x) y c.1)
  plain_opened k (t.SOr x y) h = let c = and_parts (plain x) (plain y) h in and_from _ _ (plain_opened k x c.0) (plain_opened (k + size x) y c.1)
  plain_opened k (t.SImplies x y) h = let c = and_parts (plain x) (plain y) h in and_from _ _ (plain_opened k x c.0) (plain_opened (k + size x) y c.1)
  plain_opened k (t.SIff x y) h = let c = and_parts (plain x) (plain y) h in and_from _ _ (plain_opened k x c.0) (plain_opened (k + size x) y c.1)
  plain_opened k (t.SClaimsObject x y) h = let c = and_parts (plain x) (plain y) h in and_from _ _ (plain_opened k x c.0) (plain_opened (k + size x) y c.1)
  plain_opened k (t.SChoose x y z) h =
      let c = and_parts (plain x) (plain y && plain z) h in
      let d = and_parts (plain y) (plain z) c.1 in
      and_from _ _ (plain_opened k x c.0) (and_from _ _ (plain_opened (k + size x) y d.0) (plain_opened (k + (size x + size y)) z d.1))
  plain_opened k (t.SClaims x xs) h = let c = and_parts (plain x) (row_plain xs) h in and_from _ _ (plain_opened k x c.0) (row_opened (k + size x) xs c.1)
  plain_opened k (t.SOld x) h = absurd (cc)
  plain_opened k (t.SUnchanged x) h = absurd (cc)
  plain_opened k (t.SWrapped x) h = absurd (cc)
  plain_opened k (t.SWrapped0 x) h = absurd (cc)
  plain_opened k (t.SMutable x) h = absurd (cc)
  plain_opened k (t.SFresh x) h = absurd (cc)
  plain_opened k (t.SHas c) h = absurd (cc)
  plain_opened k (t.SForAll i ty x y) h = absurd (cc)
  plain_opened k (t.SExists i ty x ys) h = absurd (cc)
  plain_opened k (t.SClaimsOnly i x ys) h = absurd (cc)

  row_opened : (k : ℕ) (ws : t.Specs) → row_plain ws ≡ true → row_plain (all_opened k ws) ≡ true
  row_opened k t.Stop h = refl
  row_opened k (t.With x xs) h = let c = and_parts (plain x) (row_plain xs) h in and_from _ _ (plain_opened k x c.0) (row_opened (k + size x) xs c.1)

pub none_below : (i : ℕ) → nat_lt i 0 ≡ true → ⊥
none_below i b = grind (arith, b)

abbrev pub type_in : Option DeclaredType → DeclaredType
type_in None = Object
type_in (Some ty) = ty

constant_sorted : (c : ℕ) (ty : DeclaredType) → is_ref (hole_constant c (sort_of_type ty)) ≡ is_ref_type ty
constant_sorted c (Integer i) = refl
constant_sorted c (Pointer n) = refl
constant_sorted c Object = refl
constant_sorted c Claim = refl

module _ (p : t.Program) (s : Sorts) (n : Names) (agree : Agree s n) where
  -- the variables of holes
  abbrev pub variables_of : List Hole → List t.VariableInfo
  variables_of [] = []
  variables_of (h ∷ hs) = record { name = []; ty = type_in (hole_type n h); is_ghost = false } ∷ variables_of hs

  has_type : (h : Hole) → typed_hole n s h ≡ true → Some (type_in (hole_type n h)) ≡ hole_type n h
  has_type h g = by (hole_type n h) refl g
    where
      by : (o : Option DeclaredType) → hole_type n h ≡ o → typed_hole n s h ≡ true → Some (type_in (hole_type n h)) ≡ hole_type n h
      by None e j = absurd (none_typed e j)
        where
          none_typed : hole_type n h ≡ None → typed_hole n s h ≡ true → ⊥
          none_typed e j = cc
      by (Some ty) e j = ap (λ o. Some (type_in o)) e ∙ sym e

  shifted : (v : t.VariableInfo) (vs : List t.VariableInfo) (k : ℕ) (hs : List Hole) → Filled p n vs k hs → Filled p n (v ∷ vs) (suc k) hs
  shifted v vs k [] g = tt
  shifted v vs k (h ∷ hs) g = (g.0, shifted v vs (suc k) hs g.1)

  filled : (hs : List Hole) → every (typed_hole n s) hs ≡ true → Filled p n (variables_of hs) 0 hs
  filled [] g = tt
  filled (h ∷ hs) g =
      let c = and_parts (typed_hole n s h) (every (typed_hole n s) hs) g in
      (has_type h c.0, shifted (record { name = []; ty = type_in (hole_type n h); is_ghost = false }) (variables_of hs) 0 hs (filled hs c.1))

  sort_there : (hs : List Hole) → every (typed_hole n s) hs ≡ true → (i : ℕ) (ty : DeclaredType) → variable_type (slice_get (variables_of hs) i) ≡ Some ty → slice_index_or (map (sort_of s) hs) i RefSort ≡ sort_of_type ty
  sort_there [] g i ty e = absurd (none-some ty e)
  sort_there (h ∷ hs) g zero ty e = agree h ty (sym (has_type h (and_parts (typed_hole n s h) (every (typed_hole n s) hs) g).0) ∙ e)
  sort_there (h ∷ hs) g (suc i) ty e = sort_there hs (and_parts (typed_hole n s h) (every (typed_hole n s) hs) g).1 i ty e

  word_there : (c : ℕ) (hs : List Hole) → every (typed_hole n s) hs ≡ true → (i : ℕ) (ty : DeclaredType) → variable_type (slice_get (variables_of hs) i) ≡ Some ty → is_ref (symbolic_at (hole_constants c (map (sort_of s) hs)) i) ≡ is_ref_type ty
  word_there c [] g i ty e = absurd (none-some ty e)
  word_there c (h ∷ hs) g zero ty e =
      ap (λ r. is_ref (hole_constant c r)) (agree h ty (sym (has_type h (and_parts (typed_hole n s h) (every (typed_hole n s) hs) g).0) ∙ e)) ∙ constant_sorted c ty
  word_there c (h ∷ hs) g (suc i) ty e = word_there (c + 1) hs (and_parts (typed_hole n s h) (every (typed_hole n s) hs) g).1 i ty e

  agree_holes : (hs : List Hole) → every (typed_hole n s) hs ≡ true → Agree (record { variables = map (sort_of s) hs; value = IntSort }) (opened_names (variables_of hs))
  agree_holes hs g (OfVariable i) ty e = sort_there hs g i ty e
  agree_holes hs g (OfBound i) ty e = absurd (none-some ty e)
  agree_holes hs g OfMe ty e = ap (λ o. sort_of_type (unwrap_or o ty)) e
  agree_holes hs g OfThis ty e = absurd (none-some ty e)
  agree_holes hs g OfResult ty e = absurd (none-some ty e)

module _ (p : Program) (l : List t.Shape) (s : Sorts) (n : Names) (agree : Agree s n) (w : t.Spec) (flat : plain w ≡ true) (some : is_some (meaning (seen.program p) n w) ≡ true) where
  abbrev hole_sorts : Sorts
  hole_sorts = record { variables = map (sort_of s) (holes w); value = IntSort }

  abbrev m : Names
  m = opened_names (variables_of (seen.program p) s n agree (holes w))

  all_typed : every (typed_hole n s) (holes w) ≡ true
  all_typed = typed_holes (seen.program p) s n agree w flat some

  sorted_claim : Sorted m (claim_scene p (heap 0) (hole_constants 1 (map (sort_of s) (holes w))))
  sorted_claim = record {
    local = word_there (seen.program p) s n agree 1 (holes w) all_typed;
    entry = λ i ty e b. absurd (none_below i b);
    bound = λ i ty e. absurd (none-some ty e);
    result = λ ty e. absurd (none-some ty e);
    params = refl;
  }

  opened_same : meaning (seen.program p) m (opened 0 w) ≡ meaning (seen.program p) n w
  opened_same = opened_means (seen.program p) n (variables_of (seen.program p) s n agree (holes w)) 0 w flat (filled (seen.program p) s n agree (holes w) all_typed)

  -- where the shapes of the conjuncts in it are in the table
  pub shape_has_formula : ((z : t.Shape) → Contains (shapes_in hole_sorts (opened 0 w)) z → Seated (seen.program p) l z) → (sh : Shape) → seen.shape sh ≡ table_shape l (shape s w) → fits p nothing_hidden false sh.conjunct (claim_scene p (heap 0) (hole_constants 1 sh.holes.items)) ≡ true
  shape_has_formula seats sh same =
      let q = seen.program p in
      let is : seen.spec sh.conjunct ≡ numbered l hole_sorts (opened 0 w) = ap (λ (u : t.Shape). u.conjunct) same in
      let sorts : sh.holes.items ≡ map (sort_of s) (holes w) = ap (λ (u : t.Shape). u.holes) same in
      let flat_there = plain_opened 0 w flat in
      let means = numbered_means q l hole_sorts m (agree_holes q s n agree (holes w) all_typed) (opened 0 w) (plain_neat (opened 0 w) flat_there) seats (ap is_some opened_same ∙ some) ∙ opened_same in
      let v = given (meaning q n w) some in
      let order = numbered_ordered l hole_sorts false (opened 0 w) (plain_ordered false (opened 0 w) flat_there) in
      ap (λ ss. fits p nothing_hidden false sh.conjunct (claim_scene p (heap 0) (hole_constants 1 ss))) sorts
      ∙ (fits_by_meaning p sh.conjunct m (claim_scene p (heap 0) (hole_constants 1 (map (sort_of s) (holes w)))) false v.0 sorted_claim (ap (meaning q m) is ∙ (means ∙ v.1)) (ap (is_ordered false) is ∙ order)).0

-- The quantified formulas of a program under their numbers, and annotations that fit by tests.
use Rattle.condition_meaning.proofs.Forms.{same_is}
use Rattle.std.proofs.Common.{◌≡◌, ℕ, zero, suc, ◌+◌, ◌<◌, ◌≤◌, ◌==◌, nat_le, Bool, true, false, not, ◌&&◌, if◌then◌else◌, List, [], ◌∷◌, ◌++◌, Some, slice_get, refl, ap, ◌∙◌, subst, arith}
use Rattle.std.specs.Prelude.{flat_map}
use Rattle.std.proofs.Common.{leb-true}
use Rattle.std.proofs.lemmas.Bool.{eqb-true, and_parts, not-true}
use Rattle.object_types.specs.Sets.{every}
use Rattle.method.specs.declared.program.Hole.{Hole}
use Rattle.method.specs.declared.program.Hole.TheVariants.{OfVariable, OfBound, OfMe, OfThis, OfResult}
use Rattle.method.specs.declared.program.Spec.{Spec, Row_of-Spec, end_of-Spec, more_of-Spec}
use Rattle.method.specs.declared.program.Spec.TheVariants as s
use Rattle.method.specs.declared.program.Program.{Program}
use Rattle.conditions.specs.Formulas.{null}
use Rattle.conditions.specs.Annotations.{Scene, old_scene, bind_ref, translate, tests, formal_scene, subject_of, body_of_all, body_of_some, body_of_only, terms_of}
use Rattle.conditions.specs.Quantified.{QuantifiedFormula, spec_quantifiers, row_quantifiers, program_quantifiers, find_quantifier, quantifier_formula}
use Rattle.condition_meaning.specs.Languages.{number_bound, formula_of, formulas_from, quantifiers_of, language_of}
use Rattle.condition_meaning.specs.Annotated as test
use Rattle.condition_meaning.specs.Annotated.{Each, is_visible_hole, IsListed}
use Rattle.condition_meaning.specs.Fits.{Fits, RowFits, HasBody, HoleIsVisible, HolesAreVisible, is_ref, is_ref_type, numbers_from, row_numbers_from, params_fit, are_refs}

-- Lookup by number.

number_below : (n : ℕ) (qs : List QuantifiedFormula) (q : QuantifiedFormula) → find_quantifier n qs ≡ Some q → n < number_bound qs
number_below n [] q h = absurd (cc)
number_below n (r ∷ qs) q h = by_test (r.number == n) refl h (λ g. number_below n qs q g)
  where
    at_least : (t : Bool) → nat_le (suc r.number) (number_bound qs) ≡ t → suc r.number ≤ (if t then number_bound qs else suc r.number)
    at_least true h = leb-true _ _ h
    at_least false h = omega arith

    no_less : (t : Bool) → nat_le (suc r.number) (number_bound qs) ≡ t → number_bound qs ≤ (if t then number_bound qs else suc r.number)
    no_less true h = omega arith
    no_less false h = grind (arith, h)

    by_test : (t : Bool) → r.number == n ≡ t → (if t then Some r else find_quantifier n qs) ≡ Some q → (find_quantifier n qs ≡ Some q → n < number_bound qs) → n < (if nat_le (suc r.number) (number_bound qs) then number_bound qs else suc r.number)
    by_test true same g more = let z = at_least (nat_le (suc r.number) (number_bound qs)) refl in let y = eqb-true r.number n same in omega (arith, z, y)
    by_test false other g more = let z = no_less (nat_le (suc r.number) (number_bound qs)) refl in let y = more g in omega (arith, z, y)

pub at_number : (qs : List QuantifiedFormula) (first k i : ℕ) → i < k → slice_get (formulas_from qs first k) i ≡ Some (formula_of (find_quantifier (first + i) qs))
at_number qs first zero i h = absurd (omega (arith, h))
at_number qs first (suc k) zero h = ap (λ n. Some (formula_of (find_quantifier n qs))) (let z : first ≡ first + 0 = omega arith in z)
at_number qs first (suc k) (suc i) h = at_number qs (suc first) k i (omega (arith, h)) ∙ ap (λ n. Some (formula_of (find_quantifier n qs))) (let z : suc first + i ≡ first + suc i = omega arith in z)

pub stands_at : (p : Program) (q : QuantifiedFormula) → find_quantifier q.number (program_quantifiers p) ≡ Some q → HasBody (language_of p) q.number q.body
unfolding quantifiers_of
stands_at p q h =
    (formula_of (Some q), at_number (program_quantifiers p) 0 (number_bound (program_quantifiers p)) q.number (number_below q.number (program_quantifiers p) q h) ∙ ap (λ n. Some (formula_of (find_quantifier n (program_quantifiers p)))) (let z : 0 + q.number ≡ q.number = omega arith in z) ∙ ap (λ o. Some (formula_of o)) h, refl)

-- Parts of lists.

pub each_parts : (p : Program) (P : QuantifiedFormula → Type 0) (qs rs : List QuantifiedFormula) → Each p P (qs ++ rs) → Each p P qs × Each p P rs
each_parts p P [] rs a = (tt, a)
each_parts p P (q ∷ qs) rs a = let z = each_parts p P qs rs a.1 in ((a.0, z.0), z.1)

pub each_of : {X : Type 0} (p : Program) (P : QuantifiedFormula → Type 0) (f : X → List QuantifiedFormula) (xs : List X) → Each p P (flat_map f xs) → (n : ℕ) (x : X) → slice_get xs n ≡ Some x → Each p P (f x)
each_of p P f [] a n x h = absurd (cc)
each_of p P f (y ∷ xs) a zero x h = let same : y ≡ x = cc in subst (λ z. Each p P (f z)) same (each_parts p P (f y) (flat_map f xs) a).0
each_of p P f (y ∷ xs) a (suc n) x h = each_of p P f xs (each_parts p P (f y) (flat_map f xs) a).1 n x h

hole_is_visible : (hidden : ℕ → Bool) (h : Hole) → is_visible_hole hidden h ≡ true → HoleIsVisible hidden h
hole_is_visible hidden (OfVariable i) t = not-true (hidden i) t
hole_is_visible hidden (OfBound i) t = tt
hole_is_visible hidden OfMe t = tt
hole_is_visible hidden OfThis t = tt
hole_is_visible hidden OfResult t = tt

holes_are_visible : (hidden : ℕ → Bool) (hs : List Hole) → every (is_visible_hole hidden) hs ≡ true → HolesAreVisible hidden hs
holes_are_visible hidden [] t = tt
holes_are_visible hidden (h ∷ hs) t = let z = and_parts (is_visible_hole hidden h) (every (is_visible_hole hidden) hs) t in (hole_is_visible hidden h z.0, holes_are_visible hidden hs z.1)

module _ (p : Program) where
  mutual
    pub fits_by_test : (e : Spec) (hidden : ℕ → Bool) (inside : Bool) (w : Scene) → test.fits p hidden inside e w ≡ true → Each p (IsListed p) (spec_quantifiers p e w) → Fits (language_of p) hidden inside e w
    fits_by_test (s.Number z) hid i w t a = tt
    fits_by_test (s.Truth b) hid i w t a = tt
    fits_by_test s.Null hid i w t a = tt
    fits_by_test (s.Variable j) hid i w t a = not-true (hid j) t
    fits_by_test (s.Bound j) hid i w t a = tt
    fits_by_test s.This hid i w t a = tt
    fits_by_test s.Me hid i w t a = tt
    fits_by_test s.Result hid i w t a = tt
    fits_by_test (s.Field' q e f) hid i w t a = let z = and_parts _ (test.fits p hid i e w) t in (z.0, fits_by_test e hid i w z.1 a)
    fits_by_test (s.Closed' q e) hid i w t a = fits_by_test e hid i w t a
    fits_by_test (s.Owner' q e) hid i w t a = fits_by_test e hid i w t a
    fits_by_test (s.ClaimCount' q e) hid i w t a = fits_by_test e hid i w t a
    fits_by_test (s.Member' q b r c) hid i w t a = let z = and_parts (test.fits p hid i b w) (test.fits p hid i c w) t in let y = each_parts p (IsListed p) (spec_quantifiers p b w) (spec_quantifiers p c w) a in (fits_by_test b hid i w z.0 y.0, fits_by_test c hid i w z.1 y.1)
    fits_by_test (s.Not' q e) hid i w t a = fits_by_test e hid i w t a
    fits_by_test (s.Negate' q e) hid i w t a = fits_by_test e hid i w t a
    fits_by_test (s.Arithmetic' op q b r c) hid i w t a = let z = and_parts (test.fits p hid i b w) (test.fits p hid i c w) t in let y = each_parts p (IsListed p) (spec_quantifiers p b w) (spec_quantifiers p c w) a in (fits_by_test b hid i w z.0 y.0, fits_by_test c hid i w z.1 y.1)
    fits_by_test (s.Compare' op q b r c) hid i w t a = let z = and_parts (test.fits p hid i b w) (test.fits p hid i c w) t in let y = each_parts p (IsListed p) (spec_quantifiers p b w) (spec_quantifiers p c w) a in (fits_by_test b hid i w z.0 y.0, fits_by_test c hid i w z.1 y.1)
    fits_by_test (s.And' q b r c) hid i w t a = let z = and_parts (test.fits p hid i b w) (test.fits p hid i c w) t in let y = each_parts p (IsListed p) (spec_quantifiers p b w) (spec_quantifiers p c w) a in (fits_by_test b hid i w z.0 y.0, fits_by_test c hid i w z.1 y.1)
    fits_by_test (s.Or' q b r c) hid i w t a = let z = and_parts (test.fits p hid i b w) (test.fits p hid i c w) t in let y = each_parts p (IsListed p) (spec_quantifiers p b w) (spec_quantifiers p c w) a in (fits_by_test b hid i w z.0 y.0, fits_by_test c hid i w z.1 y.1)
    fits_by_test (s.Implies' q b r c) hid i w t a = let z = and_parts (test.fits p hid i b w) (test.fits p hid i c w) t in let y = each_parts p (IsListed p) (spec_quantifiers p b w) (spec_quantifiers p c w) a in (fits_by_test b hid i w z.0 y.0, fits_by_test c hid i w z.1 y.1)
    fits_by_test (s.Iff' q b r c) hid i w t a = let z = and_parts (test.fits p hid i b w) (test.fits p hid i c w) t in let y = each_parts p (IsListed p) (spec_quantifiers p b w) (spec_quantifiers p c w) a in (fits_by_test b hid i w z.0 y.0, fits_by_test c hid i w z.1 y.1)
    fits_by_test (s.Choose' q b r c u d) hid i w t a =
        let z = and_parts (test.fits p hid i b w) _ t in
        let y = and_parts (test.fits p hid i c w) _ z.1 in
        let x = and_parts (test.fits p hid i d w) _ y.1 in
        let g = each_parts p (IsListed p) (spec_quantifiers p b w ++ spec_quantifiers p c w) (spec_quantifiers p d w) a in
        let h = each_parts p (IsListed p) (spec_quantifiers p b w) (spec_quantifiers p c w) g.0 in
        (fits_by_test b hid i w z.0 h.0, fits_by_test c hid i w y.0 h.1, fits_by_test d hid i w x.0 g.1, same_is (is_ref (translate p c w)) (is_ref (translate p d w)) x.1)
    fits_by_test (s.Old' q e) hid i w t a = fits_by_test e hid i (old_scene w) t a
    fits_by_test (s.Unchanged' q e) hid i w t a = let z = and_parts (params_fit w.entry w.locals) (test.fits p hid i e w) t in (z.0, fits_by_test e hid i w z.1 a)
    fits_by_test (s.Wrapped' q e) hid i w t a = fits_by_test e hid i w t a
    fits_by_test (s.Wrapped0' q e) hid i w t a = fits_by_test e hid i w t a
    fits_by_test (s.Mutable' q e) hid i w t a = fits_by_test e hid i w t a
    fits_by_test (s.Fresh' q e) hid i w t a = fits_by_test e hid i w t a
    fits_by_test (s.ClaimsObject' q b r c) hid i w t a = let z = and_parts (test.fits p hid i b w) (test.fits p hid i c w) t in let y = each_parts p (IsListed p) (spec_quantifiers p b w) (spec_quantifiers p c w) a in (fits_by_test b hid i w z.0 y.0, fits_by_test c hid i w z.1 y.1)
    fits_by_test (s.Claims' q c n row) hid i w t a = let z = and_parts (test.fits p hid i c w) (test.row_fits p hid true row w) t in let y = each_parts p (IsListed p) (spec_quantifiers p c w) (row_quantifiers p row w) a in (fits_by_test c hid i w z.0 y.0, row_fits_by_test row hid true w z.1 y.1)
    fits_by_test (s.Lists' q e) hid i w t a = fits_by_test e hid i w t a
    fits_by_test (s.Has c) hid i w t a = let z = and_parts _ (every (is_visible_hole hid) c.holes.items) t in (z.0, holes_are_visible hid c.holes.items z.1)
    fits_by_test (s.ForAll' n ty q e r body) hid i w t a =
        let z = and_parts (not i) _ t in
        let y = and_parts (is_ref_type ty) _ z.1 in
        let x = and_parts (numbers_from (suc n) e && numbers_from (suc n) body) _ y.1 in
        let v = and_parts (test.fits p hid false e w) _ x.1 in
        let g = each_parts p (IsListed p) (spec_quantifiers p e w) (spec_quantifiers p body (bind_ref null w)) a.1 in
        let b = body_of_all ty w (translate p e (formal_scene w)) (translate p body (bind_ref (subject_of w) (formal_scene w))) in
        (not-true i z.0, y.0, x.0, fits_by_test e hid false w v.0 g.0, fits_by_test body hid false (bind_ref null w) v.1 g.1, stands_at p (quantifier_formula w n b) a.0)
    fits_by_test (s.Exists' n ty q e k row) hid i w t a =
        let z = and_parts (not i) _ t in
        let y = and_parts (is_ref_type ty) _ z.1 in
        let x = and_parts (numbers_from (suc n) e && row_numbers_from (suc n) row) _ y.1 in
        let v = and_parts (test.fits p hid false e w) _ x.1 in
        let g = each_parts p (IsListed p) (spec_quantifiers p e w) (row_quantifiers p row (bind_ref null w)) a.1 in
        let b = body_of_some ty w (translate p e (formal_scene w)) (tests p row (bind_ref (subject_of w) (formal_scene w))) in
        (not-true i z.0, y.0, x.0, fits_by_test e hid false w v.0 g.0, row_fits_by_test row hid false (bind_ref null w) v.1 g.1, stands_at p (quantifier_formula w n b) a.0)
    fits_by_test (s.ClaimsOnly' n q c k row) hid i w t a =
        let z = and_parts (not i) _ t in
        let y = and_parts (numbers_from (suc n) c && row_numbers_from (suc n) row) _ z.1 in
        let x = and_parts (are_refs p row w) _ y.1 in
        let v = and_parts (test.fits p hid false c w) _ x.1 in
        let g = each_parts p (IsListed p) (spec_quantifiers p c w) (row_quantifiers p row w) a.1 in
        let b = body_of_only w (translate p c (formal_scene w)) (terms_of p row (formal_scene w)) in
        (not-true i z.0, y.0, x.0, fits_by_test c hid false w v.0 g.0, row_fits_by_test row hid false w v.1 g.1, stands_at p (quantifier_formula w n b) a.0)

    pub row_fits_by_test : {n : _} (row : Row_of-Spec n) (hidden : ℕ → Bool) (inside : Bool) (w : Scene) → test.row_fits p hidden inside row w ≡ true → Each p (IsListed p) (row_quantifiers p row w) → RowFits (language_of p) hidden inside row w
    row_fits_by_test end_of-Spec hid i w t a = tt
    row_fits_by_test (more_of-Spec e row) hid i w t a = let z = and_parts (test.fits p hid i e w) (test.row_fits p hid i row w) t in let y = each_parts p (IsListed p) (spec_quantifiers p e w) (row_quantifiers p row w) a in (fits_by_test e hid i w z.0 y.0, row_fits_by_test row hid i w z.1 y.1)

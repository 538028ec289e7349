-- An annotation that fits over one scene's words fits over a similar one's.
use Rattle.std.proofs.Common.{arith, ◌≡◌, ℕ, ◌<◌, ◌&&◌, Bool, true, false, List, [], ◌∷◌, length, refl, sym, ◌∙◌}
use Rattle.std.proofs.lemmas.Bool.{and_parts, ltb-true}
use Rattle.object_types.specs.Sets.{every}
use Rattle.method.specs.declared.program.Hole.{Hole}
use Rattle.method.specs.declared.program.Hole.TheVariants.{OfVariable, OfBound, OfMe, OfThis, OfResult}
use Rattle.method.specs.declared.program.Spec.{Spec, Row_of-Spec, end_of-Spec, more_of-Spec}
use Rattle.method.specs.declared.program.Spec.TheVariants as s
use Rattle.term_meaning.specs.Meaning.{Language}
use Rattle.conditions.specs.Formulas.{null}
use Rattle.conditions.specs.Annotations.{symbolic_at, Scene, old_scene, bind_ref, formal_scene, subject_of, parts, translate, tests, body_of_all, body_of_some, body_of_only, terms_of}
use Rattle.condition_meaning.specs.Fits.{Fits, RowFits, names, row_names, hole_names, HoleIsVisible, HolesAreVisible, are_refs}
use Rattle.condition_meaning.proofs.Forms.{params_at, params_from}
use Rattle.condition_meaning.proofs.SameTrees.{same_sort, body_same}
use Rattle.condition_meaning.proofs.Similar.{SceneSame, Shift, shift_unique, old_same, bind_same, translated_same, row_same, formal_scenes, inner_scenes, all_bodies_same, some_bodies_same, last_places, terms_same, only_bodies_same}

module _ (l : Language) (few : ℕ) (r : Bool) (before hid : ℕ → Bool) (shown : (i : ℕ) → i < few → before i ≡ false → hid i ≡ false) where
  hole_is : (h : Hole) → hole_names few r h ≡ true → HoleIsVisible before h → HoleIsVisible hid h
  hole_is (OfVariable i) n f = shown i (ltb-true _ _ n) f
  hole_is (OfBound i) n f = tt
  hole_is OfMe n f = tt
  hole_is OfThis n f = tt
  hole_is OfResult n f = tt

  holes_are : (hs : List Hole) → every (hole_names few r) hs ≡ true → HolesAreVisible before hs → HolesAreVisible hid hs
  holes_are [] n f = tt
  holes_are (h ∷ hs) n f = let t = and_parts (hole_names few r h) (every (hole_names few r) hs) n in (hole_is h t.0 f.0, holes_are hs t.1 f.1)

  refs_same : {k : _} (row : Row_of-Spec k) (Rel : ℕ → ℕ → Type 0) (w x : Scene) → SceneSame Rel few r w x → row_names few r row ≡ true → are_refs l.program row w ≡ are_refs l.program row x
  refs_same end_of-Spec R w x a n = refl
  refs_same (more_of-Spec e row) R w x a n = let m = and_parts (names few r e) (row_names few r row) n in λ i. same_sort R (translate l.program e w) (translate l.program e x) (translated_same l.program e R few r w x a m.0) i && refs_same row R w x a m.1 i

  mutual
    pub fits_moved : (e : Spec) (Rel : ℕ → ℕ → Type 0) (inside : Bool) (w x : Scene) → SceneSame Rel few r w x → names few r e ≡ true → Fits l before inside e w → Fits l hid inside e x
    fits_moved (s.Number z) R i w x a n f = tt
    fits_moved (s.Truth t) R i w x a n f = tt
    fits_moved s.Null R i w x a n f = tt
    fits_moved (s.Bound j) R i w x a n f = tt
    fits_moved s.This R i w x a n f = tt
    fits_moved s.Me R i w x a n f = tt
    fits_moved s.Result R i w x a n f = tt
    fits_moved (s.Variable j) R i w x a n f = shown j (ltb-true _ _ n) f
    fits_moved (s.Field' q e g) R i w x a n f = (f.0, fits_moved e R i w x a n f.1)
    fits_moved (s.Closed' q e) R i w x a n f = fits_moved e R i w x a n f
    fits_moved (s.Owner' q e) R i w x a n f = fits_moved e R i w x a n f
    fits_moved (s.ClaimCount' q e) R i w x a n f = fits_moved e R i w x a n f
    fits_moved (s.Not' q e) R i w x a n f = fits_moved e R i w x a n f
    fits_moved (s.Negate' q e) R i w x a n f = fits_moved e R i w x a n f
    fits_moved (s.Wrapped' q e) R i w x a n f = fits_moved e R i w x a n f
    fits_moved (s.Wrapped0' q e) R i w x a n f = fits_moved e R i w x a n f
    fits_moved (s.Mutable' q e) R i w x a n f = fits_moved e R i w x a n f
    fits_moved (s.Fresh' q e) R i w x a n f = fits_moved e R i w x a n f
    fits_moved (s.Lists' q e) R i w x a n f = fits_moved e R i w x a n f
    fits_moved (s.Member' q c t d) R i w x a n f = let m = and_parts (names few r c) (names few r d) n in (fits_moved c R i w x a m.0 f.0, fits_moved d R i w x a m.1 f.1)
    fits_moved (s.Arithmetic' op q c t d) R i w x a n f = let m = and_parts (names few r c) (names few r d) n in (fits_moved c R i w x a m.0 f.0, fits_moved d R i w x a m.1 f.1)
    fits_moved (s.Compare' op q c t d) R i w x a n f = let m = and_parts (names few r c) (names few r d) n in (fits_moved c R i w x a m.0 f.0, fits_moved d R i w x a m.1 f.1)
    fits_moved (s.And' q c t d) R i w x a n f = let m = and_parts (names few r c) (names few r d) n in (fits_moved c R i w x a m.0 f.0, fits_moved d R i w x a m.1 f.1)
    fits_moved (s.Or' q c t d) R i w x a n f = let m = and_parts (names few r c) (names few r d) n in (fits_moved c R i w x a m.0 f.0, fits_moved d R i w x a m.1 f.1)
    fits_moved (s.Implies' q c t d) R i w x a n f = let m = and_parts (names few r c) (names few r d) n in (fits_moved c R i w x a m.0 f.0, fits_moved d R i w x a m.1 f.1)
    fits_moved (s.Iff' q c t d) R i w x a n f = let m = and_parts (names few r c) (names few r d) n in (fits_moved c R i w x a m.0 f.0, fits_moved d R i w x a m.1 f.1)
    fits_moved (s.ClaimsObject' q c t d) R i w x a n f = let m = and_parts (names few r c) (names few r d) n in (fits_moved c R i w x a m.0 f.0, fits_moved d R i w x a m.1 f.1)
    fits_moved (s.Choose' q c t d u e) R i w x a n f =
        let m = and_parts (names few r c) (names few r d && names few r e) n in
        let k = and_parts (names few r d) (names few r e) m.1 in
        (fits_moved c R i w x a m.0 f.0, fits_moved d R i w x a k.0 f.1, fits_moved e R i w x a k.1 f.2, sym (same_sort R (translate l.program d w) (translate l.program d x) (translated_same l.program d R few r w x a k.0)) ∙ f.3 ∙ same_sort R (translate l.program e w) (translate l.program e x) (translated_same l.program e R few r w x a k.1))
    fits_moved (s.Old' q e) R i w x a n f = fits_moved e R i (old_scene w) (old_scene x) (old_same R few r w x a) n f
    fits_moved (s.Unchanged' q e) R i w x a n f = (
      params_from x.entry x.locals (omega (arith, a.params_first, a.few_second, a.entry_size)) (λ j h. sym (same_sort R (symbolic_at w.entry j) (symbolic_at x.entry j) (a.entry j)) ∙ params_at w.entry w.locals f.0 j (omega (arith, h, a.entry_size)) ∙ same_sort R (symbolic_at w.locals j) (symbolic_at x.locals j) (a.locals j (omega (arith, h, a.params_first, a.entry_size)))),
      fits_moved e R i w x a n f.1,
    )
    fits_moved (s.Claims' q c k row) R i w x a n f = let m = and_parts (names few r c) (row_names few r row) n in (fits_moved c R i w x a m.0 f.0, row_fits_moved row R true w x a m.1 f.1)
    fits_moved (s.Has c) R i w x a n f = (f.0, holes_are c.holes.items n f.1)
    fits_moved (s.ForAll' k ty q e t body) R i w x a n f =
        let m = and_parts (names few r e) (names few r body) n in
        let P = Shift r few (length w.locals) (length x.locals) in
        let f_w = body_of_all ty w (translate l.program e (formal_scene w)) (translate l.program body (bind_ref (subject_of w) (formal_scene w))) in
        let f_x = body_of_all ty x (translate l.program e (formal_scene x)) (translate l.program body (bind_ref (subject_of x) (formal_scene x))) in
        let same = all_bodies_same R few r w x a ty (translate l.program e (formal_scene w)) (translate l.program e (formal_scene x)) (translate l.program body (bind_ref (subject_of w) (formal_scene w))) (translate l.program body (bind_ref (subject_of x) (formal_scene x))) (translated_same l.program e P few r (formal_scene w) (formal_scene x) (formal_scenes R few r w x a) m.0) (translated_same l.program body P few r (bind_ref (subject_of w) (formal_scene w)) (bind_ref (subject_of x) (formal_scene x)) (inner_scenes R few r w x a) m.1) in
        (f.0, f.1, f.2, fits_moved e R false w x a m.0 f.3, fits_moved body R false (bind_ref null w) (bind_ref null x) (bind_same R few r w x null null (refl, refl, tt) a) m.1 f.4, (f.5.0, f.5.1, f.5.2 ∙ body_same P (shift_unique r few (length w.locals) (length x.locals) a.few_first a.few_second) f_w f_x (length (parts w)) (length (parts x)) same (last_places R few r w x a)))
    fits_moved (s.Exists' k ty q e j row) R i w x a n f =
        let m = and_parts (names few r e) (row_names few r row) n in
        let P = Shift r few (length w.locals) (length x.locals) in
        let f_w = body_of_some ty w (translate l.program e (formal_scene w)) (tests l.program row (bind_ref (subject_of w) (formal_scene w))) in
        let f_x = body_of_some ty x (translate l.program e (formal_scene x)) (tests l.program row (bind_ref (subject_of x) (formal_scene x))) in
        let same = some_bodies_same R few r w x a ty (translate l.program e (formal_scene w)) (translate l.program e (formal_scene x)) (tests l.program row (bind_ref (subject_of w) (formal_scene w))) (tests l.program row (bind_ref (subject_of x) (formal_scene x))) (translated_same l.program e P few r (formal_scene w) (formal_scene x) (formal_scenes R few r w x a) m.0) (row_same l.program row P few r (bind_ref (subject_of w) (formal_scene w)) (bind_ref (subject_of x) (formal_scene x)) (inner_scenes R few r w x a) m.1) in
        (f.0, f.1, f.2, fits_moved e R false w x a m.0 f.3, row_fits_moved row R false (bind_ref null w) (bind_ref null x) (bind_same R few r w x null null (refl, refl, tt) a) m.1 f.4, (f.5.0, f.5.1, f.5.2 ∙ body_same P (shift_unique r few (length w.locals) (length x.locals) a.few_first a.few_second) f_w f_x (length (parts w)) (length (parts x)) same (last_places R few r w x a)))
    fits_moved (s.ClaimsOnly' k q c j row) R i w x a n f =
        let m = and_parts (names few r c) (row_names few r row) n in
        let P = Shift r few (length w.locals) (length x.locals) in
        let f_w = body_of_only w (translate l.program c (formal_scene w)) (terms_of l.program row (formal_scene w)) in
        let f_x = body_of_only x (translate l.program c (formal_scene x)) (terms_of l.program row (formal_scene x)) in
        let same = only_bodies_same R few r w x a (translate l.program c (formal_scene w)) (translate l.program c (formal_scene x)) (terms_of l.program row (formal_scene w)) (terms_of l.program row (formal_scene x)) (translated_same l.program c P few r (formal_scene w) (formal_scene x) (formal_scenes R few r w x a) m.0) (terms_same l.program row P few r (formal_scene w) (formal_scene x) (formal_scenes R few r w x a) m.1) in
        (f.0, f.1, sym (refs_same row R w x a m.1) ∙ f.2, fits_moved c R false w x a m.0 f.3, row_fits_moved row R false w x a m.1 f.4, (f.5.0, f.5.1, f.5.2 ∙ body_same P (shift_unique r few (length w.locals) (length x.locals) a.few_first a.few_second) f_w f_x (length (parts w)) (length (parts x)) same (last_places R few r w x a)))

    pub row_fits_moved : {k : _} (row : Row_of-Spec k) (Rel : ℕ → ℕ → Type 0) (inside : Bool) (w x : Scene) → SceneSame Rel few r w x → row_names few r row ≡ true → RowFits l before inside row w → RowFits l hid inside row x
    row_fits_moved end_of-Spec R i w x a n f = tt
    row_fits_moved (more_of-Spec e row) R i w x a n f = let m = and_parts (names few r e) (row_names few r row) n in (fits_moved e R i w x a m.0 f.0, row_fits_moved row R i w x a m.1 f.1)

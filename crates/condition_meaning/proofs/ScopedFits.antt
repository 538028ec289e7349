-- An annotation that stands where it names known variables alone fits where those aren't hidden.
use Rattle.std.proofs.Common.{◌≡◌, ℕ, ◌&&◌, not, Bool, true, false, List, [], ◌∷◌, refl, ap}
use Rattle.std.proofs.lemmas.Bool.{and_parts, and_from}
use Rattle.object_types.specs.Sets.{every}
use Rattle.method.specs.declared.program.Hole.{Hole}
use Rattle.method.specs.declared.program.Hole.TheVariants.{OfVariable, OfBound, OfMe, OfThis, OfResult}
use Rattle.method.specs.declared.program.Spec.{Spec, Row_of-Spec, end_of-Spec, more_of-Spec}
use Rattle.method.specs.declared.program.Spec.TheVariants as s
use Rattle.method.specs.declared.program.FunctionInfo.{FunctionInfo}
use Rattle.method.specs.declared.program.Program.{Program}
use Rattle.method.specs.Scopes.{known, hole_in, spec_in, spec_row_in}
use Rattle.conditions.specs.Formulas.{null}
use Rattle.conditions.specs.Annotations.{Scene, old_scene, bind_ref}
use Rattle.condition_meaning.specs.Annotated as tests
use Rattle.condition_meaning.specs.Annotated.{Annotated, Each, nothing_hidden, is_visible_hole}

module _ (p : Program) (f : FunctionInfo) (is : List ℕ) (hid : ℕ → Bool) (shown : (i : ℕ) → known p f is i ≡ true → hid i ≡ false) where
  hole_visible : (h : Hole) → hole_in p f is h ≡ true → is_visible_hole hid h ≡ true
  hole_visible (OfVariable i) k = ap (λ b. not b) (shown i k)
  hole_visible (OfBound i) k = refl
  hole_visible OfMe k = refl
  hole_visible OfThis k = refl
  hole_visible OfResult k = refl

  holes_visible : (hs : List Hole) → every (hole_in p f is) hs ≡ true → every (is_visible_hole hid) hs ≡ true
  holes_visible [] k = refl
  holes_visible (h ∷ hs) k = let z = and_parts (hole_in p f is h) (every (hole_in p f is) hs) k in and_from _ _ (hole_visible h z.0) (holes_visible hs z.1)

  mutual
    pub fits_shown : (e : Spec) (inside : Bool) (w : Scene) → spec_in p f is e ≡ true → tests.fits p nothing_hidden inside e w ≡ true → tests.fits p hid inside e w ≡ true
    fits_shown (s.Number z) i w k t = refl
    fits_shown (s.Truth b) i w k t = refl
    fits_shown s.Null i w k t = refl
    fits_shown (s.Bound j) i w k t = refl
    fits_shown s.This i w k t = refl
    fits_shown s.Me i w k t = refl
    fits_shown s.Result i w k t = refl
    fits_shown (s.Variable j) i w k t = ap (λ b. not b) (shown j k)
    fits_shown (s.Field' q e g) i w k t = let z = and_parts _ (tests.fits p nothing_hidden i e w) t in and_from _ _ z.0 (fits_shown e i w k z.1)
    fits_shown (s.Closed' q e) i w k t = fits_shown e i w k t
    fits_shown (s.Owner' q e) i w k t = fits_shown e i w k t
    fits_shown (s.ClaimCount' q e) i w k t = fits_shown e i w k t
    fits_shown (s.Not' q e) i w k t = fits_shown e i w k t
    fits_shown (s.Negate' q e) i w k t = fits_shown e i w k t
    fits_shown (s.Wrapped' q e) i w k t = fits_shown e i w k t
    fits_shown (s.Wrapped0' q e) i w k t = fits_shown e i w k t
    fits_shown (s.Mutable' q e) i w k t = fits_shown e i w k t
    fits_shown (s.Fresh' q e) i w k t = fits_shown e i w k t
    fits_shown (s.Lists' q e) i w k t = fits_shown e i w k t
    fits_shown (s.Old' q e) i w k t = fits_shown e i (old_scene w) k t
    fits_shown (s.Unchanged' q e) i w k t = let z = and_parts _ (tests.fits p nothing_hidden i e w) t in and_from _ _ z.0 (fits_shown e i w k z.1)
    fits_shown (s.Member' q a r b) i w k t = let z = and_parts (spec_in p f is a) (spec_in p f is b) k in let y = and_parts (tests.fits p nothing_hidden i a w) (tests.fits p nothing_hidden i b w) t in and_from _ _ (fits_shown a i w z.0 y.0) (fits_shown b i w z.1 y.1)
    fits_shown (s.Arithmetic' op q a r b) i w k t = let z = and_parts (spec_in p f is a) (spec_in p f is b) k in let y = and_parts (tests.fits p nothing_hidden i a w) (tests.fits p nothing_hidden i b w) t in and_from _ _ (fits_shown a i w z.0 y.0) (fits_shown b i w z.1 y.1)
    fits_shown (s.Compare' op q a r b) i w k t = let z = and_parts (spec_in p f is a) (spec_in p f is b) k in let y = and_parts (tests.fits p nothing_hidden i a w) (tests.fits p nothing_hidden i b w) t in and_from _ _ (fits_shown a i w z.0 y.0) (fits_shown b i w z.1 y.1)
    fits_shown (s.And' q a r b) i w k t = let z = and_parts (spec_in p f is a) (spec_in p f is b) k in let y = and_parts (tests.fits p nothing_hidden i a w) (tests.fits p nothing_hidden i b w) t in and_from _ _ (fits_shown a i w z.0 y.0) (fits_shown b i w z.1 y.1)
    fits_shown (s.Or' q a r b) i w k t = let z = and_parts (spec_in p f is a) (spec_in p f is b) k in let y = and_parts (tests.fits p nothing_hidden i a w) (tests.fits p nothing_hidden i b w) t in and_from _ _ (fits_shown a i w z.0 y.0) (fits_shown b i w z.1 y.1)
    fits_shown (s.Implies' q a r b) i w k t = let z = and_parts (spec_in p f is a) (spec_in p f is b) k in let y = and_parts (tests.fits p nothing_hidden i a w) (tests.fits p nothing_hidden i b w) t in and_from _ _ (fits_shown a i w z.0 y.0) (fits_shown b i w z.1 y.1)
    fits_shown (s.Iff' q a r b) i w k t = let z = and_parts (spec_in p f is a) (spec_in p f is b) k in let y = and_parts (tests.fits p nothing_hidden i a w) (tests.fits p nothing_hidden i b w) t in and_from _ _ (fits_shown a i w z.0 y.0) (fits_shown b i w z.1 y.1)
    fits_shown (s.ClaimsObject' q a r b) i w k t = let z = and_parts (spec_in p f is a) (spec_in p f is b) k in let y = and_parts (tests.fits p nothing_hidden i a w) (tests.fits p nothing_hidden i b w) t in and_from _ _ (fits_shown a i w z.0 y.0) (fits_shown b i w z.1 y.1)
    fits_shown (s.Choose' q a r b u c) i w k t =
        let z = and_parts (spec_in p f is a) (spec_in p f is b && spec_in p f is c) k in
        let y = and_parts (spec_in p f is b) (spec_in p f is c) z.1 in
        let x = and_parts (tests.fits p nothing_hidden i a w) _ t in
        let v = and_parts (tests.fits p nothing_hidden i b w) _ x.1 in
        let o = and_parts (tests.fits p nothing_hidden i c w) _ v.1 in
        and_from _ _ (fits_shown a i w z.0 x.0) (and_from _ _ (fits_shown b i w y.0 v.0) (and_from _ _ (fits_shown c i w y.1 o.0) o.1))
    fits_shown (s.Claims' q c n row) i w k t =
        let z = and_parts (spec_in p f is c) (spec_row_in p f is row) k in
        let y = and_parts (tests.fits p nothing_hidden i c w) (tests.row_fits p nothing_hidden true row w) t in
        and_from _ _ (fits_shown c i w z.0 y.0) (row_fits_shown row true w z.1 y.1)
    fits_shown (s.Has c) i w k t = let z = and_parts _ (every (is_visible_hole nothing_hidden) c.holes.items) t in and_from _ _ z.0 (holes_visible c.holes.items k)
    fits_shown (s.ForAll' n ty q e r body) i w k t =
        let z = and_parts (spec_in p f is e) (spec_in p f is body) k in
        let y = and_parts (not i) _ t in
        let x = and_parts _ _ y.1 in
        let v = and_parts _ _ x.1 in
        let o = and_parts (tests.fits p nothing_hidden false e w) (tests.fits p nothing_hidden false body (bind_ref null w)) v.1 in
        and_from _ _ y.0 (and_from _ _ x.0 (and_from _ _ v.0 (and_from _ _ (fits_shown e false w z.0 o.0) (fits_shown body false (bind_ref null w) z.1 o.1))))
    fits_shown (s.Exists' n ty q e m row) i w k t =
        let z = and_parts (spec_in p f is e) (spec_row_in p f is row) k in
        let y = and_parts (not i) _ t in
        let x = and_parts _ _ y.1 in
        let v = and_parts _ _ x.1 in
        let o = and_parts (tests.fits p nothing_hidden false e w) (tests.row_fits p nothing_hidden false row (bind_ref null w)) v.1 in
        and_from _ _ y.0 (and_from _ _ x.0 (and_from _ _ v.0 (and_from _ _ (fits_shown e false w z.0 o.0) (row_fits_shown row false (bind_ref null w) z.1 o.1))))
    fits_shown (s.ClaimsOnly' n q c m row) i w k t =
        let z = and_parts (spec_in p f is c) (spec_row_in p f is row) k in
        let y = and_parts (not i) _ t in
        let x = and_parts _ _ y.1 in
        let v = and_parts _ _ x.1 in
        let o = and_parts (tests.fits p nothing_hidden false c w) (tests.row_fits p nothing_hidden false row w) v.1 in
        and_from _ _ y.0 (and_from _ _ x.0 (and_from _ _ v.0 (and_from _ _ (fits_shown c false w z.0 o.0) (row_fits_shown row false w z.1 o.1))))

    row_fits_shown : {n : _} (row : Row_of-Spec n) (inside : Bool) (w : Scene) → spec_row_in p f is row ≡ true → tests.row_fits p nothing_hidden inside row w ≡ true → tests.row_fits p hid inside row w ≡ true
    row_fits_shown end_of-Spec i w k t = refl
    row_fits_shown (more_of-Spec e row) i w k t =
        let z = and_parts (spec_in p f is e) (spec_row_in p f is row) k in
        let y = and_parts (tests.fits p nothing_hidden i e w) (tests.row_fits p nothing_hidden i row w) t in
        and_from _ _ (fits_shown e i w z.0 y.0) (row_fits_shown row i w z.1 y.1)

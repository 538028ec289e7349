-- The language of a program: its formulas are layered, and those of invariants and of claims' conjuncts say what the annotations say.
use Rattle.std.proofs.lemmas.List.{length-map}
use Rattle.std.proofs.Common.{◌≡◌, ℕ, zero, suc, drop, ◌+◌, ◌-◌, ◌<◌, ◌==◌, nat_le, Bool, true, false, ◌&&◌, if◌then◌else◌, List, [], ◌∷◌, ◌++◌, map, length, Option, Some, None, slice_get, refl, sym, ap, ◌∙◌, subst, arith, IsTrue, pos}
use Rattle.std.specs.Prelude.{slice_index_or, flat_map, option_map}
use Rattle.std.proofs.lemmas.Bool.{eqb-true, and_parts, and_from}
use Rattle.std.proofs.lemmas.Option.{slice_get_within, slice_get-map}
use Rattle.object_types.specs.declared.references.Ref.{Ref}
use Rattle.object_types.specs.declared.values.Value.{Value as Scalar}
use Rattle.object_types.specs.declared.values.Value.TheVariants.{Int, Ref as Refers}
use Rattle.object_types.specs.References.{null as null_ref}
use Rattle.object_types.specs.Values.{truth}
use Rattle.object_types.specs.Sets.{every}
use Rattle.object_types.specs.Heap.{Heap}
use Rattle.method.specs.declared.program.Sort.{Sort as HoleSort}
use Rattle.method.specs.declared.program.Sort.TheVariants.{IntSort, RefSort}
use Rattle.method.specs.declared.program.Spec.{Spec, Row_of-Spec, end_of-Spec, more_of-Spec}
use Rattle.method.specs.declared.program.Spec.TheVariants as s
use Rattle.method.specs.declared.program.StructInfo.{StructInfo}
use Rattle.method.specs.declared.program.Shape.{Shape}
use Rattle.method.specs.declared.program.Program.{Program}
use Rattle.method.specs.Tables.{local, struct_of}
use Rattle.method.specs.WellFormed.{have_sorts, has_sort}
use Rattle.method.specs.SpecValue as v
use Rattle.method.specs.Invariants.{struct_holds, inv_scene}
use Rattle.terms.specs.Formula.{Formula}
use Rattle.term_meaning.specs.RawHeaps.{RawHeap, raw}
use Rattle.condition_meaning.proofs.Near.{Near, NearShows, near_of}
use Rattle.term_meaning.specs.Columns.{holes}
use Rattle.term_meaning.specs.Meaning.{truth as value_truth, Value, BoolValue, PlainValue, HeapValue, Env, Language, Quantified, ref_value, env_of, argument as at_value, Says, StructSays, invariant_of, AllHolds, InvHolds, IsFaithful}
use Rattle.term_meaning.specs.Filling.{IsLayered, speaks_from}
use Rattle.term_meaning.proofs.Filled.{says_by, truth_of_says}
use Rattle.term_meaning.proofs.Values.{gives_one}
use Rattle.axiom_instances.proofs.Kit.{none, node_has}
use Rattle.conditions.specs.Formulas.{null, heap, all_of}
use Rattle.conditions.specs.Annotations.{Scene, symbolic_at, formula, translate, claim_scene}
use Rattle.conditions.specs.Quantified.{QuantifiedFormula, spec_quantifiers, specs_quantifiers, function_quantifiers, program_quantifiers, find_quantifier, struct_words}
use Rattle.condition_meaning.specs.Languages.{struct_scene, invariant_formula, hole_constant, hole_constants, conjunct_formula, formula_of, formulas_from, number_bound, quantifiers_of, invariants_of, conjuncts_of, language_of}
use Rattle.condition_meaning.specs.Fits.{Fits, numbers_from, row_numbers_from}
use Rattle.condition_meaning.specs.Annotated as tests
use Rattle.condition_meaning.specs.Annotated.{Annotated, Each, nothing_hidden, IsListed}
use Rattle.condition_meaning.proofs.Truths as truths
use Rattle.condition_meaning.proofs.Constants.{Speaks, speaks_test}
use Rattle.condition_meaning.proofs.Forms.{SameForm, form_self}
use Rattle.condition_meaning.proofs.Places.{SceneSpeaks, SpeaksValue, test_speaks}
use Rattle.condition_meaning.proofs.Words.{SpeakEach, all_speak, speaks}
use Rattle.condition_meaning.proofs.Scenes.{Match, Stands}
use Rattle.condition_meaning.proofs.Stands.{stands, stands_test}
use Rattle.condition_meaning.proofs.Layers.{Layered, program_layered}
use Rattle.condition_meaning.proofs.Listed.{fits_by_test, each_of, at_number, each_parts}

abbrev Both : Type 0 → Type 0 → Type 0
Both A B = (A → B) × (B → A)

zero_below : (n : ℕ) → nat_le 0 n ≡ true
zero_below n = grind (arith)

mutual
  pub numbers_from_zero : (e : Spec) → numbers_from 0 e ≡ true
  numbers_from_zero (s.Member' q a r b) = and_from _ _ (numbers_from_zero a) (numbers_from_zero b)
  numbers_from_zero (s.Arithmetic' op q a r b) = and_from _ _ (numbers_from_zero a) (numbers_from_zero b)
  numbers_from_zero (s.Compare' op q a r b) = and_from _ _ (numbers_from_zero a) (numbers_from_zero b)
  numbers_from_zero (s.And' q a r b) = and_from _ _ (numbers_from_zero a) (numbers_from_zero b)
  numbers_from_zero (s.Or' q a r b) = and_from _ _ (numbers_from_zero a) (numbers_from_zero b)
  numbers_from_zero (s.Implies' q a r b) = and_from _ _ (numbers_from_zero a) (numbers_from_zero b)
  numbers_from_zero (s.Iff' q a r b) = and_from _ _ (numbers_from_zero a) (numbers_from_zero b)
  numbers_from_zero (s.Choose' q a r b t c) = and_from _ _ (numbers_from_zero a) (and_from _ _ (numbers_from_zero b) (numbers_from_zero c))
  numbers_from_zero (s.ClaimsObject' q a r b) = and_from _ _ (numbers_from_zero a) (numbers_from_zero b)
  numbers_from_zero (s.Claims' q c n row) = and_from _ _ (numbers_from_zero c) (row_numbers_from_zero row)
  numbers_from_zero (s.Field' q e f) = numbers_from_zero e
  numbers_from_zero (s.Closed' q e) = numbers_from_zero e
  numbers_from_zero (s.Owner' q e) = numbers_from_zero e
  numbers_from_zero (s.ClaimCount' q e) = numbers_from_zero e
  numbers_from_zero (s.Not' q e) = numbers_from_zero e
  numbers_from_zero (s.Negate' q e) = numbers_from_zero e
  numbers_from_zero (s.Old' q e) = numbers_from_zero e
  numbers_from_zero (s.Unchanged' q e) = numbers_from_zero e
  numbers_from_zero (s.Wrapped' q e) = numbers_from_zero e
  numbers_from_zero (s.Wrapped0' q e) = numbers_from_zero e
  numbers_from_zero (s.Mutable' q e) = numbers_from_zero e
  numbers_from_zero (s.Fresh' q e) = numbers_from_zero e
  numbers_from_zero (s.Lists' q e) = numbers_from_zero e
  numbers_from_zero (s.ForAll' n ty q e r body) = zero_below n
  numbers_from_zero (s.Exists' n ty q e k row) = zero_below n
  numbers_from_zero (s.ClaimsOnly' n q c k row) = and_from _ _ (zero_below n) (and_from _ _ (numbers_from_zero c) (row_numbers_from_zero row))
  numbers_from_zero _ = refl

  row_numbers_from_zero : {n : _} (row : Row_of-Spec n) → row_numbers_from 0 row ≡ true
  row_numbers_from_zero end_of-Spec = refl
  row_numbers_from_zero (more_of-Spec e row) = and_from _ _ (numbers_from_zero e) (row_numbers_from_zero row)

-- Lists of annotations.

abbrev pub AllFit : Language → (ℕ → Bool) → List Spec → Scene → Type 0
AllFit l hidden [] w = Unit {0}
AllFit l hidden (e ∷ es) w = Fits l hidden false e w × AllFit l hidden es w

module _ (l : Language) where
  -- an annotation's truth
  pub one_is : (a : Spec) (hidden : ℕ → Bool) (e : Env) (x w : Scene) (s : v.Scene) → x.past ≡ false → SameForm x w → Match l hidden false e x s → Fits l hidden false a w → truths.Is l e (formula l.program a x) (v.holds l.program a s)
  one_is a hidden e x w s now form m f = subst (λ b. truths.Is l e (formula l.program a x) (truth (v.value l.program a (record s { after = if b then s.before else s.after; locals = if b then s.entry ++ drop (length s.entry) s.locals else s.locals })))) now (stands_test l e (translate l.program a x) _ (stands l a hidden false e x w s form m f))

  -- conjuncts joined
  pub all_are : (es : List Spec) (hidden : ℕ → Bool) (e : Env) (x w : Scene) (s : v.Scene) → x.past ≡ false → SameForm x w → Match l hidden false e x s → AllFit l hidden es w → truths.Is l e (all_of (map (λ a. formula l.program a x) es)) (every (λ a. v.holds l.program a s) es)
  all_are [] hidden e x w s now form m f = truths.is_yes l e
  all_are (a ∷ []) hidden e x w s now form m f = subst (λ b. truths.Is l e (formula l.program a x) b) (and_true (v.holds l.program a s)) (one_is a hidden e x w s now form m f.0)
    where
      and_true : (b : Bool) → b ≡ (b && true)
      and_true true = refl
      and_true false = refl
  all_are (a ∷ b ∷ es) hidden e x w s now form m f = truths.is_and l e (formula l.program a x) (all_of (map (λ a. formula l.program a x) (b ∷ es))) (v.holds l.program a s) (every (λ a. v.holds l.program a s) (b ∷ es)) (one_is a hidden e x w s now form m f.0) (all_are (b ∷ es) hidden e x w s now form m f.1)

  -- what an annotation's formula says
  pub says_where : (me : Ref) (f : Formula) (vs : List Value) (b : Bool) → speaks_from 0 f ≡ true → truths.Is l (env_of me vs) f b → Both (b ≡ true) (Says l me f vs)
  says_where me f vs b from i = (
    λ h. says_by l me f vs from (λ y g. ap value_truth (gives_one l.program (AllHolds l me) (InvHolds l me) (env_of me vs) f y (BoolValue b) g i.value) ∙ h),
    λ says. truth_of_says l me f vs from says (BoolValue b) i.value,
  )

-- Layers.

speaks_each : (l : Language) (es : List Spec) (hidden : ℕ → Bool) (x w : Scene) → SceneSpeaks (λ n. Unit {0}) 0 hidden x → AllFit l hidden es w → SpeakEach (λ n. Unit {0}) 0 (map (λ a. formula l.program a x) es)
speaks_each l [] hidden x w a f = tt
speaks_each l (e ∷ es) hidden x w a f = (test_speaks (λ n. Unit {0}) 0 (translate l.program e x) (speaks l e (λ n. Unit {0}) 0 hidden false x w a (numbers_from_zero e) f.0), speaks_each l es hidden x w a f.1)

number_is : (n : ℕ) (qs : List QuantifiedFormula) (q : QuantifiedFormula) → find_quantifier n qs ≡ Some q → q.number ≡ n
number_is n [] q h = absurd (cc)
number_is n (r ∷ qs) q h = by_test (r.number == n) refl h (λ g. number_is n qs q g)
  where
    by_test : (t : Bool) → r.number == n ≡ t → (if t then Some r else find_quantifier n qs) ≡ Some q → (find_quantifier n qs ≡ Some q → q.number ≡ n) → q.number ≡ n
    by_test true same g more = let is : r ≡ q = cc in ap (λ (z : QuantifiedFormula). z.number) (sym is) ∙ eqb-true r.number n same
    by_test false other g more = more g

entry_is_so : (p : Program) (n : ℕ) (qs : List QuantifiedFormula) (q : QuantifiedFormula) (P : QuantifiedFormula → Type 0) → Each p P qs → find_quantifier n qs ≡ Some q → P q
entry_is_so p n [] q P a h = absurd (cc)
entry_is_so p n (r ∷ qs) q P a h = by_test (r.number == n) h (λ g. entry_is_so p n qs q P a.1 g)
  where
    by_test : (t : Bool) → (if t then Some r else find_quantifier n qs) ≡ Some q → (find_quantifier n qs ≡ Some q → P q) → P q
    by_test true g more = let is : r ≡ q = cc in subst P is a.0
    by_test false g more = more g

numbers_size : (qs : List QuantifiedFormula) (first k : ℕ) → length (formulas_from qs first k) ≡ k
numbers_size qs first zero = refl
numbers_size qs first (suc k) = ap suc (numbers_size qs (suc first) k)

layered_body : (o : Option QuantifiedFormula) (n : ℕ) → ((q : QuantifiedFormula) → o ≡ Some q → (q.number ≡ n) × (speaks_from (suc q.number) q.body ≡ true)) → speaks_from (suc n) (formula_of o).body ≡ true
layered_body None n h = refl
layered_body (Some q) n h = let z = h q refl in subst (λ k. speaks_from (suc k) q.body ≡ true) z.0 z.1

all_layered : (l : Language) (es : List Spec) (x w : Scene) → SceneSpeaks (λ n. Unit {0}) 0 nothing_hidden x → AllFit l nothing_hidden es w → speaks_from 0 (all_of (map (λ a. formula l.program a x) es)) ≡ true
all_layered l es x w a f = speaks_test (λ n. Unit {0}) 0 (all_of (map (λ a. formula l.program a x) es)) (all_speak (λ n. Unit {0}) 0 (map (λ a. formula l.program a x) es) (speaks_each l es nothing_hidden x w a f))

struct_speaks : SceneSpeaks (λ n. Unit {0}) 0 nothing_hidden struct_scene
struct_speaks = record { after = (tt, refl); before = (tt, refl); me = tt; this = (tt, refl); result = tt; locals = λ i h. nothing i; entry = λ i. nothing i; bound = λ i. nothing_bound i; subject = tt }
  where
    nothing : (i : ℕ) → SpeaksValue (λ n. Unit {0}) 0 (symbolic_at [] i)
    nothing zero = tt
    nothing (suc i) = tt

    nothing_bound : (i : ℕ) → Speaks (λ n. Unit {0}) 0 (slice_index_or [] i null)
    nothing_bound zero = tt
    nothing_bound (suc i) = tt

claim_speaks : (p : Program) (ss : List HoleSort) → SceneSpeaks (λ n. Unit {0}) 0 nothing_hidden (claim_scene p (heap 0) (hole_constants 1 ss))
claim_speaks p ss = record { after = (tt, refl); before = (tt, refl); me = tt; this = tt; result = tt; locals = λ i h. each 1 ss i; entry = λ i. nothing i; bound = λ i. nothing_bound i; subject = tt }
  where
    nothing : (i : ℕ) → SpeaksValue (λ n. Unit {0}) 0 (symbolic_at [] i)
    nothing zero = tt
    nothing (suc i) = tt

    nothing_bound : (i : ℕ) → Speaks (λ n. Unit {0}) 0 (slice_index_or [] i null)
    nothing_bound zero = tt
    nothing_bound (suc i) = tt

    constant : (n : ℕ) (s : HoleSort) → SpeaksValue (λ n. Unit {0}) 0 (hole_constant n s)
    constant n IntSort = (tt, refl)
    constant n RefSort = (tt, refl)

    each : (n : ℕ) (ss : List HoleSort) (i : ℕ) → SpeaksValue (λ n. Unit {0}) 0 (symbolic_at (hole_constants n ss) i)
    each n [] i = nothing i
    each n (s ∷ ss) zero = constant n s
    each n (s ∷ ss) (suc i) = each (n + 1) ss i

struct_form : SameForm struct_scene struct_words
struct_form = record { past = refl; result = refl; locals = refl; entry = refl; bound = refl }

some_mapped : {X Y : Type 0} (f : X → Y) (xs : List X) (n : ℕ) (y : Y) → slice_get (map f xs) n ≡ Some y → (x : X) × (slice_get xs n ≡ Some x) × (f x ≡ y)
some_mapped f [] n y h = absurd (cc)
some_mapped f (x ∷ xs) zero y h = (x, refl, cc)
some_mapped f (x ∷ xs) (suc n) y h = some_mapped f xs n y h

pub at_every : {X : Type 0} (passes : X → Bool) (xs : List X) → every passes xs ≡ true → (n : ℕ) (x : X) → slice_get xs n ≡ Some x → passes x ≡ true
at_every passes [] h n x is = absurd (cc)
at_every passes (y ∷ xs) h zero x is = let same : y ≡ x = cc in ap passes (sym same) ∙ (and_parts (passes y) (every passes xs) h).0
at_every passes (y ∷ xs) h (suc n) x is = at_every passes xs (and_parts (passes y) (every passes xs) h).1 n x is

module _ (p : Program) (good : Annotated p) where
  abbrev l : Language
  l = language_of p

  all_fit : (es : List Spec) (w : Scene) → every (λ e. tests.fits p nothing_hidden false e w) es ≡ true → Each p (IsListed p) (specs_quantifiers p es w) → AllFit l nothing_hidden es w
  all_fit [] w t a = tt
  all_fit (e ∷ es) w t a = let z = and_parts (tests.fits p nothing_hidden false e w) (every (λ e. tests.fits p nothing_hidden false e w) es) t in let y = each_parts p (IsListed p) (spec_quantifiers p e w) (specs_quantifiers p es w) a in (fits_by_test p e nothing_hidden false w z.0 y.0, all_fit es w z.1 y.1)

  struct_fits : (n : ℕ) (s : StructInfo) → slice_get p.structs.items n ≡ Some s → AllFit l nothing_hidden s.invariants.items struct_words
  struct_fits n s is =
      all_fit s.invariants.items struct_words (at_every (tests.struct_fits p) p.structs.items good.structs n s is)
      (each_of p (IsListed p) (λ (c : StructInfo). specs_quantifiers p c.invariants.items struct_words) p.structs.items (each_parts p (IsListed p) (flat_map (λ (c : StructInfo). specs_quantifiers p c.invariants.items struct_words) p.structs.items) (flat_map (λ f. function_quantifiers p f) p.functions.items) good.numbered).0 n s is)

  pub shape_fits : (n : ℕ) (sh : Shape) → slice_get p.shapes.items n ≡ Some sh → Fits l nothing_hidden false sh.conjunct (claim_scene p (heap 0) (hole_constants 1 sh.holes.items))
  shape_fits n sh is =
      let z = and_parts _ _ (at_every (tests.shape_fits p) p.shapes.items good.shapes n sh is) in
      fits_by_test p sh.conjunct nothing_hidden false (claim_scene p (heap 0) (hole_constants 1 sh.holes.items)) z.0 (nothing (spec_quantifiers p sh.conjunct (claim_scene p (heap 0) (hole_constants 1 sh.holes.items))) z.1)
    where
      nothing : (qs : List QuantifiedFormula) → tests.is_empty qs ≡ true → Each p (IsListed p) qs
      nothing [] h = tt
      nothing (q ∷ qs) h = absurd (cc)

  conjunct_layered : (n : ℕ) (sh : Shape) → slice_get p.shapes.items n ≡ Some sh → speaks_from 0 (conjunct_formula p sh) ≡ true
  conjunct_layered n sh is =
      let x = claim_scene p (heap 0) (hole_constants 1 sh.holes.items) in
      speaks_test (λ n. Unit {0}) 0 (conjunct_formula p sh) (test_speaks (λ n. Unit {0}) 0 (translate p sh.conjunct x) (speaks l sh.conjunct (λ n. Unit {0}) 0 nothing_hidden false x x (claim_speaks p sh.holes.items) (numbers_from_zero sh.conjunct) (shape_fits n sh is)))

  -- outer formulas stand before inner ones, and none names an invariant
  pub layered : IsLayered (language_of p)
  unfolding quantifiers_of invariants_of conjuncts_of
  layered = record { bodies = bodies; invariants = invariants; conjuncts = conjuncts }
    where
      bodies : (n : ℕ) (q : Quantified) → slice_get (formulas_from (program_quantifiers p) 0 (number_bound (program_quantifiers p))) n ≡ Some q → speaks_from (suc n) q.body ≡ true
      bodies n q is =
          let below = slice_get_within (formulas_from (program_quantifiers p) 0 (number_bound (program_quantifiers p))) n q is in
          let here = at_number (program_quantifiers p) 0 (number_bound (program_quantifiers p)) n (subst (λ k. n < k) (numbers_size (program_quantifiers p) 0 (number_bound (program_quantifiers p))) below) in
          let same : formula_of (find_quantifier (0 + n) (program_quantifiers p)) ≡ q = cc in
          ap (λ r. speaks_from (suc n) r.body) (sym same) ∙ layered_body (find_quantifier (0 + n) (program_quantifiers p)) n (λ r h. (number_is (0 + n) (program_quantifiers p) r h ∙ (let z : 0 + n ≡ n = omega arith in z), entry_is_so p (0 + n) (program_quantifiers p) r Layered (program_layered p good) h))

      invariants : (n : ℕ) (f : Formula) → slice_get (map (invariant_formula p) p.structs.items) n ≡ Some f → speaks_from 0 f ≡ true
      invariants n f is = let s = some_mapped (invariant_formula p) p.structs.items n f is in ap (speaks_from 0) (sym s.2) ∙ all_layered l s.0.invariants.items struct_scene struct_words struct_speaks (struct_fits n s.0 s.1)

      conjuncts : (n : ℕ) (f : Formula) → slice_get (map (conjunct_formula p) p.shapes.items) n ≡ Some f → speaks_from 0 f ≡ true
      conjuncts n f is = let s = some_mapped (conjunct_formula p) p.shapes.items n f is in ap (speaks_from 0) (sym s.2) ∙ conjunct_layered n s.0 s.1

-- The scenes of invariants and of claims' conjuncts.

no_value : (l : Language) (e : Env) (i : ℕ) → Stands l e (symbolic_at [] i) (local [] i)
no_value l e zero = (pos 0, truths.has_int l e (pos 0), refl)
no_value l e (suc i) = (pos 0, truths.has_int l e (pos 0), refl)

no_bound : (l : Language) (e : Env) (i : ℕ) → truths.Has l e (slice_index_or [] i null) (Refers (slice_index_or [] i null_ref))
no_bound l e zero = truths.has_null l e
no_bound l e (suc i) = truths.has_null l e

struct_match : (l : Language) (me o : Ref) (h k : Heap) (x y : RawHeap) → NearShows l.program h x → NearShows l.program k y → Match l nothing_hidden false (env_of me (ref_value o ∷ HeapValue x ∷ HeapValue y ∷ [])) struct_scene (inv_scene o h k)
struct_match l me o h k x y a b =
    let e = env_of me (ref_value o ∷ HeapValue x ∷ HeapValue y ∷ []) in
    record {
      after = node_has none (sym (ap HeapValue b.is));
      before = node_has none (sym (ap HeapValue a.is));
      me = truths.has_null l e;
      this = node_has none refl;
      locals = λ i s. no_value l e i;
      entry = λ i. no_value l e i;
      entry_size = refl;
      result = no_value l e 0;
      bound = λ i. no_bound l e i;
      subject = (Refers null_ref, truths.has_null l e, refl);
      plain = λ f. refl;
      proper_after = b.proper;
      proper_before = a.proper;
    }

holes_stand : (l : Language) (me : Ref) (all : List Value) (n : ℕ) (ss : List HoleSort) (vs : List Scalar) → have_sorts ss vs ≡ true → ((i : ℕ) → at_value all (n + i) ≡ at_value (map PlainValue vs) i) → (i : ℕ) → Stands l (env_of me all) (symbolic_at (hole_constants n ss) i) (local vs i)
holes_stand l me all n [] [] t h i = no_value l (env_of me all) i
holes_stand l me all n [] (w ∷ vs) t h i = absurd (cc)
holes_stand l me all n (s ∷ ss) [] t h i = absurd (cc)
holes_stand l me all n (s ∷ ss) (w ∷ vs) t h zero = by_sort s w (and_parts (has_sort s w) (have_sorts ss vs) t).0 (ap (at_value all) (let z : n ≡ n + 0 = omega arith in z) ∙ h 0)
  where
    by_sort : (s : HoleSort) (w : Scalar) → has_sort s w ≡ true → at_value all n ≡ PlainValue w → Stands l (env_of me all) (hole_constant n s) w
    by_sort IntSort (Int z) j g = (z, node_has none (sym g), refl)
    by_sort IntSort (Refers r) j g = absurd (cc)
    by_sort RefSort (Int z) j g = absurd (cc)
    by_sort RefSort (Refers r) j g = (r, node_has none (sym g), refl)
holes_stand l me all n (s ∷ ss) (w ∷ vs) t h (suc i) = holes_stand l me all (n + 1) ss vs (and_parts (has_sort s w) (have_sorts ss vs) t).1 (λ j. ap (at_value all) (let z : n + 1 + j ≡ n + suc j = omega arith in z) ∙ h (suc j)) i

claim_match : (l : Language) (me : Ref) (ss : List HoleSort) (vs : List Scalar) (h : Heap) (x : RawHeap) → NearShows l.program h x → have_sorts ss vs ≡ true → Match l nothing_hidden false (env_of me (HeapValue x ∷ map PlainValue vs)) (claim_scene l.program (heap 0) (hole_constants 1 ss)) (v.claim_scene l.program h vs)
claim_match l me ss vs h x a t =
    let e = env_of me (HeapValue x ∷ map PlainValue vs) in
    record {
      after = node_has none (sym (ap HeapValue a.is));
      before = node_has none (sym (ap HeapValue a.is));
      me = truths.has_null l e;
      this = truths.has_null l e;
      locals = λ i s. holes_stand l me (HeapValue x ∷ map PlainValue vs) 1 ss vs t (λ j. ap (at_value (HeapValue x ∷ map PlainValue vs)) (let z : 1 + j ≡ suc j = omega arith in z)) i;
      entry = λ i. no_value l e i;
      entry_size = refl;
      result = no_value l e 0;
      bound = λ i. no_bound l e i;
      subject = (Refers null_ref, truths.has_null l e, refl);
      plain = λ f. refl;
      proper_after = a.proper;
      proper_before = a.proper;
    }

module _ (p : Program) (good : Annotated p) where
  by_info : (me o : Ref) (h k : Heap) (x y : RawHeap) → NearShows p h x → NearShows p k y → (n : ℕ) (info : Option StructInfo) (f : Option Formula) → slice_get p.structs.items n ≡ info → option_map (invariant_formula p) info ≡ f → Both (IsTrue (struct_holds p info (inv_scene o h k))) (StructSays (language_of p) me f o x y)
  by_info me o h k x y a b n None None is same = ((λ t. tt), λ u. refl)
  by_info me o h k x y a b n None (Some f) is same = absurd (cc)
  by_info me o h k x y a b n (Some s) None is same = absurd (cc)
  by_info me o h k x y a b n (Some s) (Some f) is same =
      let is_f : invariant_formula p s ≡ f = cc in
      subst (λ g. Both (IsTrue (struct_holds p (Some s) (inv_scene o h k))) (Says (language_of p) me g (ref_value o ∷ HeapValue x ∷ HeapValue y ∷ []))) is_f
      (says_where (language_of p) me (invariant_formula p s) (ref_value o ∷ HeapValue x ∷ HeapValue y ∷ []) (every (λ e. v.holds p e (inv_scene o h k)) s.invariants.items) (all_layered (language_of p) s.invariants.items struct_scene struct_words struct_speaks (struct_fits p good n s is))
      (all_are (language_of p) s.invariants.items nothing_hidden (env_of me (ref_value o ∷ HeapValue x ∷ HeapValue y ∷ [])) struct_scene struct_words (inv_scene o h k) refl struct_form (struct_match (language_of p) me o h k x y a b) (struct_fits p good n s is)))

  by_type : (me o : Ref) (h k : Heap) (x y : RawHeap) → NearShows p h x → NearShows p k y → (b : Bool) (n : ℕ) → Both (IsTrue (struct_holds p (if b then slice_get p.structs.items n else None) (inv_scene o h k))) (StructSays (language_of p) me (if b then slice_get (map (invariant_formula p) p.structs.items) n else None) o x y)
  by_type me o h k x y a b false n = ((λ t. tt), λ u. refl)
  by_type me o h k x y a b true n = by_info me o h k x y a b n (slice_get p.structs.items n) (slice_get (map (invariant_formula p) p.structs.items) n) refl (sym (slice_get-map (invariant_formula p) p.structs.items n))

  conjunct_says : (me : Ref) (n : ℕ) (f : Formula) (h : Heap) (x : RawHeap) (vs : List Scalar) → NearShows p h x → slice_get (map (conjunct_formula p) p.shapes.items) n ≡ Some f → have_sorts (holes (slice_get p.shapes.items n)) vs ≡ true → Both (IsTrue (v.shape_holds p (slice_get p.shapes.items n) h vs)) (Says (language_of p) me f (HeapValue x ∷ map PlainValue vs))
  conjunct_says me n f h x vs a is sorts =
      let s = some_mapped (conjunct_formula p) p.shapes.items n f is in
      let words = claim_scene p (heap 0) (hole_constants 1 s.0.holes.items) in
      subst (λ o. Both (IsTrue (v.shape_holds p o h vs)) (Says (language_of p) me f (HeapValue x ∷ map PlainValue vs))) (sym s.1)
      (subst (λ g. Both (IsTrue (v.holds p s.0.conjunct (v.claim_scene p h vs))) (Says (language_of p) me g (HeapValue x ∷ map PlainValue vs))) s.2
      (says_where (language_of p) me (conjunct_formula p s.0) (HeapValue x ∷ map PlainValue vs) (v.holds p s.0.conjunct (v.claim_scene p h vs)) (conjunct_layered p good n s.0 s.1)
      (one_is (language_of p) s.0.conjunct nothing_hidden (env_of me (HeapValue x ∷ map PlainValue vs)) words words (v.claim_scene p h vs) refl (form_self words) (claim_match (language_of p) me s.0.holes.items vs h x a (ap (λ o. have_sorts (holes o) vs) (sym s.1) ∙ sorts)) (shape_fits p good n s.0 s.1))))

  -- the formulas of annotations say what the annotations say
  pub faithful : IsFaithful (language_of p)
  unfolding invariants_of conjuncts_of
  faithful = record { each_shape = length-map p.shapes.items (conjunct_formula p); invariant = λ me o h k x y t a b. by_type me o h k x y (record { proper = near_of a.proper; is = a.is }) (record { proper = near_of b.proper; is = b.is }) (nat_le 3 o.ty) (o.ty - 3); conjunct = λ me n f h x vs t a is sorts. conjunct_says me n f h x vs (record { proper = near_of a.proper; is = a.is }) is sorts }

  -- of the heaps that this asks for alone
  pub invariant_near : (me o : Ref) (h k : Heap) → Near p h → Near p k → Both (IsTrue (struct_holds p (struct_of p o.ty) (inv_scene o h k))) (StructSays (language_of p) me (invariant_of (language_of p) o.ty) o (raw p h) (raw p k))
  unfolding invariants_of conjuncts_of
  invariant_near me o h k a b = by_type me o h k (raw p h) (raw p k) (record { proper = a; is = refl }) (record { proper = b; is = refl }) (nat_le 3 o.ty) (o.ty - 3)

  pub conjunct_near : (me : Ref) (n : ℕ) (f : Formula) (h : Heap) (vs : List Scalar) → Near p h → slice_get (language_of p).conjuncts n ≡ Some f → have_sorts (holes (slice_get p.shapes.items n)) vs ≡ true → Both (IsTrue (v.shape_holds p (slice_get p.shapes.items n) h vs)) (Says (language_of p) me f (HeapValue (raw p h) ∷ map PlainValue vs))
  unfolding invariants_of conjuncts_of
  conjunct_near me n f h vs a is sorts = conjunct_says me n f h (raw p h) vs (record { proper = a; is = refl }) is sorts

-- What a translated annotation speaks of: the terms of its scene, and quantified formulas of its text.
use Rattle.std.proofs.Common.{◌≡◌, ℕ, zero, suc, ◌&&◌, Bool, true, false, ◌==◌, if◌then◌else◌, List, [], ◌∷◌, ◌++◌, map, length, refl}
use Rattle.std.specs.Prelude.{pos, nat_lt, nat_le}
use Rattle.std.proofs.lemmas.Bool.{and_parts}
use Rattle.method.specs.declared.program.DeclaredType.{DeclaredType}
use Rattle.method.specs.declared.program.DeclaredType.TheVariants.{Integer, Pointer, Object, Claim}
use Rattle.method.specs.declared.program.Operator.{Operator}
use Rattle.method.specs.declared.program.Operator.TheVariants as o
use Rattle.method.specs.declared.program.Comparison.{Comparison}
use Rattle.method.specs.declared.program.Comparison.TheVariants as c
use Rattle.method.specs.declared.program.Hole.{Hole}
use Rattle.method.specs.declared.program.Hole.TheVariants.{OfVariable, OfBound, OfMe, OfThis, OfResult}
use Rattle.method.specs.declared.program.Spec.{Spec, Row_of-Spec, end_of-Spec, more_of-Spec}
use Rattle.method.specs.declared.program.Spec.TheVariants as s
use Rattle.method.specs.Tables.{type_of_field}
use Rattle.terms.specs.Formula.{Formula}
use Rattle.term_meaning.specs.Meaning.{Language}
use Rattle.conditions.specs.Formulas.{row, null, nat, constants, all_of, eq, and', ite, mode, owner, owns, any_of, is_any, lists}
use Rattle.conditions.specs.Symbolic.{Symbolic, Truth, Number, Reference, term, choose, symbolic_of_type, ranges, compute, compare, is_int}
use Rattle.conditions.specs.Annotations.{Scene, old_as_present, old_scene, bind_ref, with_subject, current_heap, symbolic_at, variable, bound_ref, hole_value, parts, formal_scene, subject_of, free_parts, and_left, body_of_all, body_of_some, translate, tests, body_of_only, terms_of, quantifier}
use Rattle.condition_meaning.specs.Fits.{numbers_from, row_numbers_from, Fits, RowFits, HoleIsVisible, HolesAreVisible}
use Rattle.condition_meaning.proofs.Constants.{Speaks, Speak, EachNumber, each_constant, each_but, but}
use Rattle.condition_meaning.proofs.Forms.{back_at}
use Rattle.condition_meaning.proofs.Places.{part, SpeaksValue, SceneSpeaks, EachPlace, term_speaks, test_speaks, formal_speaks, places_speak}

abbrev pub SpeakEach : (ℕ → Type 0) → ℕ → List Formula → Type 0
SpeakEach P m [] = Unit {0}
SpeakEach P m (f ∷ fs) = Speaks P m f × SpeakEach P m fs

module _ (P : ℕ → Type 0) (m : ℕ) where
  row_speaks : (fs : List Formula) → SpeakEach P m fs → Speak P m (row fs)
  row_speaks [] a = tt
  row_speaks (f ∷ fs) a = (a.0, row_speaks fs a.1)

  pub all_speak : (fs : List Formula) → SpeakEach P m fs → Speaks P m (all_of fs)
  all_speak [] a = tt
  all_speak (f ∷ []) a = a.0
  all_speak (f ∷ g ∷ fs) a = (a.0, (all_speak (g ∷ fs) a.1, tt))

  any_speak : (q : Formula) (os : List Formula) → Speaks P m q → SpeakEach P m os → Speaks P m (any_of (is_any q os))
  any_speak q [] a b = (tt, tt)
  any_speak q (o ∷ []) a b = (a, (b.0, tt))
  any_speak q (o ∷ p ∷ os) a b = ((a, (b.0, tt)), (any_speak q (p ∷ os) a b.1, tt))

  lists_speak : (h c : Formula) (os : List Formula) (last : Formula) → Speaks P m h → Speaks P m c → SpeakEach P m os → Speaks P m last → SpeakEach P m (map (lists h c) os ++ last ∷ [])
  lists_speak h c [] last a b d e = (e, tt)
  lists_speak h c (o ∷ os) last a b d e = (((a, (b, (d.0, tt))), (tt, tt)), lists_speak h c os last a b d.1 e)

  left_speaks : (f : Formula) (fs : List Formula) → Speaks P m f → SpeakEach P m fs → Speaks P m (and_left f fs)
  left_speaks f [] a b = a
  left_speaks f (g ∷ gs) a b = left_speaks (and' f g) gs (a, (b.0, tt)) b.1

  ranges_speak : (ty : DeclaredType) (r : Formula) → Speaks P m r → SpeakEach P m (ranges ty r)
  ranges_speak (Integer k) r a = ((tt, (a, tt)), ((a, (tt, tt)), tt))
  ranges_speak (Pointer n) r a = (((a, (tt, tt)), (((a, tt), (tt, tt)), tt)), tt)
  ranges_speak Object r a = ((((a, tt), (tt, tt)), tt), tt)
  ranges_speak Claim r a = (((a, (tt, tt)), (((a, tt), (tt, tt)), tt)), tt)

  compute_speaks : (op : Operator) (x y : Formula) → Speaks P m x → Speaks P m y → Speaks P m (compute op x y)
  compute_speaks o.Plus x y a b = (a, (b, tt))
  compute_speaks o.Minus x y a b = (a, (b, tt))
  compute_speaks o.Times x y a b = (a, (b, tt))
  compute_speaks o.Over x y a b = (a, (b, tt))
  compute_speaks o.Modulo x y a b = (a, (b, tt))

  compare_speaks : (op : Comparison) (x y : Formula) → Speaks P m x → Speaks P m y → Speaks P m (compare op x y)
  compare_speaks c.Equal x y a b = (a, (b, tt))
  compare_speaks c.NotEqual x y a b = ((a, (b, tt)), tt)
  compare_speaks c.Less x y a b = ((b, (a, tt)), tt)
  compare_speaks c.LessEqual x y a b = (a, (b, tt))
  compare_speaks c.Greater x y a b = ((a, (b, tt)), tt)
  compare_speaks c.GreaterEqual x y a b = (b, (a, tt))

  choice_speaks : (b : Formula) (x y : Symbolic) → Speaks P m b → SpeaksValue P m x → SpeaksValue P m y → SpeaksValue P m (choose b x y)
  choice_speaks b (Truth x) y i j k = (i, ((j, (tt, (tt, tt))), (term_speaks P m y k, tt)))
  choice_speaks b (Number x) y i j k = by_test (is_int (pos 1) (Number x) && is_int (pos 0) y)
    where
      by_test : (t : Bool) → SpeaksValue P m (if t then Truth b else Number (ite b x (term y)))
      by_test true = i
      by_test false = (i, (j, (term_speaks P m y k, tt)))
  choice_speaks b (Reference x) y i j k = (i, (j, (term_speaks P m y k, tt)))

  type_speaks : (ty : DeclaredType) (f : Formula) → Speaks P m f → SpeaksValue P m (symbolic_of_type ty f)
  type_speaks (Integer k) f a = a
  type_speaks (Pointer n) f a = a
  type_speaks Object f a = a
  type_speaks Claim f a = a

  module _ (hidden : ℕ → Bool) where
    now_speaks : (x : Scene) → SceneSpeaks P m hidden x → Speaks P m (current_heap x)
    now_speaks x a = by_test x.past
      where
        by_test : (t : Bool) → Speaks P m (if t then x.before else x.after)
        by_test true = a.before
        by_test false = a.after

    variable_speaks : (x : Scene) (i : ℕ) → SceneSpeaks P m hidden x → hidden i ≡ false → SpeaksValue P m (variable x i)
    variable_speaks x i a v = by_test (x.past && nat_lt i (length x.entry))
      where
        by_test : (t : Bool) → SpeaksValue P m (if t then symbolic_at x.entry i else symbolic_at x.locals i)
        by_test true = a.entry i
        by_test false = a.locals i v

    filling_speaks : (x : Scene) (h : Hole) → SceneSpeaks P m hidden x → HoleIsVisible hidden h → SpeaksValue P m (hole_value x h)
    filling_speaks x (OfVariable i) a v = variable_speaks x i a v
    filling_speaks x (OfBound i) a v = a.bound i
    filling_speaks x OfMe a v = a.me
    filling_speaks x OfThis a v = a.this
    filling_speaks x OfResult a v = a.result

    fillings_speak : (x : Scene) (hs : List Hole) → SceneSpeaks P m hidden x → HolesAreVisible hidden hs → SpeakEach P m (map (λ h. term (hole_value x h)) hs)
    fillings_speak x [] a v = tt
    fillings_speak x (h ∷ hs) a v = (term_speaks P m (hole_value x h) (filling_speaks x h a v.0), fillings_speak x hs a v.1)

    pub old_speaks : (x : Scene) → SceneSpeaks P m hidden x → SceneSpeaks P m hidden (old_scene x)
    old_speaks x a = record { after = a.after; before = a.before; me = a.me; this = a.this; result = a.result; locals = a.locals; entry = a.entry; bound = a.bound; subject = a.subject }

    pub back_speaks : (x : Scene) → SceneSpeaks P m hidden x → SceneSpeaks P m hidden (old_as_present x)
    back_speaks x a = record { after = a.before; before = a.before; me = a.me; this = a.this; result = a.result; locals = λ i v. back_at (SpeaksValue P m) x.entry x.locals i (λ h. a.entry i) (λ h. a.locals i v); entry = a.entry; bound = a.bound; subject = a.subject }

    pub status_speaks : (x : Scene) (t : Formula) → SceneSpeaks P m hidden x → Speaks P m t → Speak P m (row (eq (mode (current_heap x) t) (nat 1) ∷ eq (owner (current_heap x) t) x.me ∷ []))
    status_speaks x t a b = let h = now_speaks x a in (((h, (b, tt)), (tt, tt)), (((h, (b, tt)), (a.me, tt)), tt))

    pub about_speaks : (x : Scene) (f : Formula) → Speaks P m f → SceneSpeaks P m hidden x → SceneSpeaks P m hidden (with_subject f x)
    about_speaks x f b a = record { after = a.after; before = a.before; me = a.me; this = a.this; result = a.result; locals = a.locals; entry = a.entry; bound = a.bound; subject = b }

    pub bind_speaks : (x : Scene) (r : Formula) → Speaks P m r → SceneSpeaks P m hidden x → SceneSpeaks P m hidden (bind_ref r x)
    bind_speaks x r b a = record { after = a.after; before = a.before; me = a.me; this = a.this; result = a.result; locals = a.locals; entry = a.entry; bound = bound; subject = a.subject }
      where
        bound : (i : ℕ) → Speaks P m (bound_ref (bind_ref r x) i)
        bound zero = b
        bound (suc i) = a.bound i

-- the parts of a scene at the places of a body
parts_at : (P : ℕ → Type 0) (m : ℕ) (x : Scene) (ms : List ℕ) → EachNumber (λ n. Speaks P m (part x n) × (n == length (parts x) ≡ false)) ms → SpeakEach P m (map (λ n. part x n) ms)
parts_at P m x [] a = tt
parts_at P m x (n ∷ ms) a = (a.0.0, parts_at P m x ms a.1)

pub free_speak : (P Q : ℕ → Type 0) (m k : ℕ) (x : Scene) (body : Formula) → ((n : ℕ) → Q n → Speaks P m (part x n)) → Speaks Q k body → Speak P m (row (free_parts x body))
free_speak P Q m k x body f a = row_speaks P m (free_parts x body) (parts_at P m x (but (length (parts x)) (constants body [])) (each_more (but (length (parts x)) (constants body [])) (each_but Q (length (parts x)) (constants body []) (each_constant Q k body [] a tt))))
  where
    each_more : (ms : List ℕ) → EachNumber (λ n. Q n × (n == length (parts x) ≡ false)) ms → EachNumber (λ n. Speaks P m (part x n) × (n == length (parts x) ≡ false)) ms
    each_more [] b = tt
    each_more (n ∷ ms) b = ((f n b.0.0, b.0.1), each_more ms b.1)

-- bodies of quantifiers over places that pass
module _ (Q : ℕ → Type 0) (k : ℕ) (hidden : ℕ → Bool) (ty : DeclaredType) (x : Scene) (object : Symbolic) where
  pub all_body_speaks : (passes : Symbolic) → EachPlace Q hidden x → SpeaksValue Q k object → SpeaksValue Q k passes → Speaks Q k (body_of_all ty x object passes)
  all_body_speaks passes each o a =
      (all_speak Q k (ranges ty (subject_of x)) (ranges_speak Q k ty (subject_of x) (each.last, refl)), ((((now_speaks Q k hidden (formal_scene x) (formal_speaks Q k hidden x each), (term_speaks Q k object o, ((each.last, refl), tt))), (tt, tt)), (test_speaks Q k passes a, tt)), tt))

  pub some_body_speaks : (pass : List Formula) → EachPlace Q hidden x → SpeaksValue Q k object → SpeakEach Q k pass → Speaks Q k (body_of_some ty x object pass)
  some_body_speaks pass each o a = (
    all_speak Q k (ranges ty (subject_of x)) (ranges_speak Q k ty (subject_of x) (each.last, refl)),
    ((left_speaks Q k (owns (current_heap (formal_scene x)) (term object) (subject_of x)) pass ((now_speaks Q k hidden (formal_scene x) (formal_speaks Q k hidden x each), (term_speaks Q k object o, ((each.last, refl), tt))), (tt, tt)) a, tt), tt),
  )

pub only_body_speaks : (Q : ℕ → Type 0) (k : ℕ) (hidden : ℕ → Bool) (x : Scene) (claim : Symbolic) (objects : List Formula) → EachPlace Q hidden x → SpeaksValue Q k claim → SpeakEach Q k objects → Speaks Q k (body_of_only x claim objects)
only_body_speaks Q k hidden x claim objects each c os =
    (((now_speaks Q k hidden (formal_scene x) (formal_speaks Q k hidden x each), (term_speaks Q k claim c, ((each.last, refl), tt))), (tt, tt)), (any_speak Q k (subject_of x) objects (each.last, refl) os, tt))

pub subject_speaks : (Q : ℕ → Type 0) (k : ℕ) (hidden : ℕ → Bool) (x : Scene) → EachPlace Q hidden x → SceneSpeaks Q k hidden (bind_ref (subject_of x) (formal_scene x))
subject_speaks Q k hidden x each = bind_speaks Q k hidden (formal_scene x) (subject_of x) (each.last, refl) (formal_speaks Q k hidden x each)

module _ (l : Language) where
  mutual
    pub speaks : (e : Spec) (P : ℕ → Type 0) (m : ℕ) (hidden : ℕ → Bool) (inside : Bool) (x w : Scene) → SceneSpeaks P m hidden x → numbers_from m e ≡ true → Fits l hidden inside e w → SpeaksValue P m (translate l.program e x)
    speaks (s.Number z) P m hid i x w a n f = tt
    speaks (s.Truth true) P m hid i x w a n f = tt
    speaks (s.Truth false) P m hid i x w a n f = (tt, tt)
    speaks s.Null P m hid i x w a n f = tt
    speaks (s.Variable v) P m hid i x w a n f = variable_speaks P m hid x v a f
    speaks (s.Bound v) P m hid i x w a n f = a.bound v
    speaks s.This P m hid i x w a n f = a.this
    speaks s.Me P m hid i x w a n f = a.me
    speaks s.Result P m hid i x w a n f = a.result
    speaks (s.Field' q e g) P m hid i x w a n f = type_speaks P m (type_of_field l.program g) _ (now_speaks P m hid x a, (term_speaks P m (translate l.program e x) (speaks e P m hid i x w a n f.1), tt))
    speaks (s.Closed' q e) P m hid i x w a n f = ((now_speaks P m hid x a, (term_speaks P m (translate l.program e x) (speaks e P m hid i x w a n f), tt)), (tt, tt))
    speaks (s.Owner' q e) P m hid i x w a n f = (now_speaks P m hid x a, (term_speaks P m (translate l.program e x) (speaks e P m hid i x w a n f), tt))
    speaks (s.ClaimCount' q e) P m hid i x w a n f = (now_speaks P m hid x a, (term_speaks P m (translate l.program e x) (speaks e P m hid i x w a n f), tt))
    speaks (s.Member' q b r d) P m hid i x w a n f =
        let t = and_parts (numbers_from m b) (numbers_from m d) n in
        ((now_speaks P m hid x a, (term_speaks P m (translate l.program d x) (speaks d P m hid i x w a t.1 f.1), (term_speaks P m (translate l.program b x) (speaks b P m hid i x w a t.0 f.0), tt))), (tt, tt))
    speaks (s.Not' q e) P m hid i x w a n f = (test_speaks P m (translate l.program e x) (speaks e P m hid i x w a n f), tt)
    speaks (s.Negate' q e) P m hid i x w a n f = (tt, (term_speaks P m (translate l.program e x) (speaks e P m hid i x w a n f), tt))
    speaks (s.Arithmetic' op q b r d) P m hid i x w a n f =
        let t = and_parts (numbers_from m b) (numbers_from m d) n in
        compute_speaks P m op _ _ (term_speaks P m (translate l.program b x) (speaks b P m hid i x w a t.0 f.0)) (term_speaks P m (translate l.program d x) (speaks d P m hid i x w a t.1 f.1))
    speaks (s.Compare' op q b r d) P m hid i x w a n f =
        let t = and_parts (numbers_from m b) (numbers_from m d) n in
        compare_speaks P m op _ _ (term_speaks P m (translate l.program b x) (speaks b P m hid i x w a t.0 f.0)) (term_speaks P m (translate l.program d x) (speaks d P m hid i x w a t.1 f.1))
    speaks (s.And' q b r d) P m hid i x w a n f = let t = and_parts (numbers_from m b) (numbers_from m d) n in (test_speaks P m (translate l.program b x) (speaks b P m hid i x w a t.0 f.0), (test_speaks P m (translate l.program d x) (speaks d P m hid i x w a t.1 f.1), tt))
    speaks (s.Or' q b r d) P m hid i x w a n f = let t = and_parts (numbers_from m b) (numbers_from m d) n in (test_speaks P m (translate l.program b x) (speaks b P m hid i x w a t.0 f.0), (test_speaks P m (translate l.program d x) (speaks d P m hid i x w a t.1 f.1), tt))
    speaks (s.Implies' q b r d) P m hid i x w a n f = let t = and_parts (numbers_from m b) (numbers_from m d) n in (test_speaks P m (translate l.program b x) (speaks b P m hid i x w a t.0 f.0), (test_speaks P m (translate l.program d x) (speaks d P m hid i x w a t.1 f.1), tt))
    speaks (s.Iff' q b r d) P m hid i x w a n f =
        let t = and_parts (numbers_from m b) (numbers_from m d) n in
        let u = test_speaks P m (translate l.program b x) (speaks b P m hid i x w a t.0 f.0) in
        let v = test_speaks P m (translate l.program d x) (speaks d P m hid i x w a t.1 f.1) in
        ((u, (v, tt)), ((v, (u, tt)), tt))
    speaks (s.Choose' q b r d t e) P m hid i x w a n f =
        let t = and_parts (numbers_from m b) (numbers_from m d && numbers_from m e) n in
        let u = and_parts (numbers_from m d) (numbers_from m e) t.1 in
        choice_speaks P m _ _ _ (test_speaks P m (translate l.program b x) (speaks b P m hid i x w a t.0 f.0)) (speaks d P m hid i x w a u.0 f.1) (speaks e P m hid i x w a u.1 f.2)
    speaks (s.Old' q e) P m hid i x w a n f = speaks e P m hid i (old_scene x) (old_scene w) (old_speaks P m hid x a) n f
    speaks (s.Unchanged' q e) P m hid i x w a n f = (term_speaks P m (translate l.program e (old_as_present x)) (speaks e P m hid i (old_as_present x) w (back_speaks P m hid x a) n f.1), (term_speaks P m (translate l.program e x) (speaks e P m hid i x w a n f.1), tt))
    speaks (s.Wrapped' q e) P m hid i x w a n f = status_speaks P m hid x _ a (term_speaks P m (translate l.program e x) (speaks e P m hid i x w a n f))
    speaks (s.Wrapped0' q e) P m hid i x w a n f =
        let h = now_speaks P m hid x a in
        let t = term_speaks P m (translate l.program e x) (speaks e P m hid i x w a n f) in
        (((h, (t, tt)), (tt, tt)), ((((h, (t, tt)), (a.me, tt)), (((h, (t, tt)), (tt, tt)), tt)), tt))
    speaks (s.Mutable' q e) P m hid i x w a n f = status_speaks P m hid x _ a (term_speaks P m (translate l.program e x) (speaks e P m hid i x w a n f))
    speaks (s.Fresh' q e) P m hid i x w a n f = (((a.before, (term_speaks P m (translate l.program e x) (speaks e P m hid i x w a n f), tt)), (a.me, tt)), tt)
    speaks (s.ClaimsObject' q d r o) P m hid i x w a n f =
        let t = and_parts (numbers_from m d) (numbers_from m o) n in
        ((now_speaks P m hid x a, (term_speaks P m (translate l.program d x) (speaks d P m hid i x w a t.0 f.0), (term_speaks P m (translate l.program o x) (speaks o P m hid i x w a t.1 f.1), tt))), (tt, tt))
    speaks (s.Claims' q d k row) P m hid i x w a n f =
        let t = and_parts (numbers_from m d) (row_numbers_from m row) n in
        all_speak P m (tests l.program row (with_subject (term (translate l.program d x)) x)) (row_speak row P m hid true (with_subject (term (translate l.program d x)) x) w (about_speaks P m hid x _ (term_speaks P m (translate l.program d x) (speaks d P m hid i x w a t.0 f.0)) a) t.1 f.1)
    speaks (s.Lists' q o) P m hid i x w a n f = ((now_speaks P m hid x a, (a.subject, (term_speaks P m (translate l.program o x) (speaks o P m hid i x w a n f), tt))), (tt, tt))
    speaks (s.Has k) P m hid i x w a n f = ((now_speaks P m hid x a, row_speaks P m (x.subject ∷ map (λ h. term (hole_value x h)) k.holes.items) (a.subject, fillings_speak P m hid x k.holes.items a f.1)), (tt, tt))
    speaks (s.ForAll' k ty q e r body) P m hid i x w a n f =
        let each : EachPlace (λ j. Speaks P m (part x j)) hid x = places_speak P m hid x a in
        let t = and_parts (numbers_from (suc k) e) (numbers_from (suc k) body) f.2 in (
          n,
          free_speak P (λ j. Speaks P m (part x j)) m (suc k) x (body_of_all ty x (translate l.program e (formal_scene x)) (translate l.program body (bind_ref (subject_of x) (formal_scene x)))) (λ j h. h)
              (all_body_speaks (λ j. Speaks P m (part x j)) (suc k) hid ty x (translate l.program e (formal_scene x)) (translate l.program body (bind_ref (subject_of x) (formal_scene x))) each
              (speaks e (λ j. Speaks P m (part x j)) (suc k) hid false (formal_scene x) w (formal_speaks (λ j. Speaks P m (part x j)) (suc k) hid x each) t.0 f.3)
              (speaks body (λ j. Speaks P m (part x j)) (suc k) hid false (bind_ref (subject_of x) (formal_scene x)) (bind_ref null w) (subject_speaks (λ j. Speaks P m (part x j)) (suc k) hid x each) t.1 f.4)),
        )
    speaks (s.Exists' k ty q e j row) P m hid i x w a n f =
        let each : EachPlace (λ j. Speaks P m (part x j)) hid x = places_speak P m hid x a in
        let t = and_parts (numbers_from (suc k) e) (row_numbers_from (suc k) row) f.2 in (
          (
            n,
            free_speak P (λ j. Speaks P m (part x j)) m (suc k) x (body_of_some ty x (translate l.program e (formal_scene x)) (tests l.program row (bind_ref (subject_of x) (formal_scene x)))) (λ j h. h)
                (some_body_speaks (λ j. Speaks P m (part x j)) (suc k) hid ty x (translate l.program e (formal_scene x)) (tests l.program row (bind_ref (subject_of x) (formal_scene x))) each
                (speaks e (λ j. Speaks P m (part x j)) (suc k) hid false (formal_scene x) w (formal_speaks (λ j. Speaks P m (part x j)) (suc k) hid x each) t.0 f.3)
                (row_speak row (λ j. Speaks P m (part x j)) (suc k) hid false (bind_ref (subject_of x) (formal_scene x)) (bind_ref null w) (subject_speaks (λ j. Speaks P m (part x j)) (suc k) hid x each) t.1 f.4)),
          ),
          tt,
        )
    speaks (s.ClaimsOnly' k q d j row) P m hid i x w a n f =
        let each : EachPlace (λ j. Speaks P m (part x j)) hid x = places_speak P m hid x a in
        let t = and_parts (numbers_from (suc k) d) (row_numbers_from (suc k) row) f.1 in
        let u = and_parts (nat_le m k) (numbers_from m d && row_numbers_from m row) n in
        let v = and_parts (numbers_from m d) (row_numbers_from m row) u.1 in
        let claim = translate l.program d (formal_scene x) in
        let objects = terms_of l.program row (formal_scene x) in
        all_speak P m (map (lists (current_heap x) (term (translate l.program d x))) (terms_of l.program row x) ++ quantifier x k (body_of_only x claim objects) ∷ [])
        (lists_speak P m (current_heap x) (term (translate l.program d x)) (terms_of l.program row x) (quantifier x k (body_of_only x claim objects)) (now_speaks P m hid x a)
        (term_speaks P m (translate l.program d x) (speaks d P m hid false x w a v.0 f.3)) (terms_speak row P m hid false x w a v.1 f.4) (
          u.0,
          free_speak P (λ j. Speaks P m (part x j)) m (suc k) x (body_of_only x claim objects) (λ j h. h)
              (only_body_speaks (λ j. Speaks P m (part x j)) (suc k) hid x claim objects each
              (speaks d (λ j. Speaks P m (part x j)) (suc k) hid false (formal_scene x) w (formal_speaks (λ j. Speaks P m (part x j)) (suc k) hid x each) t.0 f.3)
              (terms_speak row (λ j. Speaks P m (part x j)) (suc k) hid false (formal_scene x) w (formal_speaks (λ j. Speaks P m (part x j)) (suc k) hid x each) t.1 f.4)),
        ))

    pub row_speak : {k : _} (row : Row_of-Spec k) (P : ℕ → Type 0) (m : ℕ) (hidden : ℕ → Bool) (inside : Bool) (x w : Scene) → SceneSpeaks P m hidden x → row_numbers_from m row ≡ true → RowFits l hidden inside row w → SpeakEach P m (tests l.program row x)
    row_speak end_of-Spec P m hid i x w a n f = tt
    row_speak (more_of-Spec e row) P m hid i x w a n f = let t = and_parts (numbers_from m e) (row_numbers_from m row) n in (test_speaks P m (translate l.program e x) (speaks e P m hid i x w a t.0 f.0), row_speak row P m hid i x w a t.1 f.1)

    pub terms_speak : {k : _} (row : Row_of-Spec k) (P : ℕ → Type 0) (m : ℕ) (hidden : ℕ → Bool) (inside : Bool) (x w : Scene) → SceneSpeaks P m hidden x → row_numbers_from m row ≡ true → RowFits l hidden inside row w → SpeakEach P m (terms_of l.program row x)
    terms_speak end_of-Spec P m hid i x w a n f = tt
    terms_speak (more_of-Spec e row) P m hid i x w a n f = let t = and_parts (numbers_from m e) (row_numbers_from m row) n in (term_speaks P m (translate l.program e x) (speaks e P m hid i x w a t.0 f.0), terms_speak row P m hid i x w a t.1 f.1)

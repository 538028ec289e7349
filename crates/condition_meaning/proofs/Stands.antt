-- An annotation's formula stands for its value: one induction over its text.
use Rattle.std.proofs.Math.Bool.{and-true, and_assoc}
use Rattle.std.proofs.Common.{◌≡◌, ℕ, zero, suc, ◌+◌, ◌-◌, inl, inr, ◌≤◌, nat_lt, Bool, true, false, not, ◌&&◌, ◌||◌, if◌then◌else◌, List, [], ◌∷◌, ◌++◌, map, drop, length, get_or, refl, sym, ap, ◌∙◌, subst, arith}
use Rattle.std.specs.Prelude.{pos, slice_index_or}
use Rattle.std.proofs.lemmas.Bool.{and_parts, lt-ltb}
use Rattle.std.proofs.lemmas.List.{get_or_append_left, get_or-append-add, get_or_past}
use Rattle.object_types.specs.declared.references.Ref.{Ref}
use Rattle.object_types.specs.declared.values.Value.{Value as Scalar}
use Rattle.object_types.specs.declared.values.Value.TheVariants.{Int, Ref as Refers}
use Rattle.object_types.specs.References.{null as null_ref, is_reference}
use Rattle.object_types.specs.Values.{referent, truth, says}
use Rattle.object_types.specs.Sets.{is_in, every}
use Rattle.object_types.specs.Shapes.{has_entry}
use Rattle.method.specs.declared.program.Hole.{Hole}
use Rattle.method.specs.declared.program.Hole.TheVariants.{OfVariable, OfBound, OfMe, OfThis, OfResult}
use Rattle.method.specs.declared.program.DeclaredType.{DeclaredType}
use Rattle.method.specs.declared.program.Spec.{Spec, Row_of-Spec, end_of-Spec, more_of-Spec}
use Rattle.method.specs.declared.program.Spec.TheVariants as s
use Rattle.method.specs.declared.program.Operator.TheVariants.{Minus}
use Rattle.method.specs.Tables.{local, in_type}
use Rattle.condition_meaning.proofs.Near.{Near}
use Rattle.method.specs.SpecValue as v
use Rattle.terms.specs.Formula.{Formula}
use Rattle.term_meaning.specs.Meaning.{PlainValue, Env, Language, scalar, argument as at_value}
use Rattle.axiom_instances.proofs.Kit as kit
use Rattle.axiom_instances.proofs.Kit.{HaveAll, none, more}
use Rattle.conditions.specs.Formulas.{row, true_formula, nat, null, reference, all_of, and', not', imp, owns, lists, has_shape, constants, any_of, is_any}
use Rattle.conditions.specs.Symbolic.{Symbolic, Truth, Number, Reference, term, test, choose, ranges}
use Rattle.conditions.specs.Annotations.{Scene, old_as_present, old_scene, bind_ref, with_subject, current_heap, symbolic_at, variable, hole_value, formal_scene, subject_of, quantifier, imp_in_type, iff, and_left, body_of_all, body_of_some, translate, tests, body_of_only, terms_of}
use Rattle.conditions.specs.Quantified.{places, renumber}
use Rattle.conditions.specs.Ways.{StandsFor}
use Rattle.conditions.proofs.Tests.{SameSort}
use Rattle.conditions.proofs.Expressions as code
use Rattle.condition_meaning.specs.Fits as fits
use Rattle.condition_meaning.specs.Fits.{is_ref, is_ref_type, Fits, RowFits, numbers_from, row_numbers_from, HoleIsVisible, HolesAreVisible, are_refs}
use Rattle.condition_meaning.proofs.Truths as truths
use Rattle.condition_meaning.proofs.Columns as columns
use Rattle.condition_meaning.proofs.Constants.{but}
use Rattle.condition_meaning.proofs.Forms.{SameForm, form_then, form_old, form_put_back, back_at, form_bind, form_about, form_formal, formal_same, size_of_parts, sort_same}
use Rattle.condition_meaning.proofs.Places.{below_or, part, SpeaksValue, formal_speaks}
use Rattle.condition_meaning.proofs.Words.{SpeakEach, speaks, row_speak, all_body_speaks, some_body_speaks, subject_speaks, terms_speak, only_body_speaks}
use Rattle.condition_meaning.proofs.Scenes.{Match, Stands, stands_term, part_values, places_have, inner, formal_match, subject_has, bind_match}
use Rattle.condition_meaning.proofs.Quantifiers.{all_stands, every_in, every_from, some_is}

-- the scene, or where it is past the one of before
abbrev pub as_past : Bool → v.Scene → v.Scene
as_past b s = record s { after = if b then s.before else s.after; locals = if b then s.entry ++ drop (length s.entry) s.locals else s.locals }

drop_both : {X : Type 0} (xs ys : List X) → drop (length xs) (xs ++ ys) ≡ ys
drop_both [] ys = refl
drop_both (x ∷ xs) ys = drop_both xs ys

drop_at : {X : Type 0} (n i : ℕ) (xs : List X) (d : X) → get_or (drop n xs) i d ≡ get_or xs (n + i) d
drop_at zero i xs d = ap (λ m. get_or xs m d) (let z : i ≡ 0 + i = omega arith in z)
drop_at (suc n) i [] d = get_or_past [] i d (omega arith) ∙ sym (get_or_past [] (suc n + i) d (omega arith))
drop_at (suc n) i (x ∷ xs) d = drop_at n i xs d ∙ ap (λ m. get_or (x ∷ xs) m d) (let z : suc (n + i) ≡ suc n + i = omega arith in z)

-- behind the parameters the variables are those of now
beyond : (entry locals : List Scalar) (i : ℕ) (d : Scalar) → length entry ≤ i → get_or (entry ++ drop (length entry) locals) i d ≡ get_or locals i d
beyond entry locals i d h =
    let j = i - length entry in
    let split : i ≡ length entry + j = omega (arith, h) in
    ap (λ m. get_or (entry ++ drop (length entry) locals) m d) split ∙ get_or-append-add entry (drop (length entry) locals) j d ∙ drop_at (length entry) j locals d ∙ ap (λ m. get_or locals m d) (sym split)

old_again : (b : Bool) (s : v.Scene) → v.old_scene (as_past b s) ≡ v.old_scene s
old_again true s = ap (λ ls. record s { after = s.before; locals = s.entry ++ ls }) (drop_both s.entry (drop (length s.entry) s.locals))
old_again false s = refl

back_again : (b : Bool) (s : v.Scene) → as_past b (v.old_scene s) ≡ v.old_scene s
back_again true s = ap (λ ls. record s { after = s.before; locals = s.entry ++ ls }) (drop_both s.entry (drop (length s.entry) s.locals))
back_again false s = refl

not_below : (i n : ℕ) → n ≤ i → nat_lt i n ≡ false
not_below i n h = grind (arith, h)

-- A choice between values of one sort.

same_sort : (I : Formula → Bool → Type 0) (H : Formula → Scalar → Type 0) (x y : Symbolic) (a b : Scalar) → StandsFor I H x a → StandsFor I H y b → is_ref x ≡ is_ref y → SameSort a b
same_sort I H (Truth f) (Truth g) a b st su h = subst (λ c. SameSort c b) (sym st.2) (subst (λ c. SameSort (says st.0) c) (sym su.2) tt)
same_sort I H (Truth f) (Number g) a b st su h = subst (λ c. SameSort c b) (sym st.2) (subst (λ c. SameSort (says st.0) c) (sym su.2) tt)
same_sort I H (Truth f) (Reference g) a b st su h = absurd (cc)
same_sort I H (Number f) (Truth g) a b st su h = subst (λ c. SameSort c b) (sym st.2) (subst (λ c. SameSort (Int st.0) c) (sym su.2) tt)
same_sort I H (Number f) (Number g) a b st su h = subst (λ c. SameSort c b) (sym st.2) (subst (λ c. SameSort (Int st.0) c) (sym su.2) tt)
same_sort I H (Number f) (Reference g) a b st su h = absurd (cc)
same_sort I H (Reference f) (Truth g) a b st su h = absurd (cc)
same_sort I H (Reference f) (Number g) a b st su h = absurd (cc)
same_sort I H (Reference f) (Reference g) a b st su h = subst (λ c. SameSort c b) (sym st.2) (subst (λ c. SameSort (Refers st.0) c) (sym su.2) tt)

-- Members that pass.

in_range_and_set : (i t b : Bool) → (t ≡ true → (not i || b) ≡ true) → (not i || (not t || b)) ≡ true
in_range_and_set true true b h = h refl
in_range_and_set true false b h = refl
in_range_and_set false t b h = refl

of_member : (i t b : Bool) → t ≡ true → (not i || (not t || b)) ≡ true → (not i || b) ≡ true
of_member true true b e h = h
of_member true false b e h = absurd (cc)
of_member false t b e h = refl

in_range_denied : (i t b : Bool) → (t ≡ true → not (i && b) ≡ true) → (not i || not (t && b)) ≡ true
in_range_denied true true b h = h refl
in_range_denied true false b h = refl
in_range_denied false t b h = refl

of_denied : (i t b : Bool) → t ≡ true → (not i || not (t && b)) ≡ true → not (i && b) ≡ true
of_denied true true b e h = h
of_denied true false b e h = absurd (cc)
of_denied false t b e h = refl

both_ways_same : (a b : Bool) → ((not a || b) && (not b || a)) ≡ (if a then b else not b)
both_ways_same true true = refl
both_ways_same true false = refl
both_ways_same false true = refl
both_ways_same false false = refl

scalars : (f : Hole → Scalar) (hs : List Hole) → map scalar (map (λ h. PlainValue (f h)) hs) ≡ map f hs
scalars f [] = refl
scalars f (h ∷ hs) = ap (λ vs. f h ∷ vs) (scalars f hs)

implied : (i b : Bool) → (i ≡ true → b ≡ true) → (not i || b) ≡ true
implied true b h = h refl
implied false b h = refl

of_implied : (i b : Bool) → i ≡ true → (not i || b) ≡ true → b ≡ true
of_implied true b e h = h
of_implied false b e h = absurd (cc)

module _ (l : Language) where
  module _ (e : Env) where
    pub stands_test : (x : Symbolic) (a : Scalar) → Stands l e x a → truths.Is l e (test x) (truth a)
    stands_test = code.stands_test (truths.Is l e) (truths.Has l e) (truths.is_not l e) (truths.is_and l e) (truths.is_or l e) (truths.is_imp l e) (truths.is_eq l e) (truths.is_compare l e) (truths.has_int l e) (truths.has_null l e) (truths.has_ite l e) (truths.has_compute l e) (truths.only_int l e) (truths.is_in_range l e)

    stands_choose : (b : Formula) (x y : Symbolic) (t : Bool) (u c : Scalar) → truths.Is l e b t → Stands l e x u → Stands l e y c → is_ref x ≡ is_ref y → Stands l e (choose b x y) (if t then u else c)
    stands_choose b x y t u c i j k same = code.stands_choose (truths.Is l e) (truths.Has l e) (truths.is_not l e) (truths.is_and l e) (truths.is_or l e) (truths.is_imp l e) (truths.is_eq l e) (truths.is_compare l e) (truths.has_int l e) (truths.has_null l e) (truths.has_ite l e) (truths.has_compute l e) (truths.only_int l e) (truths.is_in_range l e) b x y t u c i j k (same_sort (truths.Is l e) (truths.Has l e) x y u c j k same)

    pub ref_stands : (x : Symbolic) (a : Scalar) → is_ref x ≡ true → Stands l e x a → truths.Has l e (term x) (Refers (referent a))
    ref_stands (Truth f) a r st = absurd (cc)
    ref_stands (Number f) a r st = absurd (cc)
    ref_stands (Reference f) a r st = subst (λ b. truths.Has l e f (Refers (referent b))) (sym st.2) st.1

  module _ (hidden : ℕ → Bool) (inside : Bool) (e : Env) (x : Scene) (s : v.Scene) (m : Match l hidden inside e x s) where
    now_has : truths.HeapIs l e (current_heap x) (as_past x.past s).after
    now_has = by_past x.past
      where
        by_past : (b : Bool) → truths.HeapIs l e (if b then x.before else x.after) (if b then s.before else s.after)
        by_past true = m.before
        by_past false = m.after

    now_proper : Near l.program (as_past x.past s).after
    now_proper = by_past x.past
      where
        by_past : (b : Bool) → Near l.program (if b then s.before else s.after)
        by_past true = m.proper_before
        by_past false = m.proper_after

    variable_stands : (i : ℕ) → hidden i ≡ false → Stands l e (variable x i) (local (as_past x.past s).locals i)
    variable_stands i shown = by_past x.past
      where
        by_past : (b : Bool) → Stands l e (if b && nat_lt i (length x.entry) then symbolic_at x.entry i else symbolic_at x.locals i) (local (if b then s.entry ++ drop (length s.entry) s.locals else s.locals) i)
        by_past true =
            elim (below_or i (length x.entry)) [
              | inl h ↦ subst (λ t. Stands l e (if t then symbolic_at x.entry i else symbolic_at x.locals i) (local (s.entry ++ drop (length s.entry) s.locals) i)) (sym (lt-ltb i (length x.entry) h)) (subst (λ a. Stands l e (symbolic_at x.entry i) a) (sym (get_or_append_left s.entry (drop (length s.entry) s.locals) (Int (pos 0)) i (omega (arith, h, m.entry_size)))) (m.entry i))
              | inr h ↦ subst (λ t. Stands l e (if t then symbolic_at x.entry i else symbolic_at x.locals i) (local (s.entry ++ drop (length s.entry) s.locals) i)) (sym (not_below i (length x.entry) h)) (subst (λ a. Stands l e (symbolic_at x.locals i) a) (sym (beyond s.entry s.locals i (Int (pos 0)) (omega (arith, h, m.entry_size)))) (m.locals i shown))
            ]
        by_past false = m.locals i shown

    pub filling_stands : (h : Hole) → HoleIsVisible hidden h → Stands l e (hole_value x h) (v.filling (as_past x.past s) h)
    filling_stands (OfVariable i) shown = variable_stands i shown
    filling_stands (OfBound i) shown = (slice_index_or s.bound i null_ref, m.bound i, refl)
    filling_stands OfMe shown = (s.me, m.me, refl)
    filling_stands OfThis shown = (s.this, m.this, refl)
    filling_stands OfResult shown = m.result

    fillings_have : (hs : List Hole) → HolesAreVisible hidden hs → HaveAll l e (row (map (λ h. term (hole_value x h)) hs)) (map (λ h. PlainValue (v.filling (as_past x.past s) h)) hs)
    fillings_have [] shown = none
    fillings_have (h ∷ hs) shown = more (stands_term l e (hole_value x h) (v.filling (as_past x.past s) h) (filling_stands h shown.0)) (fillings_have hs shown.1)

  old_match : (hidden : ℕ → Bool) (inside : Bool) (e : Env) (x : Scene) (s : v.Scene) → Match l hidden inside e x s → Match l hidden inside e (old_scene x) s
  old_match hidden inside e x s m = record { after = m.after; before = m.before; me = m.me; this = m.this; locals = m.locals; entry = m.entry; entry_size = m.entry_size; result = m.result; bound = m.bound; subject = m.subject; plain = m.plain; proper_after = m.proper_after; proper_before = m.proper_before }

  back_match : (hidden : ℕ → Bool) (inside : Bool) (e : Env) (x : Scene) (s : v.Scene) → Match l hidden inside e x s → Match l hidden inside e (old_as_present x) (v.old_scene s)
  back_match hidden inside e x s m =
      record { after = m.before; before = m.before; me = m.me; this = m.this; locals = locals; entry = m.entry; entry_size = m.entry_size; result = m.result; bound = m.bound; subject = m.subject; plain = m.plain; proper_after = m.proper_before; proper_before = m.proper_before }
    where
      locals : (i : ℕ) → hidden i ≡ false → Stands l e (symbolic_at (x.entry ++ drop (length x.entry) x.locals) i) (local (s.entry ++ drop (length s.entry) s.locals) i)
      locals i shown =
          back_at (λ w. Stands l e w (local (s.entry ++ drop (length s.entry) s.locals) i)) x.entry x.locals i
          (λ h. subst (λ a. Stands l e (symbolic_at x.entry i) a) (sym (get_or_append_left s.entry (drop (length s.entry) s.locals) (Int (pos 0)) i (omega (arith, h, m.entry_size)))) (m.entry i))
          (λ h. subst (λ a. Stands l e (symbolic_at x.locals i) a) (sym (beyond s.entry s.locals i (Int (pos 0)) (omega (arith, h, m.entry_size)))) (m.locals i shown))

  about_match : (hidden : ℕ → Bool) (inside : Bool) (e : Env) (x : Scene) (s : v.Scene) (c : Formula) (a : Scalar) → truths.Has l e c a → Match l hidden inside e x s → Match l hidden true e (with_subject c x) (v.about (referent a) s)
  about_match hidden inside e x s c a h m = record { after = m.after; before = m.before; me = m.me; this = m.this; locals = m.locals; entry = m.entry; entry_size = m.entry_size; result = m.result; bound = m.bound; subject = (a, h, refl); plain = λ f. absurd (cc); proper_after = m.proper_after; proper_before = m.proper_before }

  -- A quantifier, from its parts.
  module _ (hidden : ℕ → Bool) (inside : Bool) (e : Env) (x : Scene) (s : v.Scene) (m : Match l hidden inside e x s) (out : inside ≡ false) (n : ℕ) where
    abbrev P : ℕ → Type 0
    P k = kit.Has l e (part x k) (at_value (part_values l x s) k)

    abbrev F : Ref → Env
    F q = inner l hidden inside e x s m e.me q

    formal_now : (q : Ref) → truths.HeapIs l (F q) (current_heap (formal_scene x)) (as_past x.past s).after
    formal_now q = now_has hidden false (F q) (formal_scene x) s (formal_match l hidden inside e x s m e.me q out)

    subject_in : (q : Ref) → truths.Has l (F q) (subject_of x) (Refers q)
    subject_in q = subject_has l hidden inside e x s m e.me q

    module _ (ty : DeclaredType) (refs : is_ref_type ty ≡ true) (object : Symbolic) (owner : Scalar) where
      abbrev set : List Ref
      set = ((as_past x.past s).after.get (referent owner)).owned

      members_named : (q : Ref) → is_in q set ≡ true → is_reference q ≡ true
      members_named q here = every_in is_reference q set ((now_proper hidden inside e x s m).owned_are (referent owner)) here

      abbrev in_ty : Ref → Bool
      in_ty q = in_type ty (Refers q)

      is_member : (q : Ref) → Stands l (F q) object owner → truths.Is l (F q) (owns (current_heap (formal_scene x)) (term object) (subject_of x)) (is_in q set)
      is_member q o = columns.is_owned l (F q) (current_heap (formal_scene x)) (as_past x.past s).after (formal_now q) (term object) (subject_of x) owner (Refers q) (stands_term l (F q) object owner o) (subject_in q)

      in_range : (q : Ref) → is_reference q ≡ true → truths.Is l (F q) (all_of (ranges ty (subject_of x))) (in_ty q)
      in_range q named = columns.is_ref_in_type l (F q) ty (subject_of x) q refs named (subject_in q)

      all_clause : (passes : Symbolic) (bits : Ref → Bool) → SpeaksValue P (suc n) object → SpeaksValue P (suc n) passes
          → (let b = body_of_all ty x object passes in fits.HasBody l n (renumber (places x b) b))
          → ((q : Ref) → Stands l (F q) object owner) → ((q : Ref) → truths.Is l (F q) (test passes) (bits q))
          → truths.Is l e (quantifier x n (body_of_all ty x object passes)) (every (λ q. not (in_ty q) || bits q) set)
      all_clause passes bits so sp stands o p =
          all_stands l hidden inside e x s m n (body_of_all ty x object passes) (all_body_speaks P (suc n) hidden ty x object passes (places_have l hidden inside e x s m) so sp) stands
          (λ q. not (in_ty q) || (not (is_in q set) || bits q))
          (λ q named. truths.is_imp l (F q) (all_of (ranges ty (subject_of x))) (imp (owns (current_heap (formal_scene x)) (term object) (subject_of x)) (test passes)) (in_ty q) (not (is_in q set) || bits q) (in_range q named) (truths.is_imp l (F q) (owns (current_heap (formal_scene x)) (term object) (subject_of x)) (test passes) (is_in q set) (bits q) (is_member q (o q)) (p q)))
          (every (λ q. not (in_ty q) || bits q) set)
          (λ h q named. in_range_and_set (in_ty q) (is_in q set) (bits q) (λ here. every_in (λ q. not (in_ty q) || bits q) q set h here))
          (λ h. every_from (λ q. not (in_ty q) || bits q) set (λ q here. of_member (in_ty q) (is_in q set) (bits q) here (h q (members_named q here))))

      some_clause : (pass : List Formula) (bits : Ref → Bool) → SpeaksValue P (suc n) object → SpeakEach P (suc n) pass
          → (let b = body_of_some ty x object pass in fits.HasBody l n (renumber (places x b) b))
          → ((q : Ref) → Stands l (F q) object owner) → ((q : Ref) → (f : Formula) (b : Bool) → truths.Is l (F q) f b → truths.Is l (F q) (and_left f pass) (b && bits q))
          → truths.Is l e (quantifier x n (body_of_some ty x object pass)) (every (λ q. not (in_ty q && bits q)) set)
      some_clause pass bits so sp stands o p =
          all_stands l hidden inside e x s m n (body_of_some ty x object pass) (some_body_speaks P (suc n) hidden ty x object pass (places_have l hidden inside e x s m) so sp) stands
          (λ q. not (in_ty q) || not (is_in q set && bits q))
          (λ q named. truths.is_imp l (F q) (all_of (ranges ty (subject_of x))) (not' (and_left (owns (current_heap (formal_scene x)) (term object) (subject_of x)) pass)) (in_ty q) (not (is_in q set && bits q)) (in_range q named) (truths.is_not l (F q) (and_left (owns (current_heap (formal_scene x)) (term object) (subject_of x)) pass) (is_in q set && bits q) (p q (owns (current_heap (formal_scene x)) (term object) (subject_of x)) (is_in q set) (is_member q (o q)))))
          (every (λ q. not (in_ty q && bits q)) set)
          (λ h q named. in_range_denied (in_ty q) (is_in q set) (bits q) (λ here. every_in (λ q. not (in_ty q && bits q)) q set h here))
          (λ h. every_from (λ q. not (in_ty q && bits q)) set (λ q here. of_denied (in_ty q) (is_in q set) (bits q) here (h q (members_named q here))))

    -- A claim's exact set, from its parts.
    module _ (claim : Symbolic) (value : Scalar) (objects : List Formula) (refs : List Ref) where
      abbrev claimed : List Ref
      claimed = ((as_past x.past s).after.get (referent value)).listed

      claimed_named : (q : Ref) → is_in q claimed ≡ true → is_reference q ≡ true
      claimed_named q here = every_in is_reference q claimed ((now_proper hidden inside e x s m).listed_are (referent value)) here

      only_clause : SpeaksValue P (suc n) claim → SpeakEach P (suc n) objects → (let b = body_of_only x claim objects in fits.HasBody l n (renumber (places x b) b))
          → ((q : Ref) → Stands l (F q) claim value) → ((q : Ref) → columns.AreRefs l (F q) objects refs)
          → truths.Is l e (quantifier x n (body_of_only x claim objects)) (every (λ q. is_in q refs) claimed)
      only_clause sc so stands c os =
          all_stands l hidden inside e x s m n (body_of_only x claim objects) (only_body_speaks P (suc n) hidden x claim objects (places_have l hidden inside e x s m) sc so) stands
          (λ q. not (is_in q claimed) || is_in q refs)
          (λ q named. truths.is_imp l (F q) (lists (current_heap (formal_scene x)) (term claim) (subject_of x)) (any_of (is_any (subject_of x) objects)) (is_in q claimed) (is_in q refs) (columns.is_listed l (F q) (current_heap (formal_scene x)) (as_past x.past s).after (formal_now q) (term claim) (subject_of x) value (Refers q) (stands_term l (F q) claim value (c q)) (subject_in q)) (columns.is_among l (F q) (subject_of x) q objects refs (os q) (subject_in q)))
          (every (λ q. is_in q refs) claimed)
          (λ h q named. implied (is_in q claimed) (is_in q refs) (λ here. every_in (λ o. is_in o refs) q claimed h here))
          (λ h. every_from (λ o. is_in o refs) claimed (λ q here. of_implied (is_in q claimed) (is_in q refs) here (h q (claimed_named q here))))

  -- The table's formula, by a scene of the same form.
  same_all_body : (x w : Scene) (ty : DeclaredType) (n : ℕ) (e body : Spec) → SameForm x w
      → (let b = body_of_all ty w (translate l.program e (formal_scene w)) (translate l.program body (bind_ref (subject_of w) (formal_scene w))) in fits.HasBody l n (renumber (places w b) b))
      → (let b = body_of_all ty x (translate l.program e (formal_scene x)) (translate l.program body (bind_ref (subject_of x) (formal_scene x))) in fits.HasBody l n (renumber (places x b) b))
  same_all_body x w ty n e body form h = (h.0, h.1, h.2 ∙ sym (λ i. at_form (formal_same x w form i) (size_of_parts x w form i)))
    where
      at_form : Scene → ℕ → Formula
      at_form y k =
          let f : Formula = imp_in_type ty (reference k) (imp (owns (current_heap y) (term (translate l.program e y)) (reference k)) (test (translate l.program body (bind_ref (reference k) y)))) in
          renumber (but k (constants f [])) f

  same_some_body : (x w : Scene) (ty : DeclaredType) (n : ℕ) (e : Spec) {k : _} (row : Row_of-Spec k) → SameForm x w
      → (let b = body_of_some ty w (translate l.program e (formal_scene w)) (tests l.program row (bind_ref (subject_of w) (formal_scene w))) in fits.HasBody l n (renumber (places w b) b))
      → (let b = body_of_some ty x (translate l.program e (formal_scene x)) (tests l.program row (bind_ref (subject_of x) (formal_scene x))) in fits.HasBody l n (renumber (places x b) b))
  same_some_body x w ty n e {k} row form h = (h.0, h.1, h.2 ∙ sym (λ i. at_form (formal_same x w form i) (size_of_parts x w form i)))
    where
      at_form : Scene → ℕ → Formula
      at_form y j =
          let f : Formula = imp_in_type ty (reference j) (not' (and_left (owns (current_heap y) (term (translate l.program e y)) (reference j)) (tests l.program row (bind_ref (reference j) y)))) in
          renumber (but j (constants f [])) f

  same_only_body : (x w : Scene) (n : ℕ) (c : Spec) {k : _} (row : Row_of-Spec k) → SameForm x w
      → (let b = body_of_only w (translate l.program c (formal_scene w)) (terms_of l.program row (formal_scene w)) in fits.HasBody l n (renumber (places w b) b))
      → (let b = body_of_only x (translate l.program c (formal_scene x)) (terms_of l.program row (formal_scene x)) in fits.HasBody l n (renumber (places x b) b))
  same_only_body x w n c {k} row form h = (h.0, h.1, h.2 ∙ sym (λ i. at_form (formal_same x w form i) (size_of_parts x w form i)))
    where
      at_form : Scene → ℕ → Formula
      at_form y j =
          let f : Formula = imp (lists (current_heap y) (term (translate l.program c y)) (reference j)) (any_of (is_any (reference j) (terms_of l.program row y))) in
          renumber (but j (constants f [])) f

  -- the conjuncts of a row, each with its truth value
  abbrev RowIs : {k : _} → Row_of-Spec k → Env → Scene → v.Scene → Type 0
  RowIs end_of-Spec e x s = Unit {0}
  RowIs (more_of-Spec a row) e x s = truths.Is l e (test (translate l.program a x)) (truth (v.value l.program a s)) × RowIs row e x s

  all_row : {k : _} (row : Row_of-Spec k) (e : Env) (x : Scene) (s : v.Scene) → RowIs row e x s → truths.Is l e (all_of (tests l.program row x)) (v.all_hold l.program row s)
  all_row end_of-Spec e x s a = truths.is_yes l e
  all_row (more_of-Spec f end_of-Spec) e x s a = subst (λ b. truths.Is l e (test (translate l.program f x)) b) (sym (and-true _)) a.0
  all_row (more_of-Spec f (more_of-Spec g row)) e x s a = truths.is_and l e (test (translate l.program f x)) (all_of (tests l.program (more_of-Spec g row) x)) (truth (v.value l.program f s)) (v.all_hold l.program (more_of-Spec g row) s) a.0 (all_row (more_of-Spec g row) e x s a.1)

  left_row : {k : _} (row : Row_of-Spec k) (e : Env) (x : Scene) (s : v.Scene) → RowIs row e x s → (f : Formula) (b : Bool) → truths.Is l e f b → truths.Is l e (and_left f (tests l.program row x)) (b && v.all_hold l.program row s)
  left_row end_of-Spec e x s a f b i = subst (λ c. truths.Is l e f c) (sym (and-true b)) i
  left_row (more_of-Spec g row) e x s a f b i = subst (λ c. truths.Is l e (and_left (and' f (test (translate l.program g x))) (tests l.program row x)) c) (and_assoc b (truth (v.value l.program g s)) (v.all_hold l.program row s)) (left_row row e x s a.1 (and' f (test (translate l.program g x))) (b && truth (v.value l.program g s)) (truths.is_and l e f (test (translate l.program g x)) b (truth (v.value l.program g s)) i a.0))

  of_bool : (e : Env) (f : Formula) (b : Bool) → truths.Is l e f b → Stands l e (Truth f) (says b)
  of_bool e f b i = (b, i, refl)

  mutual
    -- the formula stands for the value
    pub stands : (a : Spec) (hidden : ℕ → Bool) (inside : Bool) (e : Env) (x w : Scene) (s : v.Scene) → SameForm x w → Match l hidden inside e x s → Fits l hidden inside a w → Stands l e (translate l.program a x) (v.value l.program a (as_past x.past s))
    stands (s.Number z) hid i e x w c form m f = (z, truths.has_int l e z, refl)
    stands (s.Truth true) hid i e x w c form m f = (true, truths.is_yes l e, refl)
    stands (s.Truth false) hid i e x w c form m f = (false, truths.is_not l e true_formula true (truths.is_yes l e), refl)
    stands s.Null hid i e x w c form m f = (null_ref, truths.has_null l e, refl)
    stands (s.Variable j) hid i e x w c form m f = variable_stands hid i e x c m j f
    stands (s.Bound j) hid i e x w c form m f = (slice_index_or c.bound j null_ref, m.bound j, refl)
    stands s.This hid i e x w c form m f = (c.this, m.this, refl)
    stands s.Me hid i e x w c form m f = (c.me, m.me, refl)
    stands s.Result hid i e x w c form m f = m.result
    stands (s.Field' q a g) hid i e x w c form m f =
        columns.field_stands l e (current_heap x) (as_past x.past c).after (now_has hid i e x c m) (term (translate l.program a x)) (v.value l.program a (as_past x.past c)) g (now_proper hid i e x c m) f.0 (stands_term l e (translate l.program a x) (v.value l.program a (as_past x.past c)) (stands a hid i e x w c form m f.1))
    stands (s.Closed' q a) hid i e x w c form m f = of_bool e _ _ (columns.is_closed_term l e (current_heap x) (as_past x.past c).after (now_has hid i e x c m) (term (translate l.program a x)) (v.value l.program a (as_past x.past c)) (stands_term l e (translate l.program a x) (v.value l.program a (as_past x.past c)) (stands a hid i e x w c form m f)))
    stands (s.Owner' q a) hid i e x w c form m f = (_, columns.has_owner l e (current_heap x) (as_past x.past c).after (now_has hid i e x c m) (term (translate l.program a x)) (v.value l.program a (as_past x.past c)) (stands_term l e (translate l.program a x) (v.value l.program a (as_past x.past c)) (stands a hid i e x w c form m f)), refl)
    stands (s.ClaimCount' q a) hid i e x w c form m f = (_, columns.has_count l e (current_heap x) (as_past x.past c).after (now_has hid i e x c m) (term (translate l.program a x)) (v.value l.program a (as_past x.past c)) (stands_term l e (translate l.program a x) (v.value l.program a (as_past x.past c)) (stands a hid i e x w c form m f)), refl)
    stands (s.Member' q a r b) hid i e x w c form m f =
        of_bool e _ _ (columns.is_owned l e (current_heap x) (as_past x.past c).after (now_has hid i e x c m) (term (translate l.program b x)) (term (translate l.program a x)) (v.value l.program b (as_past x.past c)) (v.value l.program a (as_past x.past c)) (stands_term l e (translate l.program b x) (v.value l.program b (as_past x.past c)) (stands b hid i e x w c form m f.1)) (stands_term l e (translate l.program a x) (v.value l.program a (as_past x.past c)) (stands a hid i e x w c form m f.0)))
    stands (s.Not' q a) hid i e x w c form m f = of_bool e _ _ (truths.is_not l e _ _ (stands_test e (translate l.program a x) (v.value l.program a (as_past x.past c)) (stands a hid i e x w c form m f)))
    stands (s.Negate' q a) hid i e x w c form m f = (_, truths.has_compute l e Minus (nat 0) (term (translate l.program a x)) (Int (pos 0)) (v.value l.program a (as_past x.past c)) (truths.has_int l e (pos 0)) (stands_term l e (translate l.program a x) (v.value l.program a (as_past x.past c)) (stands a hid i e x w c form m f)), refl)
    stands (s.Arithmetic' op q a r b) hid i e x w c form m f =
        (_, truths.has_compute l e op (term (translate l.program a x)) (term (translate l.program b x)) (v.value l.program a (as_past x.past c)) (v.value l.program b (as_past x.past c)) (stands_term l e (translate l.program a x) (v.value l.program a (as_past x.past c)) (stands a hid i e x w c form m f.0)) (stands_term l e (translate l.program b x) (v.value l.program b (as_past x.past c)) (stands b hid i e x w c form m f.1)), refl)
    stands (s.Compare' op q a r b) hid i e x w c form m f =
        of_bool e _ _ (truths.is_compare l e op (term (translate l.program a x)) (term (translate l.program b x)) (v.value l.program a (as_past x.past c)) (v.value l.program b (as_past x.past c)) (stands_term l e (translate l.program a x) (v.value l.program a (as_past x.past c)) (stands a hid i e x w c form m f.0)) (stands_term l e (translate l.program b x) (v.value l.program b (as_past x.past c)) (stands b hid i e x w c form m f.1)))
    stands (s.And' q a r b) hid i e x w c form m f = of_bool e _ _ (truths.is_and l e _ _ _ _ (stands_test e (translate l.program a x) (v.value l.program a (as_past x.past c)) (stands a hid i e x w c form m f.0)) (stands_test e (translate l.program b x) (v.value l.program b (as_past x.past c)) (stands b hid i e x w c form m f.1)))
    stands (s.Or' q a r b) hid i e x w c form m f = of_bool e _ _ (truths.is_or l e _ _ _ _ (stands_test e (translate l.program a x) (v.value l.program a (as_past x.past c)) (stands a hid i e x w c form m f.0)) (stands_test e (translate l.program b x) (v.value l.program b (as_past x.past c)) (stands b hid i e x w c form m f.1)))
    stands (s.Implies' q a r b) hid i e x w c form m f = of_bool e _ _ (truths.is_imp l e _ _ _ _ (stands_test e (translate l.program a x) (v.value l.program a (as_past x.past c)) (stands a hid i e x w c form m f.0)) (stands_test e (translate l.program b x) (v.value l.program b (as_past x.past c)) (stands b hid i e x w c form m f.1)))
    stands (s.Iff' q a r b) hid i e x w c form m f =
        let j = stands_test e (translate l.program a x) (v.value l.program a (as_past x.past c)) (stands a hid i e x w c form m f.0) in
        let k = stands_test e (translate l.program b x) (v.value l.program b (as_past x.past c)) (stands b hid i e x w c form m f.1) in
        of_bool e _ _ (subst (λ t. truths.Is l e (iff (test (translate l.program a x)) (test (translate l.program b x))) t) (both_ways_same (truth (v.value l.program a (as_past x.past c))) (truth (v.value l.program b (as_past x.past c)))) (truths.is_and l e _ _ _ _ (truths.is_imp l e _ _ _ _ j k) (truths.is_imp l e _ _ _ _ k j)))
    stands (s.Choose' q a r b t d) hid i e x w c form m f =
        stands_choose e (test (translate l.program a x)) (translate l.program b x) (translate l.program d x) (truth (v.value l.program a (as_past x.past c))) (v.value l.program b (as_past x.past c)) (v.value l.program d (as_past x.past c)) (stands_test e (translate l.program a x) (v.value l.program a (as_past x.past c)) (stands a hid i e x w c form m f.0)) (stands b hid i e x w c form m f.1) (stands d hid i e x w c form m f.2)
        (sort_same l.program b x w form ∙ f.3 ∙ sym (sort_same l.program d x w form))
    stands (s.Old' q a) hid i e x w c form m f =
        subst (λ d. Stands l e (translate l.program a (old_scene x)) (v.value l.program a d)) (sym (old_again x.past c)) (stands a hid i e (old_scene x) (old_scene w) c (form_old x w form) (old_match hid i e x c m) f)
    stands (s.Unchanged' q a) hid i e x w c form m f =
        let before = subst (λ d. Stands l e (translate l.program a (old_as_present x)) (v.value l.program a d)) (back_again x.past c ∙ sym (old_again x.past c)) (stands a hid i e (old_as_present x) w (v.old_scene c) (form_put_back x w form f.0) (back_match hid i e x c m) f.1) in
        of_bool e _ _ (truths.is_eq l e (term (translate l.program a (old_as_present x))) (term (translate l.program a x)) (v.value l.program a (v.old_scene (as_past x.past c))) (v.value l.program a (as_past x.past c)) (stands_term l e (translate l.program a (old_as_present x)) (v.value l.program a (v.old_scene (as_past x.past c))) before) (stands_term l e (translate l.program a x) (v.value l.program a (as_past x.past c)) (stands a hid i e x w c form m f.1)))
    stands (s.Wrapped' q a) hid i e x w c form m f = of_bool e _ _ (columns.is_wrapped l e (current_heap x) (as_past x.past c).after (now_has hid i e x c m) (term (translate l.program a x)) x.me (v.value l.program a (as_past x.past c)) c.me (stands_term l e (translate l.program a x) (v.value l.program a (as_past x.past c)) (stands a hid i e x w c form m f)) m.me)
    stands (s.Wrapped0' q a) hid i e x w c form m f = of_bool e _ _ (columns.is_wrapped0 l e (current_heap x) (as_past x.past c).after (now_has hid i e x c m) (term (translate l.program a x)) x.me (v.value l.program a (as_past x.past c)) c.me (stands_term l e (translate l.program a x) (v.value l.program a (as_past x.past c)) (stands a hid i e x w c form m f)) m.me)
    stands (s.Mutable' q a) hid i e x w c form m f = of_bool e _ _ (columns.is_mutable l e (current_heap x) (as_past x.past c).after (now_has hid i e x c m) (term (translate l.program a x)) x.me (v.value l.program a (as_past x.past c)) c.me (stands_term l e (translate l.program a x) (v.value l.program a (as_past x.past c)) (stands a hid i e x w c form m f)) m.me)
    stands (s.Fresh' q a) hid i e x w c form m f =
        of_bool e _ _ (truths.is_not l e _ _ (columns.is_owned_by l e x.before c.before m.before (term (translate l.program a x)) x.me (v.value l.program a (as_past x.past c)) c.me (stands_term l e (translate l.program a x) (v.value l.program a (as_past x.past c)) (stands a hid i e x w c form m f)) m.me))
    stands (s.ClaimsObject' q d r o) hid i e x w c form m f =
        of_bool e _ _ (columns.is_listed l e (current_heap x) (as_past x.past c).after (now_has hid i e x c m) (term (translate l.program d x)) (term (translate l.program o x)) (v.value l.program d (as_past x.past c)) (v.value l.program o (as_past x.past c)) (stands_term l e (translate l.program d x) (v.value l.program d (as_past x.past c)) (stands d hid i e x w c form m f.0)) (stands_term l e (translate l.program o x) (v.value l.program o (as_past x.past c)) (stands o hid i e x w c form m f.1)))
    stands (s.Claims' q d k row) hid i e x w c form m f =
        let t = term (translate l.program d x) in
        let r = referent (v.value l.program d (as_past x.past c)) in
        of_bool e (all_of (tests l.program row (with_subject t x))) (v.all_hold l.program row (v.about r (as_past x.past c))) (all_row row e (with_subject t x) (v.about r (as_past x.past c)) (row_stands row hid true e (with_subject t x) w (v.about r c) (form_about x w t form) (about_match hid i e x c t (v.value l.program d (as_past x.past c)) (stands_term l e (translate l.program d x) (v.value l.program d (as_past x.past c)) (stands d hid i e x w c form m f.0)) m) f.1))
    stands (s.Lists' q o) hid i e x w c form m f =
        of_bool e _ _ (subst (λ r. truths.Is l e (lists (current_heap x) x.subject (term (translate l.program o x))) (is_in (referent (v.value l.program o (as_past x.past c))) ((as_past x.past c).after.get r).listed)) m.subject.2
        (columns.is_listed l e (current_heap x) (as_past x.past c).after (now_has hid i e x c m) x.subject (term (translate l.program o x)) m.subject.0 (v.value l.program o (as_past x.past c)) m.subject.1 (stands_term l e (translate l.program o x) (v.value l.program o (as_past x.past c)) (stands o hid i e x w c form m f))))
    stands (s.Has k) hid i e x w c form m f =
        of_bool e _ _ (subst (λ r. truths.Is l e (has_shape l.program (current_heap x) x.subject k.shape (map (λ h. term (hole_value x h)) k.holes.items)) (has_entry (record { shape = k.shape; values = map (λ h. v.filling (as_past x.past c) h) k.holes.items }) ((as_past x.past c).after.get r).shapes)) m.subject.2
        (subst (λ vs. truths.Is l e (has_shape l.program (current_heap x) x.subject k.shape (map (λ h. term (hole_value x h)) k.holes.items)) (has_entry (record { shape = k.shape; values = vs }) ((as_past x.past c).after.get (referent m.subject.0)).shapes)) (scalars (λ h. v.filling (as_past x.past c) h) k.holes.items)
        (columns.is_shape l e (current_heap x) (as_past x.past c).after (now_has hid i e x c m) x.subject m.subject.0 k.shape (map (λ h. term (hole_value x h)) k.holes.items) (map (λ h. PlainValue (v.filling (as_past x.past c) h)) k.holes.items) f.0 m.subject.1 (fillings_have hid i e x c m k.holes.items f.1))))
    stands (s.ForAll' n ty q a r body) hid i e x w c form m f =
        let have = places_have l hid i e x c m in
        let numbers = and_parts (numbers_from (suc n) a) (numbers_from (suc n) body) f.2 in
        let object = translate l.program a (formal_scene x) in
        let passes = translate l.program body (bind_ref (subject_of x) (formal_scene x)) in
        let inner_form : SameForm (formal_scene x) w = form_then (formal_scene x) x w (form_formal x) form in
        of_bool e _ _ (all_clause hid i e x c m f.0 n ty f.1 object (v.value l.program a (as_past x.past c)) passes (λ q. truth (v.value l.program body (v.bind_ref q (as_past x.past c))))
        (speaks l a (λ j. kit.Has l e (part x j) (at_value (part_values l x c) j)) (suc n) hid false (formal_scene x) w (formal_speaks (λ j. kit.Has l e (part x j) (at_value (part_values l x c) j)) (suc n) hid x have) numbers.0 f.3)
        (speaks l body (λ j. kit.Has l e (part x j) (at_value (part_values l x c) j)) (suc n) hid false (bind_ref (subject_of x) (formal_scene x)) (bind_ref null w) (subject_speaks (λ j. kit.Has l e (part x j) (at_value (part_values l x c) j)) (suc n) hid x have) numbers.1 f.4)
        (same_all_body x w ty n a body form f.5)
        (λ q. stands a hid false (inner l hid i e x c m e.me q) (formal_scene x) w c inner_form (formal_match l hid i e x c m e.me q f.0) f.3)
        (λ q. stands_test (inner l hid i e x c m e.me q) passes (v.value l.program body (as_past x.past (v.bind_ref q c))) (stands body hid false (inner l hid i e x c m e.me q) (bind_ref (subject_of x) (formal_scene x)) (bind_ref null w) (v.bind_ref q c) (form_bind (formal_scene x) w (subject_of x) null inner_form) (bind_match l hid false (inner l hid i e x c m e.me q) (formal_scene x) c (subject_of x) q (subject_has l hid i e x c m e.me q) (formal_match l hid i e x c m e.me q f.0)) f.4)))
    stands (s.Exists' n ty q a k row) hid i e x w c form m f =
        let have = places_have l hid i e x c m in
        let numbers = and_parts (numbers_from (suc n) a) (row_numbers_from (suc n) row) f.2 in
        let object = translate l.program a (formal_scene x) in
        let pass = tests l.program row (bind_ref (subject_of x) (formal_scene x)) in
        let inner_form : SameForm (formal_scene x) w = form_then (formal_scene x) x w (form_formal x) form in
        let bits : Ref → Bool = λ q. v.all_hold l.program row (v.bind_ref q (as_past x.past c)) in
        let set : List Ref = ((as_past x.past c).after.get (referent (v.value l.program a (as_past x.past c)))).owned in
        let all = some_clause hid i e x c m f.0 n ty f.1 object (v.value l.program a (as_past x.past c)) pass bits
        (speaks l a (λ j. kit.Has l e (part x j) (at_value (part_values l x c) j)) (suc n) hid false (formal_scene x) w (formal_speaks (λ j. kit.Has l e (part x j) (at_value (part_values l x c) j)) (suc n) hid x have) numbers.0 f.3)
        (row_speak l row (λ j. kit.Has l e (part x j) (at_value (part_values l x c) j)) (suc n) hid false (bind_ref (subject_of x) (formal_scene x)) (bind_ref null w) (subject_speaks (λ j. kit.Has l e (part x j) (at_value (part_values l x c) j)) (suc n) hid x have) numbers.1 f.4)
        (same_some_body x w ty n a row form f.5)
        (λ q. stands a hid false (inner l hid i e x c m e.me q) (formal_scene x) w c inner_form (formal_match l hid i e x c m e.me q f.0) f.3)
        (λ q. left_row row (inner l hid i e x c m e.me q) (bind_ref (subject_of x) (formal_scene x)) (v.bind_ref q (as_past x.past c)) (row_stands row hid false (inner l hid i e x c m e.me q) (bind_ref (subject_of x) (formal_scene x)) (bind_ref null w) (v.bind_ref q c) (form_bind (formal_scene x) w (subject_of x) null inner_form) (bind_match l hid false (inner l hid i e x c m e.me q) (formal_scene x) c (subject_of x) q (subject_has l hid i e x c m e.me q) (formal_match l hid i e x c m e.me q f.0)) f.4)) in (
          not (every (λ q. not (in_type ty (Refers q) && bits q)) set),
          truths.is_not l e (quantifier x n (body_of_some ty x object pass)) (every (λ q. not (in_type ty (Refers q) && bits q)) set) all,
          ap says (some_is (λ q. in_type ty (Refers q) && bits q) (λ q. not (in_type ty (Refers q) && bits q)) set (λ q. refl)),
        )
    stands (s.ClaimsOnly' n q d k row) hid i e x w c form m f =
        let have = places_have l hid i e x c m in
        let all = formal_speaks (λ j. kit.Has l e (part x j) (at_value (part_values l x c) j)) (suc n) hid x have in
        let numbers = and_parts (numbers_from (suc n) d) (row_numbers_from (suc n) row) f.1 in
        let claim = translate l.program d (formal_scene x) in
        let objects = terms_of l.program row (formal_scene x) in
        let value = v.value l.program d (as_past x.past c) in
        let refs = v.referents l.program row (as_past x.past c) in
        let inner_form : SameForm (formal_scene x) w = form_then (formal_scene x) x w (form_formal x) form in
        let only = only_clause hid i e x c m f.0 n claim value objects refs
        (speaks l d (λ j. kit.Has l e (part x j) (at_value (part_values l x c) j)) (suc n) hid false (formal_scene x) w all numbers.0 f.3)
        (terms_speak l row (λ j. kit.Has l e (part x j) (at_value (part_values l x c) j)) (suc n) hid false (formal_scene x) w all numbers.1 f.4)
        (same_only_body x w n d row form f.5)
        (λ q. stands d hid false (inner l hid i e x c m e.me q) (formal_scene x) w c inner_form (formal_match l hid i e x c m e.me q f.0) f.3)
        (λ q. refs_stand row hid false (inner l hid i e x c m e.me q) (formal_scene x) w c inner_form (formal_match l hid i e x c m e.me q f.0) f.2 f.4) in
        of_bool e _ _ (columns.all_listed l e (current_heap x) (as_past x.past c).after (now_has hid i e x c m) (term (translate l.program d x)) value (stands_term l e (translate l.program d x) value (stands d hid i e x w c form m (subst (λ b. Fits l hid b d w) (sym f.0) f.3)))
        (terms_of l.program row x) refs (refs_stand row hid i e x w c form m f.2 (subst (λ b. RowFits l hid b row w) (sym f.0) f.4)) (quantifier x n (body_of_only x claim objects)) (every (λ o. is_in o refs) ((as_past x.past c).after.get (referent value)).listed) only)

    pub row_stands : {k : _} (row : Row_of-Spec k) (hidden : ℕ → Bool) (inside : Bool) (e : Env) (x w : Scene) (s : v.Scene) → SameForm x w → Match l hidden inside e x s → RowFits l hidden inside row w → RowIs row e x (as_past x.past s)
    row_stands end_of-Spec hid i e x w c form m f = tt
    row_stands (more_of-Spec a row) hid i e x w c form m f = (stands_test e (translate l.program a x) (v.value l.program a (as_past x.past c)) (stands a hid i e x w c form m f.0), row_stands row hid i e x w c form m f.1)

    -- terms that stand for references
    pub refs_stand : {k : _} (row : Row_of-Spec k) (hidden : ℕ → Bool) (inside : Bool) (e : Env) (x w : Scene) (s : v.Scene) → SameForm x w → Match l hidden inside e x s → are_refs l.program row w ≡ true → RowFits l hidden inside row w → columns.AreRefs l e (terms_of l.program row x) (v.referents l.program row (as_past x.past s))
    refs_stand end_of-Spec hid i e x w c form m r f = tt
    refs_stand (more_of-Spec a row) hid i e x w c form m r f =
        let z = and_parts (is_ref (translate l.program a w)) (are_refs l.program row w) r in
        (ref_stands e (translate l.program a x) (v.value l.program a (as_past x.past c)) (sort_same l.program a x w form ∙ z.0) (stands a hid i e x w c form m f.0), refs_stand row hid i e x w c form m z.1 f.1)

-- The references that are still to be printed, in reference order.
use Rattle.std.proofs.Common.{◌≡◌, ◌+◌, ◌<◌, ◌≤◌, ◌⊎◌, inl, inr, Bool, true, false, cond, ◌||◌, List, [], ◌∷◌, Option, Some, None, refl, sym, ap, subst, ◌∙◌, arith}
use Rattle.std.specs.Prelude.{not, ◌&&◌, filter, nat_lt, ◌==◌}
use Rattle.std.proofs.lemmas.Bool.{both_ways, and_parts, and_from, or_cases, or_right, cases_Bool, eqb-true, eq-eqb, ltb-true, lt-ltb, ltb-false}
use Rattle.object_types.specs.declared.references.Ref.{Ref}
use Rattle.object_types.specs.References.{ref, null, same_ref, ref_lt}
use Rattle.object_types.specs.Sets.{is_in, is_ordered, ordered_from, set_of}
use Rattle.object_types.specs.Heap.{Heap, Record, IsFinite, is_absent, nothing}
use Rattle.object_types.specs.Content.{IsFirst}
use Rattle.object_types.proofs.Orders.{ref_order}
use Rattle.object_types.proofs.Placed.{ordered_filter}
use Rattle.object_types.proofs.Members.{is_in_with}
use Rattle.ownership.proofs.Ordered.{set_ordered, same_members}
use Rattle.schedule_replay.specs.Records.{is_used, references, following}

-- ---- truth values

same_truth : (a b : Bool) → (a ≡ true → b ≡ true) → (b ≡ true → a ≡ true) → a ≡ b
same_truth true b f g = sym (f refl)
same_truth false true f g = g refl
same_truth false false f g = refl

clash : (b : Bool) → b ≡ true → b ≡ false → ⊥
clash b is isnt = both_ways b isnt is

not_true : (b : Bool) → not b ≡ true → b ≡ false
not_true true e = absurd cc
not_true false e = refl

false_not : (b : Bool) → b ≡ false → not b ≡ true
false_not true e = absurd cc
false_not false e = refl

-- ---- members of filtered lists and of sets

in_filter : (keep : Ref → Bool) (q : Ref) (xs : List Ref) → is_in q (filter keep xs) ≡ true → (keep q ≡ true) × (is_in q xs ≡ true)
unfolding is_in
in_filter keep q [] h = absurd cc
in_filter keep q (x ∷ xs) h = by_test (in_filter keep q xs) (keep x) refl h
  where
    by_test : (is_in q (filter keep xs) ≡ true → (keep q ≡ true) × (is_in q xs ≡ true)) → (b : Bool) → keep x ≡ b → is_in q (cond b (x ∷ filter keep xs) (filter keep xs)) ≡ true → (keep q ≡ true) × ((same_ref q x || is_in q xs) ≡ true)
    by_test rest true e m = elim (or_cases (same_ref q x) (is_in q (filter keep xs)) m) [
      | inl s ↦ (ap keep (ref_order.equal q x s) ∙ e, rw s refl)
      | inr r ↦ let more = rest r in (more.0, or_right (same_ref q x) (is_in q xs) more.1)
    ]
    by_test rest false e m = let more = rest m in (more.0, or_right (same_ref q x) (is_in q xs) more.1)

filter_in : (keep : Ref → Bool) (q : Ref) (xs : List Ref) → keep q ≡ true → is_in q xs ≡ true → is_in q (filter keep xs) ≡ true
unfolding is_in
filter_in keep q [] k h = absurd cc
filter_in keep q (x ∷ xs) k h = by_test (filter_in keep q xs k) (keep x) refl (or_cases (same_ref q x) (is_in q xs) h)
  where
    by_test : (is_in q xs ≡ true → is_in q (filter keep xs) ≡ true) → (b : Bool) → keep x ≡ b → (same_ref q x ≡ true) ⊎ (is_in q xs ≡ true) → is_in q (cond b (x ∷ filter keep xs) (filter keep xs)) ≡ true
    by_test rest true e (inl s) = rw s refl
    by_test rest true e (inr r) = or_right (same_ref q x) (is_in q (filter keep xs)) (rest r)
    by_test rest false e (inl s) = absurd (clash _ (ap keep (sym (ref_order.equal q x s)) ∙ k) e)
    by_test rest false e (inr r) = rest r

in_set : (q : Ref) (xs : List Ref) → is_in q (set_of xs) ≡ is_in q xs
unfolding is_in
in_set q [] = refl
in_set q (x ∷ xs) = is_in_with q x (set_of xs) ∙ ap (λ (b : Bool). same_ref q x || b) (in_set q xs)

-- ---- the references that were used, from one on

abbrev from_test : Ref → Ref → Bool
from_test x q = not (ref_lt q x)

abbrev pub from_on : Heap → Ref → List Ref
from_on h x = filter (from_test x) (references h)

abbrev pub left_from : Heap → Option Ref → List Ref
left_from h None = []
left_from h (Some x) = from_on h x

ordered_references : (h : Heap) → is_ordered ref_lt (references h) ≡ true
unfolding references
ordered_references h = ordered_filter (λ y. y) ref_lt same_ref ref_order (is_used h) (set_of h.support) (set_ordered h.support)

ordered_from_on : (h : Heap) (x : Ref) → is_ordered ref_lt (from_on h x) ≡ true
ordered_from_on h x = ordered_filter (λ y. y) ref_lt same_ref ref_order (from_test x) (references h) (ordered_references h)

used_in : (h : Heap) → IsFinite h → (q : Ref) → is_used h q ≡ true → is_in q (references h) ≡ true
unfolding references
used_in h finite q used = filter_in (is_used h) q (set_of h.support) used (in_set q h.support ∙ inside (is_in q h.support) refl)
  where
    inside : (b : Bool) → is_in q h.support ≡ b → b ≡ true
    inside true e = refl
    inside false e = absurd (clash _ used (ap (λ (r : Record). not (is_absent r.mode)) (finite q e)))

in_used : (h : Heap) (q : Ref) → is_in q (references h) ≡ true → is_used h q ≡ true
unfolding references
in_used h q m = (in_filter (is_used h) q (set_of h.support) m).0

in_from : (h : Heap) (x q : Ref) → is_in q (from_on h x) ≡ true → (is_used h q ≡ true) × (ref_lt q x ≡ false)
in_from h x q m = let parts = in_filter (from_test x) q (references h) m in (in_used h q parts.1, not_true (ref_lt q x) parts.0)

from_in : (h : Heap) → IsFinite h → (x q : Ref) → is_used h q ≡ true → ref_lt q x ≡ false → is_in q (from_on h x) ≡ true
from_in h finite x q used above = filter_in (from_test x) q (references h) (false_not (ref_lt q x) above) (used_in h finite q used)

-- ---- heaps with the same records

pub same_references : (h k : Heap) → IsFinite h → IsFinite k → ((q : Ref) → h.get q ≡ k.get q) → references h ≡ references k
same_references h k fh fk same =
    same_members (references h) (references k) (ordered_references h) (ordered_references k)
    (λ q. same_truth _ _ (λ m. used_in k fk q (ap (λ (r : Record). not (is_absent r.mode)) (sym (same q)) ∙ in_used h q m)) (λ m. used_in h fh q (ap (λ (r : Record). not (is_absent r.mode)) (same q) ∙ in_used k q m)))

-- ---- reference order by numbers

lt_parts : (a b : Ref) → ref_lt a b ≡ true → (a.ty < b.ty) ⊎ ((a.ty ≡ b.ty) × (a.serial < b.serial))
lt_parts a b h = elim (or_cases (nat_lt a.ty b.ty) ((a.ty == b.ty) && nat_lt a.serial b.serial) h) [
  | inl l ↦ inl (ltb-true a.ty b.ty l)
  | inr r ↦ let parts = and_parts (a.ty == b.ty) (nat_lt a.serial b.serial) r in inr (eqb-true a.ty b.ty parts.0, ltb-true a.serial b.serial parts.1)
]

lt_type : (a b : Ref) → a.ty < b.ty → ref_lt a b ≡ true
lt_type a b l = rw (lt-ltb a.ty b.ty l) refl

lt_serial : (a b : Ref) → a.ty ≡ b.ty → a.serial < b.serial → ref_lt a b ≡ true
lt_serial a b e l = or_right (nat_lt a.ty b.ty) ((a.ty == b.ty) && nat_lt a.serial b.serial) (and_from _ _ (eq-eqb a.ty b.ty e) (lt-ltb a.serial b.serial l))

-- what the test of a number decides in `following`
Follows : Ref → Option Ref → Type 0
Follows r o = ((o ≡ Some (ref r.ty (r.serial + 1))) × (r.serial < 4294967295)) ⊎ (((o ≡ Some (ref (r.ty + 1) 0)) × (4294967295 ≤ r.serial)) ⊎ ((o ≡ None) × (4294967295 ≤ r.serial) × (4294967295 ≤ r.ty)))

follows : (r : Ref) → Follows r (following r)
unfolding Follows
follows r = by_test (nat_lt r.serial 4294967295) (nat_lt r.ty 4294967295) refl refl
  where
    by_test : (a b : Bool) → nat_lt r.serial 4294967295 ≡ a → nat_lt r.ty 4294967295 ≡ b → Follows r (cond a (Some (ref r.ty (r.serial + 1))) (cond b (Some (ref (r.ty + 1) 0)) None))
    by_test true b e f = inl (refl, ltb-true _ _ e)
    by_test false true e f = inr (inl (refl, ltb-false _ _ e))
    by_test false false e f = inr (inr (refl, ltb-false _ _ e, ltb-false _ _ f))

abbrev IsSmall : Ref → Type 0
IsSmall q = (q.ty < 4294967296) × (q.serial < 4294967296)

some_ref : (n m : Ref) (o : Option Ref) → o ≡ Some n → o ≡ Some m → n ≡ m
some_ref n m o e f = let both : Some n ≡ Some m = sym e ∙ f in cc

-- the next one is above
next_above : (r n : Ref) → following r ≡ Some n → ref_lt r n ≡ true
unfolding Follows
next_above r n e = elim (follows r) [
  | inl a ↦ subst (λ (m : Ref). ref_lt r m ≡ true) (some_ref (ref r.ty (r.serial + 1)) n (following r) a.0 e) (lt_serial r (ref r.ty (r.serial + 1)) refl (omega arith))
  | inr b ↦ elim b [
    | inl c ↦ subst (λ (m : Ref). ref_lt r m ≡ true) (some_ref (ref (r.ty + 1) 0) n (following r) c.0 e) (lt_type r (ref (r.ty + 1) 0) (omega arith))
    | inr d ↦ absurd (let none = sym d.0 ∙ e in cc)
  ]
]

-- nothing stands between
none_between : (r n q : Ref) → following r ≡ Some n → IsSmall q → ref_lt r q ≡ true → ref_lt q n ≡ true → ⊥
unfolding Follows
none_between r n q e small above below = elim (follows r) [
  | inl a ↦
      let under : ref_lt q (ref r.ty (r.serial + 1)) ≡ true = subst (λ (m : Ref). ref_lt q m ≡ true) (sym (some_ref (ref r.ty (r.serial + 1)) n (following r) a.0 e)) below in
      apart (lt_parts r q above) (lt_parts q (ref r.ty (r.serial + 1)) under)
  | inr b ↦ elim b [
    | inl c ↦
        let under : ref_lt q (ref (r.ty + 1) 0) ≡ true = subst (λ (m : Ref). ref_lt q m ≡ true) (sym (some_ref (ref (r.ty + 1) 0) n (following r) c.0 e)) below in
        higher c.1 (lt_parts r q above) (lt_parts q (ref (r.ty + 1) 0) under)
    | inr d ↦ absurd (let none = sym d.0 ∙ e in cc)
  ]
]
  where
    apart : (r.ty < q.ty) ⊎ ((r.ty ≡ q.ty) × (r.serial < q.serial)) → (q.ty < r.ty) ⊎ ((q.ty ≡ r.ty) × (q.serial < r.serial + 1)) → ⊥
    apart (inl a) (inl b) = omega arith
    apart (inl a) (inr b) = let e = b.0 in omega (arith, e)
    apart (inr a) (inl b) = let e = a.0 in omega (arith, e)
    apart (inr a) (inr b) = let l = a.1 in let m = b.1 in omega (arith, l, m)

    higher : 4294967295 ≤ r.serial → (r.ty < q.ty) ⊎ ((r.ty ≡ q.ty) × (r.serial < q.serial)) → (q.ty < r.ty + 1) ⊎ ((q.ty ≡ r.ty + 1) × (q.serial < 0)) → ⊥
    higher le (inl a) (inl b) = omega arith
    higher le (inl a) (inr b) = let l = b.1 in omega (arith, l)
    higher le (inr a) (inl b) = let l = a.1 in let s = small.1 in omega (arith, l, s)
    higher le (inr a) (inr b) = let l = b.1 in omega (arith, l)

none_above : (r q : Ref) → following r ≡ None → IsSmall q → ref_lt r q ≡ true → ⊥
unfolding Follows
none_above r q e small above = elim (follows r) [
  | inl a ↦ absurd (let some = sym a.0 ∙ e in cc)
  | inr b ↦ elim b [
    | inl c ↦ absurd (let some = sym c.0 ∙ e in cc)
    | inr d ↦ last d.1 d.2 (lt_parts r q above)
  ]
]
  where
    last : 4294967295 ≤ r.serial → 4294967295 ≤ r.ty → (r.ty < q.ty) ⊎ ((r.ty ≡ q.ty) × (r.serial < q.serial)) → ⊥
    last s t (inl a) = let l = small.0 in omega (arith, l)
    last s t (inr a) = let l = a.1 in let m = small.1 in omega (arith, l, m)

-- ---- behind a reference

abbrev AllSmall : Heap → Type 0
AllSmall h = (q : Ref) → is_used h q ≡ true → IsSmall q

nobody_in : (q : Ref) → is_in q [] ≡ true → ⊥
unfolding is_in
nobody_in q m = absurd cc

in_next : (h : Heap) (r q : Ref) (o : Option Ref) → following r ≡ o → is_in q (left_from h o) ≡ true → (is_used h q ≡ true) × (ref_lt r q ≡ true)
in_next h r q None e m = absurd (nobody_in q m)
in_next h r q (Some n) e m =
    let parts = in_from h n q m in
    (parts.0, above (cases_Bool (ref_lt r q)) parts.1)
  where
    above : (ref_lt r q ≡ true) ⊎ (ref_lt r q ≡ false) → ref_lt q n ≡ false → ref_lt r q ≡ true
    above (inl t) f = t
    above (inr no_lt) f = by_same (cases_Bool (same_ref r q))
      where
        by_same : (same_ref r q ≡ true) ⊎ (same_ref r q ≡ false) → ref_lt r q ≡ true
        by_same (inl s) = absurd (clash _ (subst (λ (z : Ref). ref_lt z n ≡ true) (ref_order.equal r q s) (next_above r n e)) f)
        by_same (inr d) = absurd (clash _ (ref_order.chain q r n (ref_order.total r q d no_lt) (next_above r n e)) f)

next_in : (h : Heap) → IsFinite h → AllSmall h → (r q : Ref) (o : Option Ref) → following r ≡ o → is_used h q ≡ true → ref_lt r q ≡ true → is_in q (left_from h o) ≡ true
next_in h finite small r q None e used above = absurd (none_above r q e (small q used) above)
next_in h finite small r q (Some n) e used above = from_in h finite n q used (under (cases_Bool (ref_lt q n)))
  where
    under : (ref_lt q n ≡ true) ⊎ (ref_lt q n ≡ false) → ref_lt q n ≡ false
    under (inl t) = absurd (none_between r n q e (small q used) above t)
    under (inr f) = f

ordered_left : (h : Heap) (o : Option Ref) → is_ordered ref_lt (left_from h o) ≡ true
ordered_left h None = refl
ordered_left h (Some n) = ordered_from_on h n

ordered_first : (r : Ref) (ys : List Ref) → is_ordered ref_lt ys ≡ true → ((q : Ref) → is_in q ys ≡ true → ref_lt r q ≡ true) → ordered_from ref_lt r ys ≡ true
unfolding is_in
ordered_first r [] o above = refl
ordered_first r (y ∷ ys) o above = and_from _ _ (above y (rw (ref_order.itself y) refl)) o

-- used, and not below x: r, or above it
what_follows : (h : Heap) (x r q : Ref) → IsFirst h.get x r → is_used h q ≡ true → ref_lt q x ≡ false → (same_ref q r ≡ true) ⊎ (ref_lt r q ≡ true)
what_follows h x r q first used above = by_same (cases_Bool (same_ref q r)) (cases_Bool (ref_lt q r))
  where
    by_same : (same_ref q r ≡ true) ⊎ (same_ref q r ≡ false) → (ref_lt q r ≡ true) ⊎ (ref_lt q r ≡ false) → (same_ref q r ≡ true) ⊎ (ref_lt r q ≡ true)
    by_same (inl s) l = inl s
    by_same (inr d) (inl l) = absurd (clash _ used (ap (λ (c : Record). not (is_absent c.mode)) (first.nothing_before q above l)))
    by_same (inr d) (inr f) = inr (ref_order.total q r d f)

-- what is above the first one isn't below x
not_below : (h : Heap) (x r q : Ref) → IsFirst h.get x r → ref_lt r q ≡ true → ref_lt q x ≡ false
not_below h x r q first above = by_test (cases_Bool (ref_lt q x))
  where
    by_test : (ref_lt q x ≡ true) ⊎ (ref_lt q x ≡ false) → ref_lt q x ≡ false
    by_test (inl t) = absurd (clash _ (ref_order.chain r q x above t) first.at_or_above)
    by_test (inr f) = f

pub step_used : (h : Heap) → IsFinite h → AllSmall h → (x r : Ref) → IsFirst h.get x r → is_used h r ≡ true → from_on h x ≡ r ∷ left_from h (following r)
unfolding is_in
step_used h finite small x r first used =
    same_members (from_on h x) (r ∷ left_from h (following r)) (ordered_from_on h x)
    (ordered_first r (left_from h (following r)) (ordered_left h (following r)) (λ q m. (in_next h r q (following r) refl m).1))
    (λ q. same_truth _ _ (there q) (back q))
  where
    there : (q : Ref) → is_in q (from_on h x) ≡ true → is_in q (r ∷ left_from h (following r)) ≡ true
    there q m = let parts = in_from h x q m in elim (what_follows h x r q first parts.0 parts.1) [
      | inl s ↦ rw s refl
      | inr above ↦ or_right (same_ref q r) (is_in q (left_from h (following r))) (next_in h finite small r q (following r) refl parts.0 above)
    ]

    back : (q : Ref) → is_in q (r ∷ left_from h (following r)) ≡ true → is_in q (from_on h x) ≡ true
    back q m = elim (or_cases (same_ref q r) (is_in q (left_from h (following r))) m) [
      | inl s ↦ subst (λ (z : Ref). is_in z (from_on h x) ≡ true) (sym (ref_order.equal q r s)) (from_in h finite x r used first.at_or_above)
      | inr n ↦ let parts = in_next h r q (following r) refl n in from_in h finite x q parts.0 (not_below h x r q first parts.1)
    ]

pub step_unused : (h : Heap) → IsFinite h → AllSmall h → (x r : Ref) → IsFirst h.get x r → is_used h r ≡ false → from_on h x ≡ left_from h (following r)
step_unused h finite small x r first unused =
    same_members (from_on h x) (left_from h (following r)) (ordered_from_on h x) (ordered_left h (following r)) (λ q. same_truth _ _ (there q) (back q))
  where
    there : (q : Ref) → is_in q (from_on h x) ≡ true → is_in q (left_from h (following r)) ≡ true
    there q m = let parts = in_from h x q m in elim (what_follows h x r q first parts.0 parts.1) [
      | inl s ↦ absurd (clash _ parts.0 (ap (is_used h) (ref_order.equal q r s) ∙ unused))
      | inr above ↦ next_in h finite small r q (following r) refl parts.0 above
    ]

    back : (q : Ref) → is_in q (left_from h (following r)) ≡ true → is_in q (from_on h x) ≡ true
    back q m = let parts = in_next h r q (following r) refl m in from_in h finite x q parts.0 (not_below h x r q first parts.1)

pub none_left : (h : Heap) (x : Ref) → ((q : Ref) → ref_lt q x ≡ false → h.get q ≡ nothing) → from_on h x ≡ []
none_left h x none =
    same_members (from_on h x) [] (ordered_from_on h x) refl (λ q. same_truth _ _ (λ m. absurd (let parts = in_from h x q m in clash _ parts.0 (ap (λ (c : Record). not (is_absent c.mode)) (none q parts.1)))) (λ m. absurd (nobody_in q m)))

none_below : (q : Ref) → ref_lt q null ≡ false
none_below q = by_test (cases_Bool (ref_lt q null))
  where
    by_parts : (q.ty < 0) ⊎ ((q.ty ≡ 0) × (q.serial < 0)) → ⊥
    by_parts (inl a) = omega arith
    by_parts (inr b) = let l = b.1 in omega (arith, l)

    by_test : (ref_lt q null ≡ true) ⊎ (ref_lt q null ≡ false) → ref_lt q null ≡ false
    by_test (inl t) = absurd (by_parts (lt_parts q null t))
    by_test (inr f) = f

pub all_left : (h : Heap) → IsFinite h → references h ≡ from_on h null
all_left h finite = same_members (references h) (from_on h null) (ordered_references h) (ordered_from_on h null) (λ q. same_truth _ _ (λ m. from_in h finite null q (in_used h q m) (none_below q)) (λ m. used_in h finite q (in_from h null q m).0))

-- What changes of heaps give at each reference.
use Rattle.std.proofs.Common.{◌≡◌, Bool, true, false, cond, not, ◌||◌, ⊎_elim, refl, sym, ap, ◌∙◌, subst, ℤ, ◌+ℤ◌, List, [], ◌∷◌, ◌++◌}
use Rattle.object_types.specs.declared.references.Ref.{Ref}
use Rattle.object_types.specs.declared.records.Mode.{Mode}
use Rattle.object_types.specs.declared.records.Mode.TheVariants.{Absent, Open, Closed, Freed}
use Rattle.object_types.specs.References.{same_ref}
use Rattle.object_types.specs.Sets.{every, is_in, all_distinct}
use Rattle.object_types.specs.Heap.{Heap, Record, IsFinite, put, hand_over, count_more, is_absent, is_open, is_closed, closed_in, mutable, wrapped}
pub use Rattle.std.proofs.lemmas.Bool.{false_from_ne_true, or_parts, not-true}
use Rattle.method.proofs.Global.{and_both, test_cases, same_ref_is, same_ref_self}
use Rattle.machine_laws.proofs.Typed.{not_both, or_cases, or_left}

pub same_ref_from : (a b : Ref) → a ≡ b → same_ref a b ≡ true
same_ref_from a b e = subst (λ (r : Ref). same_ref a r ≡ true) e (same_ref_self a)

pub differ : (a b : Ref) → same_ref a b ≡ false → a ≡ b → ⊥
differ a b n e = not_both (same_ref a b) (same_ref_from a b e) n

pub differ_from : (a b : Ref) → (a ≡ b → ⊥) → same_ref a b ≡ false
differ_from a b h = false_from_ne_true (same_ref a b) (λ e. h (same_ref_is a b e))

pub in_more : (q x : Ref) (xs : List Ref) → is_in q (x ∷ xs) ≡ same_ref q x || is_in q xs
unfolding is_in
in_more q x xs = refl

pub in_none : (q : Ref) → is_in q [] ≡ false
unfolding is_in
in_none q = refl

pub not_in_more : (q x : Ref) (xs : List Ref) → is_in q (x ∷ xs) ≡ false → (same_ref q x ≡ false) × (is_in q xs ≡ false)
unfolding is_in
not_in_more q x xs e = or_parts (same_ref q x) (is_in q xs) e

pub in_one : (q x : Ref) → is_in q (x ∷ []) ≡ true → q ≡ x
unfolding is_in
in_one q x e = ⊎_elim (λ s. same_ref_is q x s) (λ n. absurd (cc)) (or_cases (same_ref q x) false e)

pub in_one_self : (x : Ref) → is_in x (x ∷ []) ≡ true
unfolding is_in
in_one_self x = or_left (same_ref x x) false (same_ref_self x)

pub or_regroup : (a b c : Bool) → a || (b || c) ≡ (a || b) || c
or_regroup true b c = refl
or_regroup false b c = refl

pub in_both : (q : Ref) (xs ys : List Ref) → is_in q (xs ++ ys) ≡ is_in q xs || is_in q ys
unfolding is_in
in_both q [] ys = refl
in_both q (x ∷ xs) ys = ap (λ z. same_ref q x || z) (in_both q xs ys) ∙ or_regroup (same_ref q x) (is_in q xs) (is_in q ys)

pub every_in : (test : Ref → Bool) (rs : List Ref) (q : Ref) → every test rs ≡ true → is_in q rs ≡ true → test q ≡ true
unfolding is_in
every_in test [] q all e = absurd (cc)
every_in test (r ∷ rs) q all e =
    let b = and_both (test r) (every test rs) all in
    ⊎_elim (λ s. subst (λ (x : Ref). test x ≡ true) (sym (same_ref_is q r s)) b.0) (λ i. every_in test rs q b.1 i) (or_cases (same_ref q r) (is_in q rs) e)

-- Modes.

pub closed_mode : (m : Mode) → is_closed m ≡ true → m ≡ Closed
closed_mode Absent e = absurd (cc)
closed_mode Open e = absurd (cc)
closed_mode Closed e = refl
closed_mode Freed e = absurd (cc)

pub open_mode : (m : Mode) → is_open m ≡ true → m ≡ Open
open_mode Absent e = absurd (cc)
open_mode Open e = refl
open_mode Closed e = absurd (cc)
open_mode Freed e = absurd (cc)

pub absent_mode : (m : Mode) → is_absent m ≡ true → m ≡ Absent
absent_mode Absent e = refl
absent_mode Open e = absurd (cc)
absent_mode Closed e = absurd (cc)
absent_mode Freed e = absurd (cc)

pub open_not_closed : (m : Mode) → is_open m ≡ true → is_closed m ≡ false
open_not_closed m e = ap is_closed (open_mode m e)

pub closed_not : (m : Mode) → is_closed m ≡ true → m ≡ Absent → ⊥
closed_not m e f = cc (ap is_closed f)

pub closed_not_open : (m : Mode) → is_closed m ≡ true → m ≡ Open → ⊥
closed_not_open m e f = cc (ap is_closed f)

pub closed_not_freed : (m : Mode) → is_closed m ≡ true → m ≡ Freed → ⊥
closed_not_freed m e f = cc (ap is_closed f)

pub mutable_parts : (t : Ref) (h : Heap) (o : Ref) → mutable t h o ≡ true → (is_open (h.get o).mode ≡ true) × ((h.get o).owner ≡ t)
mutable_parts t h o e = let b = and_both (is_open (h.get o).mode) (same_ref (h.get o).owner t) e in (b.0, same_ref_is (h.get o).owner t b.1)

pub wrapped_parts : (t : Ref) (h : Heap) (o : Ref) → wrapped t h o ≡ true → (closed_in h o ≡ true) × ((h.get o).owner ≡ t)
wrapped_parts t h o e = let b = and_both (closed_in h o) (same_ref (h.get o).owner t) e in (b.0, same_ref_is (h.get o).owner t b.1)

-- One record put.

pub put_same : (h : Heap) (p : Ref) (new : Record) → (put h p new).get p ≡ new
unfolding put
put_same h p new = ap (λ b. cond b new (h.get p)) (same_ref_self p)

pub put_other : (h : Heap) (p : Ref) (new : Record) (o : Ref) → same_ref o p ≡ false → (put h p new).get o ≡ h.get o
unfolding put
put_other h p new o e = ap (λ b. cond b new (h.get o)) e

pub at_put : (P : Ref → Record → Type 0) (h : Heap) (p : Ref) (new : Record) → P p new → ((o : Ref) → same_ref o p ≡ false → P o (h.get o)) → (o : Ref) → P o ((put h p new).get o)
at_put P h p new here other o = ⊎_elim
    (λ s. subst (λ (x : Ref). P x ((put h p new).get x)) (sym (same_ref_is o p s)) (subst (P p) (sym (put_same h p new)) here))
    (λ n. subst (P o) (sym (put_other h p new o n)) (other o n))
    (test_cases (same_ref o p))

pub put_finite : (h : Heap) (p : Ref) (new : Record) → IsFinite h → IsFinite (put h p new)
unfolding put
put_finite h p new f o e = let b = not_in_more o p h.support e in put_other h p new o b.0 ∙ f o b.1

-- Another owner.

pub hand_in : (h : Heap) (s : List Ref) (n o : Ref) → is_in o s ≡ true → (hand_over h s n).get o ≡ record (h.get o) { owner = n }
unfolding hand_over
hand_in h s n o e = ap (λ b. cond b (record (h.get o) { owner = n }) (h.get o)) e

pub hand_out : (h : Heap) (s : List Ref) (n o : Ref) → is_in o s ≡ false → (hand_over h s n).get o ≡ h.get o
unfolding hand_over
hand_out h s n o e = ap (λ b. cond b (record (h.get o) { owner = n }) (h.get o)) e

pub at_hand :
    (P : Ref → Record → Type 0) (h : Heap) (s : List Ref) (n : Ref) → ((o : Ref) → is_in o s ≡ true → P o (record (h.get o) { owner = n })) →
    ((o : Ref) → is_in o s ≡ false → P o (h.get o)) → (o : Ref) → P o ((hand_over h s n).get o)
at_hand P h s n member other o = ⊎_elim
    (λ i. subst (P o) (sym (hand_in h s n o i)) (member o i))
    (λ i. subst (P o) (sym (hand_out h s n o i)) (other o i))
    (test_cases (is_in o s))

pub hand_finite : (h : Heap) (s : List Ref) (n : Ref) → IsFinite h → IsFinite (hand_over h s n)
unfolding hand_over
hand_finite h s n f o e = let b = or_parts (is_in o s) (is_in o h.support) (sym (in_both o s h.support) ∙ e) in hand_out h s n o b.0 ∙ f o b.1

-- Counts.

abbrev pub counted : ℤ → Record → Record
counted z r = record r { count = r.count +ℤ z }

abbrev put_count : ℤ → Heap → Ref → Heap
put_count z h x = put h x (counted z (h.get x))

pub count_get : (z : ℤ) (os : List Ref) (h : Heap) (o : Ref) → all_distinct os ≡ true → (count_more z os h).get o ≡ cond (is_in o os) (counted z (h.get o)) (h.get o)
unfolding is_in
count_get z [] h o d = refl
count_get z (x ∷ xs) h o d =
    let b = and_both (not (is_in x xs)) (all_distinct xs) d in
    count_get z xs (put_count z h x) o b.1 ∙ ⊎_elim
    (λ s. let e = same_ref_is o x s in
    ap (λ c. cond c (counted z ((put_count z h x).get o)) ((put_count z h x).get o)) (ap (λ (y : Ref). is_in y xs) e ∙ not-true (is_in x xs) b.0)
    ∙ subst (λ (y : Ref). (put_count z h x).get y ≡ counted z (h.get y)) (sym e) (put_same h x (counted z (h.get x)))
    ∙ sym (ap (λ c. cond (c || is_in o xs) (counted z (h.get o)) (h.get o)) s))
    (λ n. ap (λ (r : Record). cond (is_in o xs) (counted z r) r) (put_other h x (counted z (h.get x)) o n)
    ∙ sym (ap (λ c. cond (c || is_in o xs) (counted z (h.get o)) (h.get o)) n))
    (test_cases (same_ref o x))

pub at_count :
    (P : Ref → Record → Type 0) (z : ℤ) (os : List Ref) (h : Heap) → all_distinct os ≡ true → ((o : Ref) → is_in o os ≡ true → P o (counted z (h.get o))) →
    ((o : Ref) → is_in o os ≡ false → P o (h.get o)) → (o : Ref) → P o ((count_more z os h).get o)
at_count P z os h d member other o = ⊎_elim
    (λ i. subst (P o) (sym (count_get z os h o d ∙ ap (λ b. cond b (counted z (h.get o)) (h.get o)) i)) (member o i))
    (λ i. subst (P o) (sym (count_get z os h o d ∙ ap (λ b. cond b (counted z (h.get o)) (h.get o)) i)) (other o i))
    (test_cases (is_in o os))

pub count_finite : (z : ℤ) (os : List Ref) (h : Heap) → IsFinite h → IsFinite (count_more z os h)
count_finite z [] h f = f
count_finite z (o ∷ os) h f = count_finite z os (put_count z h o) (put_finite h o (counted z (h.get o)) f)

-- What changes a heap of the program stores in its places.
use Rattle.std.proofs.Common.{◌≡◌, ℕ, ◌==◌, Bool, true, false, not, cond, ◌&&◌, ◌||◌, List, [], ℤ, pos, Some, None, refl, sym, ap, ◌∙◌, eq-eqb}
use Rattle.object_types.specs.declared.references.Ref.{Ref}
use Rattle.object_types.specs.declared.values.Value.{Value as Scalar}
use Rattle.object_types.specs.declared.values.Value.TheVariants.{Int, Ref as Refers}
use Rattle.object_types.specs.declared.records.Mode.{Mode}
use Rattle.object_types.specs.declared.records.Mode.TheVariants.{Open, Closed}
use Rattle.object_types.specs.References.{same_ref, null}
use Rattle.object_types.specs.Values.{is_zero, kept, or_zero, says}
use Rattle.object_types.specs.Sets.{is_in, set_member}
use Rattle.object_types.specs.Heap.{Heap, Record, put, hand_over, with_owned, with_listed, with_count, with_field}
use Rattle.object_types.proofs.Members.{is_in_with, is_in_without}
use Rattle.method.specs.declared.program.Program.{Program}
use Rattle.method.specs.declared.program.DeclaredType.{DeclaredType}
use Rattle.method.specs.declared.program.DeclaredType.TheVariants.{Integer, Pointer, Object, Claim}
use Rattle.method.specs.Tables.{zero_of, type_of_field, sort_of_type}
use Rattle.method.specs.WellFormed.{has_sort}
use Rattle.method.proofs.Global.{same_ref_is, same_ref_self, same_int_is}
use Rattle.term_meaning.specs.RawHeaps.{Place, ModeAt, OwnerAt, CountAt, MemberAt, ClaimedAt, FieldAt, ShapeAt, mode_number, record_value, raw, same_place, store_at, open_object, close_object, clear_set, with_members, is_one}
use Rattle.term_meaning.proofs.Sorted.{same_place_is}

-- One record with one place changed stores a value there.
pub put_stored : (p : Program) (h : Heap) (o : Ref) (new : Record) (c : Place) (v : Scalar) → record_value p new c ≡ v → ((d : Place) → same_place d c ≡ false → record_value p new d ≡ record_value p (h.get o) d) → raw p (put h o new) ≡ store_at (raw p h) c o v
unfolding put
put_stored p h o new c v here elsewhere = λ i d q. (by_test d q (same_place d c) (same_ref q o) refl refl) i
  where
    by_test : (d : Place) (q : Ref) (a b : Bool) → same_place d c ≡ a → same_ref q o ≡ b → record_value p (cond b new (h.get q)) d ≡ cond (a && b) v (record_value p (h.get q) d)
    by_test d q true true e f = ap (λ d. record_value p new d) (same_place_is d c e) ∙ here
    by_test d q false true e f = elsewhere d e ∙ ap (λ q. record_value p (h.get q) d) (sym (same_ref_is q o f))
    by_test d q true false e f = refl
    by_test d q false false e f = refl

pub mode_stored : (p : Program) (h : Heap) (o : Ref) (m : Mode) → raw p (put h o (record (h.get o) { mode = m })) ≡ store_at (raw p h) ModeAt o (Int (mode_number m))
mode_stored p h o m = put_stored p h o (record (h.get o) { mode = m }) ModeAt (Int (mode_number m)) refl elsewhere
  where
    elsewhere : (d : Place) → same_place d ModeAt ≡ false → record_value p (record (h.get o) { mode = m }) d ≡ record_value p (h.get o) d
    elsewhere ModeAt e = absurd (cc)
    elsewhere OwnerAt e = refl
    elsewhere CountAt e = refl
    elsewhere (MemberAt q) e = refl
    elsewhere (ClaimedAt q) e = refl
    elsewhere (FieldAt f) e = refl
    elsewhere (ShapeAt n vs) e = refl

pub owner_stored : (p : Program) (h : Heap) (o w : Ref) → raw p (put h o (record (h.get o) { owner = w })) ≡ store_at (raw p h) OwnerAt o (Refers w)
owner_stored p h o w = put_stored p h o (record (h.get o) { owner = w }) OwnerAt (Refers w) refl elsewhere
  where
    elsewhere : (d : Place) → same_place d OwnerAt ≡ false → record_value p (record (h.get o) { owner = w }) d ≡ record_value p (h.get o) d
    elsewhere ModeAt e = refl
    elsewhere OwnerAt e = absurd (cc)
    elsewhere CountAt e = refl
    elsewhere (MemberAt q) e = refl
    elsewhere (ClaimedAt q) e = refl
    elsewhere (FieldAt f) e = refl
    elsewhere (ShapeAt n vs) e = refl

pub count_stored : (p : Program) (h : Heap) (o : Ref) (n : ℤ) → raw p (put h o (with_count n (h.get o))) ≡ store_at (raw p h) CountAt o (Int n)
count_stored p h o n = put_stored p h o (with_count n (h.get o)) CountAt (Int n) refl elsewhere
  where
    elsewhere : (d : Place) → same_place d CountAt ≡ false → record_value p (with_count n (h.get o)) d ≡ record_value p (h.get o) d
    elsewhere ModeAt e = refl
    elsewhere OwnerAt e = refl
    elsewhere CountAt e = absurd (cc)
    elsewhere (MemberAt q) e = refl
    elsewhere (ClaimedAt q) e = refl
    elsewhere (FieldAt f) e = refl
    elsewhere (ShapeAt m vs) e = refl

-- a set with a member, or without it
pub member_is : (q m : Ref) (b : Bool) (set : List Ref) → same_ref q m ≡ false → is_in q (set_member m b set) ≡ is_in q set
member_is q m true set e = is_in_with q m set ∙ ap (λ s. s || is_in q set) e
member_is q m false set e = is_in_without q m set ∙ ap (λ s. is_in q set && not s) e ∙ and_true (is_in q set)
  where
    and_true : (b : Bool) → (b && true) ≡ b
    and_true true = refl
    and_true false = refl

pub member_there : (m : Ref) (b : Bool) (set : List Ref) → is_in m (set_member m b set) ≡ b
member_there m true set = is_in_with m m set ∙ ap (λ s. s || is_in m set) (same_ref_self m)
member_there m false set = is_in_without m m set ∙ ap (λ s. is_in m set && not s) (same_ref_self m) ∙ and_false (is_in m set)
  where
    and_false : (b : Bool) → (b && false) ≡ false
    and_false true = refl
    and_false false = refl

pub owned_stored : (p : Program) (h : Heap) (o m : Ref) (b : Bool) → raw p (put h o (with_owned m b (h.get o))) ≡ store_at (raw p h) (MemberAt m) o (says b)
owned_stored p h o m b = put_stored p h o (with_owned m b (h.get o)) (MemberAt m) (says b) (ap says (member_there m b (h.get o).owned)) elsewhere
  where
    elsewhere : (d : Place) → same_place d (MemberAt m) ≡ false → record_value p (with_owned m b (h.get o)) d ≡ record_value p (h.get o) d
    elsewhere ModeAt e = refl
    elsewhere OwnerAt e = refl
    elsewhere CountAt e = refl
    elsewhere (MemberAt q) e = ap says (member_is q m b (h.get o).owned e)
    elsewhere (ClaimedAt q) e = refl
    elsewhere (FieldAt f) e = refl
    elsewhere (ShapeAt n vs) e = refl

pub listed_stored : (p : Program) (h : Heap) (o m : Ref) (b : Bool) → raw p (put h o (with_listed m b (h.get o))) ≡ store_at (raw p h) (ClaimedAt m) o (says b)
listed_stored p h o m b = put_stored p h o (with_listed m b (h.get o)) (ClaimedAt m) (says b) (ap says (member_there m b (h.get o).listed)) elsewhere
  where
    elsewhere : (d : Place) → same_place d (ClaimedAt m) ≡ false → record_value p (with_listed m b (h.get o)) d ≡ record_value p (h.get o) d
    elsewhere ModeAt e = refl
    elsewhere OwnerAt e = refl
    elsewhere CountAt e = refl
    elsewhere (MemberAt q) e = refl
    elsewhere (ClaimedAt q) e = ap says (member_is q m b (h.get o).listed e)
    elsewhere (FieldAt f) e = refl
    elsewhere (ShapeAt n vs) e = refl

-- a field reads as what was written, if that is of its type's sort
pub zero_read : (ty : DeclaredType) (v : Scalar) → has_sort (sort_of_type ty) v ≡ true → (b : Bool) → is_zero v ≡ b → or_zero (zero_of ty) (cond b None (Some v)) ≡ v
zero_read ty v s false e = refl
zero_read (Integer c) (Int z) s true e = ap Int (sym (same_int_is z (pos 0) e))
zero_read (Integer c) (Refers r) s true e = absurd (cc)
zero_read (Pointer n) (Int z) s true e = absurd (cc)
zero_read (Pointer n) (Refers r) s true e = ap Refers (sym (same_ref_is r null e))
zero_read Object (Int z) s true e = absurd (cc)
zero_read Object (Refers r) s true e = ap Refers (sym (same_ref_is r null e))
zero_read Claim (Int z) s true e = absurd (cc)
zero_read Claim (Refers r) s true e = ap Refers (sym (same_ref_is r null e))

pub field_stored : (p : Program) (h : Heap) (o : Ref) (f : ℕ) (v : Scalar) → has_sort (sort_of_type (type_of_field p f)) v ≡ true → raw p (put h o (with_field f v (h.get o))) ≡ store_at (raw p h) (FieldAt f) o v
field_stored p h o f v s = put_stored p h o (with_field f v (h.get o)) (FieldAt f) v here elsewhere
  where
    here : or_zero (zero_of (type_of_field p f)) (cond (f == f) (kept v) ((h.get o).fields f)) ≡ v
    here = ap (λ b. or_zero (zero_of (type_of_field p f)) (cond b (kept v) ((h.get o).fields f))) (eq-eqb f f refl) ∙ zero_read (type_of_field p f) v s (is_zero v) refl

    elsewhere : (d : Place) → same_place d (FieldAt f) ≡ false → record_value p (with_field f v (h.get o)) d ≡ record_value p (h.get o) d
    elsewhere ModeAt e = refl
    elsewhere OwnerAt e = refl
    elsewhere CountAt e = refl
    elsewhere (MemberAt q) e = refl
    elsewhere (ClaimedAt q) e = refl
    elsewhere (FieldAt g) e = ap (λ b. or_zero (zero_of (type_of_field p g)) (cond b (kept v) ((h.get o).fields g))) e
    elsewhere (ShapeAt n vs) e = refl

-- What wrap and unwrap make of a heap.

pub one_says : (b : Bool) → is_one (says b) ≡ b
one_says true = refl
one_says false = refl

pub members_handed : (p : Program) (h : Heap) (o w : Ref) (m : Mode) → raw p (hand_over (put h o (record (h.get o) { mode = m })) (h.get o).owned w) ≡ with_members (mode_number m) w (raw p h) o
unfolding hand_over put
members_handed p h o w m = λ i d q. (at_place d q (is_in q (h.get o).owned) (same_ref q o) refl refl) i
  where
    new : Record
    new = record (h.get o) { mode = m }

    handed : (a b : Bool) (q : Ref) → Record
    handed a b q = cond a (record (cond b (record (h.get o) { mode = m }) (h.get q)) { owner = w }) (cond b (record (h.get o) { mode = m }) (h.get q))

    same_there : {X : Type 0} (f : Record → X) (q : Ref) (b : Bool) → same_ref q o ≡ b → f (cond b (h.get o) (h.get q)) ≡ f (h.get q)
    same_there f q true e = ap (λ q. f (h.get q)) (sym (same_ref_is q o e))
    same_there f q false e = refl

    both_ways_refl : {X : Type 0} (f : Record → X) (q : Ref) → ((r : Record) → f (record r { owner = w }) ≡ f r) → ((r : Record) → f (record r { mode = m }) ≡ f r) → (a b : Bool) → f (handed a b q) ≡ f (cond b (h.get o) (h.get q))
    both_ways_refl f q i j true true = i new ∙ j (h.get o)
    both_ways_refl f q i j true false = i (h.get q)
    both_ways_refl f q i j false true = j (h.get o)
    both_ways_refl f q i j false false = refl

    kept_at : {X : Type 0} (f : Record → X) (q : Ref) → ((r : Record) → f (record r { owner = w }) ≡ f r) → ((r : Record) → f (record r { mode = m }) ≡ f r) → (a b : Bool) → same_ref q o ≡ b → f (handed a b q) ≡ f (h.get q)
    kept_at f q i j a b e = both_ways_refl f q i j a b ∙ same_there f q b e

    modes : (a b : Bool) (q : Ref) → record_value p (handed a b q) ModeAt ≡ cond b (Int (mode_number m)) (Int (mode_number (h.get q).mode))
    modes true true q = refl
    modes true false q = refl
    modes false true q = refl
    modes false false q = refl

    owners : (a b : Bool) (q : Ref) → same_ref q o ≡ b → record_value p (handed a b q) OwnerAt ≡ cond a (Refers w) (Refers (h.get q).owner)
    owners true b q e = refl
    owners false true q e = ap (λ q. Refers (h.get q).owner) (sym (same_ref_is q o e))
    owners false false q e = refl

    at_place : (d : Place) (q : Ref) (a b : Bool) → is_in q (h.get o).owned ≡ a → same_ref q o ≡ b → record_value p (handed a b q) d ≡ with_members (mode_number m) w (raw p h) o d q
    at_place ModeAt q a b e f = modes a b q ∙ ap (λ b. cond b (Int (mode_number m)) (Int (mode_number (h.get q).mode))) (sym f)
    at_place OwnerAt q a b e f = owners a b q f ∙ ap (λ a. cond a (Refers w) (Refers (h.get q).owner)) (sym (one_says (is_in q (h.get o).owned) ∙ e))
    at_place CountAt q a b e f = kept_at (λ r. record_value p r CountAt) q (λ r. refl) (λ r. refl) a b f
    at_place (MemberAt x) q a b e f = kept_at (λ r. record_value p r (MemberAt x)) q (λ r. refl) (λ r. refl) a b f
    at_place (ClaimedAt x) q a b e f = kept_at (λ r. record_value p r (ClaimedAt x)) q (λ r. refl) (λ r. refl) a b f
    at_place (FieldAt x) q a b e f = kept_at (λ r. record_value p r (FieldAt x)) q (λ r. refl) (λ r. refl) a b f
    at_place (ShapeAt n vs) q a b e f = kept_at (λ r. record_value p r (ShapeAt n vs)) q (λ r. refl) (λ r. refl) a b f

-- unwrap and wrap
pub opened_is : (p : Program) (h : Heap) (o t : Ref) → raw p (hand_over (put h o (record (h.get o) { mode = Open })) (h.get o).owned t) ≡ open_object (raw p h) o t
opened_is p h o t = members_handed p h o t Open

pub closed_up_is : (p : Program) (h : Heap) (o : Ref) → raw p (hand_over (put h o (record (h.get o) { mode = Closed })) (h.get o).owned o) ≡ close_object (raw p h) o
closed_up_is p h o = members_handed p h o o Closed

-- an object whose set is empty
pub cleared_is : (p : Program) (h : Heap) (o : Ref) → raw p (put h o (record (h.get o) { owned = [] })) ≡ clear_set (raw p h) o
unfolding put is_in
cleared_is p h o = λ i d q. (at_place d q (same_ref q o) refl) i
  where
    at_place : (d : Place) (q : Ref) (b : Bool) → same_ref q o ≡ b → record_value p (cond b (record (h.get o) { owned = [] }) (h.get q)) d ≡ clear_set (raw p h) o d q
    at_place (MemberAt m) q true e = ap (λ b. cond b (Int (pos 0)) (record_value p (h.get q) (MemberAt m))) (sym e)
    at_place (MemberAt m) q false e = ap (λ b. cond b (Int (pos 0)) (record_value p (h.get q) (MemberAt m))) (sym e)
    at_place ModeAt q true e = ap (λ q. record_value p (h.get q) ModeAt) (sym (same_ref_is q o e))
    at_place OwnerAt q true e = ap (λ q. record_value p (h.get q) OwnerAt) (sym (same_ref_is q o e))
    at_place CountAt q true e = ap (λ q. record_value p (h.get q) CountAt) (sym (same_ref_is q o e))
    at_place (ClaimedAt m) q true e = ap (λ q. record_value p (h.get q) (ClaimedAt m)) (sym (same_ref_is q o e))
    at_place (FieldAt f) q true e = ap (λ q. record_value p (h.get q) (FieldAt f)) (sym (same_ref_is q o e))
    at_place (ShapeAt n vs) q true e = ap (λ q. record_value p (h.get q) (ShapeAt n vs)) (sym (same_ref_is q o e))
    at_place ModeAt q false e = refl
    at_place OwnerAt q false e = refl
    at_place CountAt q false e = refl
    at_place (ClaimedAt m) q false e = refl
    at_place (FieldAt f) q false e = refl
    at_place (ShapeAt n vs) q false e = refl

-- What several changes of one record store in its places, one after the other; and heaps with the same records.
use Rattle.std.proofs.Common.{◌≡◌, ℕ, zero, suc, ◌+◌, ◌-◌, ◌<◌, ◌==◌, Bool, true, false, cond, ◌&&◌, ◌||◌, List, [], ◌∷◌, None, slice_get, pos, refl, sym, ap, ◌∙◌, arith}
use Rattle.std.proofs.Math.Bool.{or-false}
use Rattle.std.specs.Prelude.{nat_lt}
use Rattle.std.proofs.lemmas.Bool.{eqb-true, eq-eqb, ltb-true, ltb-false, false_from_ne_true}
use Rattle.object_types.specs.declared.references.Ref.{Ref}
use Rattle.object_types.specs.declared.values.Value.{Value}
use Rattle.object_types.specs.declared.values.Value.TheVariants.{Int, Ref as Refers}
use Rattle.object_types.specs.declared.records.Mode.{Mode}
use Rattle.object_types.specs.declared.records.Mode.TheVariants.{Open, Closed}
use Rattle.object_types.specs.References.{same_ref}
use Rattle.object_types.specs.Values.{is_zero, kept, or_zero, says}
use Rattle.object_types.specs.Sets.{is_in, set_of}
use Rattle.object_types.specs.Heap.{Heap, Record, nothing, put, hand_over, with_owned, with_field}
use Rattle.object_types.proofs.Members.{is_in_with}
use Rattle.method.specs.declared.program.Program.{Program}
use Rattle.method.specs.Tables.{zero_of, type_of_field, sort_of_type}
use Rattle.method.specs.WellFormed.{has_sort}
use Rattle.method.specs.Actions.{fields_from, kept_at, new_object}
use Rattle.method.proofs.Global.{same_ref_is, same_ref_self, in_set}
use Rattle.machine_laws.proofs.Heaps.{in_more, in_none}
use Rattle.term_meaning.specs.RawHeaps.{RawHeap, Place, ModeAt, OwnerAt, CountAt, MemberAt, ClaimedAt, FieldAt, ShapeAt, mode_number, record_value, raw, same_place, store_at, close_object, clear_set}
use Rattle.term_meaning.proofs.Changes.{zero_read, mode_stored, cleared_is, closed_up_is}
use Rattle.term_meaning.proofs.Sorted.{same_place_is}

-- heaps with the same records are the same raw heap
pub raw_same : (p : Program) (h k : Heap) → ((q : Ref) → h.get q ≡ k.get q) → raw p h ≡ raw p k
raw_same p h k e = λ i c q. record_value p (e q i) c

-- a record that holds the same at each place may be put in another's place
pub put_held : (p : Program) (h : Heap) (o : Ref) (r s : Record) → ((d : Place) → record_value p r d ≡ record_value p s d) → raw p (put h o r) ≡ raw p (put h o s)
unfolding put
put_held p h o r s e = λ i d q. by q (same_ref q o) d i
  where
    by : (q : Ref) (b : Bool) (d : Place) → record_value p (cond b r (h.get q)) d ≡ record_value p (cond b s (h.get q)) d
    by q true d = e d
    by q false d = refl

-- the record that stands there already
pub put_own : (p : Program) (h : Heap) (o : Ref) → raw p (put h o (h.get o)) ≡ raw p h
unfolding put
put_own p h o = λ i d q. by q (same_ref q o) refl d i
  where
    by : (q : Ref) (b : Bool) → same_ref q o ≡ b → (d : Place) → record_value p (cond b (h.get o) (h.get q)) d ≡ record_value p (h.get q) d
    by q true e d = ap (λ q. record_value p (h.get q) d) (sym (same_ref_is q o e))
    by q false e d = refl

-- One more place of a record that was put is changed.
pub put_again : (p : Program) (h : Heap) (o : Ref) (r s : Record) (c : Place) (v : Value) → record_value p s c ≡ v → ((d : Place) → same_place d c ≡ false → record_value p s d ≡ record_value p r d) → raw p (put h o s) ≡ store_at (raw p (put h o r)) c o v
unfolding put
put_again p h o r s c v here elsewhere = λ i d q. by d q (same_place d c) (same_ref q o) refl i
  where
    by : (d : Place) (q : Ref) (a b : Bool) → same_place d c ≡ a → record_value p (cond b s (h.get q)) d ≡ cond (a && b) v (record_value p (cond b r (h.get q)) d)
    by d q true true e = ap (λ d. record_value p s d) (same_place_is d c e) ∙ here
    by d q false true e = elsewhere d e
    by d q true false e = refl
    by d q false false e = refl

-- Status: mode, and then owner.
pub status_stored : (p : Program) (h : Heap) (o : Ref) (m : Mode) (w : Ref) → raw p (put h o (record (h.get o) { mode = m; owner = w })) ≡ store_at (store_at (raw p h) ModeAt o (Int (mode_number m))) OwnerAt o (Refers w)
status_stored p h o m w =
    put_again p h o (record (h.get o) { mode = m }) (record (h.get o) { mode = m; owner = w }) OwnerAt (Refers w) refl elsewhere
    ∙ ap (λ x. store_at x OwnerAt o (Refers w)) (mode_stored p h o m)
  where
    elsewhere : (d : Place) → same_place d OwnerAt ≡ false → record_value p (record (h.get o) { mode = m; owner = w }) d ≡ record_value p (record (h.get o) { mode = m }) d
    elsewhere ModeAt e = refl
    elsewhere OwnerAt e = absurd (cc)
    elsewhere CountAt e = refl
    elsewhere (MemberAt q) e = refl
    elsewhere (ClaimedAt q) e = refl
    elsewhere (FieldAt f) e = refl
    elsewhere (ShapeAt n vs) e = refl

-- Members, one after the other.

-- the record with these members, one after the other
abbrev pub joining : Record → List Ref → Record
joining r [] = r
joining r (q ∷ qs) = joining (with_owned q true r) qs

-- its columns
abbrev pub joined_raw : RawHeap → Ref → List Ref → RawHeap
joined_raw x o [] = x
joined_raw x o (q ∷ qs) = joined_raw (store_at x (MemberAt q) o (Int (pos 1))) o qs

-- membership of a record that was put
member_again : (p : Program) (h : Heap) (o : Ref) (r : Record) (q : Ref) → raw p (put h o (with_owned q true r)) ≡ store_at (raw p (put h o r)) (MemberAt q) o (Int (pos 1))
member_again p h o r q = put_again p h o r (with_owned q true r) (MemberAt q) (Int (pos 1)) (ap says (is_in_with q q r.owned ∙ ap (λ b. b || is_in q r.owned) (same_ref_self q))) elsewhere
  where
    elsewhere : (d : Place) → same_place d (MemberAt q) ≡ false → record_value p (with_owned q true r) d ≡ record_value p r d
    elsewhere ModeAt e = refl
    elsewhere OwnerAt e = refl
    elsewhere CountAt e = refl
    elsewhere (MemberAt m) e = ap says (is_in_with m q r.owned ∙ ap (λ b. b || is_in m r.owned) e)
    elsewhere (ClaimedAt m) e = refl
    elsewhere (FieldAt f) e = refl
    elsewhere (ShapeAt n vs) e = refl

joining_raw : (p : Program) (h : Heap) (o : Ref) (r : Record) (qs : List Ref) → raw p (put h o (joining r qs)) ≡ joined_raw (raw p (put h o r)) o qs
joining_raw p h o r [] = refl
joining_raw p h o r (q ∷ qs) = joining_raw p h o (with_owned q true r) qs ∙ ap (λ x. joined_raw x o qs) (member_again p h o r q)

pub or_swap : (a b c : Bool) → a || (b || c) ≡ (b || a) || c
or_swap true true c = refl
or_swap true false c = refl
or_swap false true c = refl
or_swap false false c = refl

joining_in : (r : Record) (qs : List Ref) (m : Ref) → is_in m (joining r qs).owned ≡ is_in m qs || is_in m r.owned
joining_in r [] m = ap (λ b. b || is_in m r.owned) (sym (in_none m))
joining_in r (q ∷ qs) m = joining_in (with_owned q true r) qs m ∙ ap (λ b. is_in m qs || b) (is_in_with m q r.owned) ∙ or_swap (is_in m qs) (same_ref m q) (is_in m r.owned) ∙ ap (λ b. b || is_in m r.owned) (sym (in_more m q qs))

joining_rest : (p : Program) (r : Record) (qs : List Ref) (d : Place) → ((m : Ref) → same_place d (MemberAt m) ≡ false) → record_value p (joining r qs) d ≡ record_value p r d
joining_rest p r [] d e = refl
joining_rest p r (q ∷ qs) d e = joining_rest p (with_owned q true r) qs d e ∙ by d e
  where
    by : (d : Place) → ((m : Ref) → same_place d (MemberAt m) ≡ false) → record_value p (with_owned q true r) d ≡ record_value p r d
    by ModeAt e = refl
    by OwnerAt e = refl
    by CountAt e = refl
    by (MemberAt m) e = absurd (let z : true ≡ false = sym (same_ref_self m) ∙ e m in cc)
    by (ClaimedAt m) e = refl
    by (FieldAt f) e = refl
    by (ShapeAt n vs) e = refl

-- the set of o is cleared, and then has these members
pub members_stored : (p : Program) (h : Heap) (o : Ref) (qs : List Ref) → raw p (put h o (record (h.get o) { owned = set_of qs })) ≡ joined_raw (clear_set (raw p h) o) o qs
members_stored p h o qs =
    put_held p h o (record (h.get o) { owned = set_of qs }) (joining (record (h.get o) { owned = [] }) qs) same
    ∙ joining_raw p h o (record (h.get o) { owned = [] }) qs ∙ ap (λ x. joined_raw x o qs) (cleared_is p h o)
  where
    empty : Record
    empty = record (h.get o) { owned = [] }

    same : (d : Place) → record_value p (record (h.get o) { owned = set_of qs }) d ≡ record_value p (joining (record (h.get o) { owned = [] }) qs) d
    same ModeAt = sym (joining_rest p empty qs ModeAt (λ m. refl))
    same OwnerAt = sym (joining_rest p empty qs OwnerAt (λ m. refl))
    same CountAt = sym (joining_rest p empty qs CountAt (λ m. refl))
    same (MemberAt m) = ap says (in_set m qs ∙ sym (joining_in empty qs m ∙ ap (λ b. is_in m qs || b) (in_none m) ∙ or-false (is_in m qs)))
    same (ClaimedAt m) = sym (joining_rest p empty qs (ClaimedAt m) (λ m. refl))
    same (FieldAt f) = sym (joining_rest p empty qs (FieldAt f) (λ m. refl))
    same (ShapeAt n vs) = sym (joining_rest p empty qs (ShapeAt n vs) (λ m. refl))

-- Fields, one after the other.

-- the record with these values from field n on
abbrev pub filling : Record → ℕ → List Value → Record
filling r n [] = r
filling r n (v ∷ vs) = filling (with_field n v r) (n + 1) vs

-- its columns
abbrev pub filled_raw : RawHeap → Ref → ℕ → List Value → RawHeap
filled_raw x o n [] = x
filled_raw x o n (v ∷ vs) = filled_raw (store_at x (FieldAt n) o v) o (n + 1) vs

-- each value is of its field's sort
abbrev pub AllSorted : Program → ℕ → List Value → Type 0
AllSorted p n [] = Unit {0}
AllSorted p n (v ∷ vs) = (has_sort (sort_of_type (type_of_field p n)) v ≡ true) × AllSorted p (n + 1) vs

-- what was written is read
written_read : (p : Program) (r : Record) (n : ℕ) (v : Value) → has_sort (sort_of_type (type_of_field p n)) v ≡ true → record_value p (with_field n v r) (FieldAt n) ≡ v
written_read p r n v s = ap (λ b. or_zero (zero_of (type_of_field p n)) (cond b (kept v) (r.fields n))) (eq-eqb n n refl) ∙ zero_read (type_of_field p n) v s (is_zero v) refl

-- a field of a record that was put
field_again : (p : Program) (h : Heap) (o : Ref) (r : Record) (n : ℕ) (v : Value) → has_sort (sort_of_type (type_of_field p n)) v ≡ true → raw p (put h o (with_field n v r)) ≡ store_at (raw p (put h o r)) (FieldAt n) o v
field_again p h o r n v s = put_again p h o r (with_field n v r) (FieldAt n) v (written_read p r n v s) elsewhere
  where
    elsewhere : (d : Place) → same_place d (FieldAt n) ≡ false → record_value p (with_field n v r) d ≡ record_value p r d
    elsewhere ModeAt e = refl
    elsewhere OwnerAt e = refl
    elsewhere CountAt e = refl
    elsewhere (MemberAt q) e = refl
    elsewhere (ClaimedAt q) e = refl
    elsewhere (FieldAt g) e = ap (λ b. or_zero (zero_of (type_of_field p g)) (cond b (kept v) (r.fields g))) e
    elsewhere (ShapeAt m vs) e = refl

filling_raw : (p : Program) (h : Heap) (o : Ref) (r : Record) (n : ℕ) (vs : List Value) → AllSorted p n vs → raw p (put h o (filling r n vs)) ≡ filled_raw (raw p (put h o r)) o n vs
filling_raw p h o r n [] s = refl
filling_raw p h o r n (v ∷ vs) s = filling_raw p h o (with_field n v r) (n + 1) vs s.1 ∙ ap (λ x. filled_raw x o (n + 1) vs) (field_again p h o r n v s.0)

-- the fields of a filled record: those before number n are as before, the others are the values
filling_before : (r : Record) (n : ℕ) (vs : List Value) (g : ℕ) → g < n → (filling r n vs).fields g ≡ r.fields g
filling_before r n [] g less = refl
filling_before r n (v ∷ vs) g less = filling_before (with_field n v r) (n + 1) vs g (omega (arith, less)) ∙ ap (λ b. cond b (kept v) (r.fields g)) (false_from_ne_true (g == n) (λ e. let z : g ≡ n = eqb-true g n e in omega (arith, less, z)))

filling_at : (r : Record) (n : ℕ) (vs : List Value) (j : ℕ) → r.fields (n + j) ≡ None → (filling r n vs).fields (n + j) ≡ kept_at (slice_get vs j)
filling_at r n [] j e = e
filling_at r n (v ∷ vs) zero e =
    let z : n + 0 ≡ n = omega arith in
    ap (λ g. (filling (with_field n v r) (n + 1) vs).fields g) z ∙ filling_before (with_field n v r) (n + 1) vs n (omega arith) ∙ ap (λ b. cond b (kept v) (r.fields n)) (eq-eqb n n refl)
filling_at r n (v ∷ vs) (suc j) e =
    let z : n + suc j ≡ n + 1 + j = omega arith in
    ap (λ g. (filling (with_field n v r) (n + 1) vs).fields g) z
    ∙ filling_at (with_field n v r) (n + 1) vs j (ap (λ b. cond b (kept v) (r.fields (n + 1 + j))) (false_from_ne_true (n + 1 + j == n) (λ e. let y : n + 1 + j ≡ n = eqb-true (n + 1 + j) n e in omega (arith, y))) ∙ ap r.fields (sym z) ∙ e)

filling_rest : (p : Program) (r : Record) (n : ℕ) (vs : List Value) (d : Place) → ((g : ℕ) → same_place d (FieldAt g) ≡ false) → record_value p (filling r n vs) d ≡ record_value p r d
filling_rest p r n [] d e = refl
filling_rest p r n (v ∷ vs) d e = filling_rest p (with_field n v r) (n + 1) vs d e ∙ by d e
  where
    by : (d : Place) → ((g : ℕ) → same_place d (FieldAt g) ≡ false) → record_value p (with_field n v r) d ≡ record_value p r d
    by ModeAt e = refl
    by OwnerAt e = refl
    by CountAt e = refl
    by (MemberAt m) e = refl
    by (ClaimedAt m) e = refl
    by (FieldAt g) e = absurd (let z : true ≡ false = sym (eq-eqb g g refl) ∙ e g in cc)
    by (ShapeAt n vs) e = refl

-- a new object where nothing stood: its status, and then its fields
pub new_stored : (p : Program) (h : Heap) (o me : Ref) (n : ℕ) (vs : List Value) → h.get o ≡ nothing → AllSorted p n vs → raw p (put h o (new_object me n vs)) ≡ filled_raw (store_at (store_at (raw p h) ModeAt o (Int (pos 1))) OwnerAt o (Refers me)) o n vs
new_stored p h o me n vs none sorted =
    put_held p h o (new_object me n vs) (filling begun n vs) same ∙ filling_raw p h o begun n vs sorted ∙ ap (λ x. filled_raw x o n vs) (ap (λ (r : Record). raw p (put h o (record r { mode = Open; owner = me }))) (sym none) ∙ status_stored p h o Open me)
  where
    begun : Record
    begun = record nothing { mode = Open; owner = me }

    fields : (g : ℕ) → fields_from n vs g ≡ (filling begun n vs).fields g
    fields g = by (nat_lt g n) refl
      where
        by : (b : Bool) → nat_lt g n ≡ b → cond b None (kept_at (slice_get vs (g - n))) ≡ (filling begun n vs).fields g
        by true e = sym (filling_before begun n vs g (ltb-true g n e))
        by false e = let y = ltb-false g n e in let z : n + (g - n) ≡ g = omega (arith, y) in sym (filling_at begun n vs (g - n) refl) ∙ ap (λ j. (filling begun n vs).fields j) z

    same : (d : Place) → record_value p (new_object me n vs) d ≡ record_value p (filling begun n vs) d
    same ModeAt = sym (filling_rest p begun n vs ModeAt (λ m. refl))
    same OwnerAt = sym (filling_rest p begun n vs OwnerAt (λ m. refl))
    same CountAt = sym (filling_rest p begun n vs CountAt (λ m. refl))
    same (MemberAt m) = sym (filling_rest p begun n vs (MemberAt m) (λ m. refl))
    same (ClaimedAt m) = sym (filling_rest p begun n vs (ClaimedAt m) (λ m. refl))
    same (FieldAt g) = ap (or_zero (zero_of (type_of_field p g))) (fields g)
    same (ShapeAt k us) = sym (filling_rest p begun n vs (ShapeAt k us) (λ m. refl))

-- wrap with another owned set: first the set, then what wrap makes of it
pub wrapped_stored : (p : Program) (h : Heap) (o : Ref) (qs : List Ref) → raw p (hand_over (put h o (record (h.get o) { mode = Closed; owned = qs })) qs o) ≡ close_object (raw p (put h o (record (h.get o) { owned = qs }))) o
unfolding put hand_over
wrapped_stored p h o qs = raw_same p (hand_over (put h o (record (h.get o) { mode = Closed; owned = qs })) qs o) (hand_over (put set o (record (set.get o) { mode = Closed })) (set.get o).owned o) same ∙ closed_up_is p set o
  where
    set : Heap
    set = put h o (record (h.get o) { owned = qs })

    there : set.get o ≡ record (h.get o) { owned = qs }
    there = ap (λ b. cond b (record (h.get o) { owned = qs }) (h.get o)) (same_ref_self o)

    handed : List Ref → Record → Record → Bool → Ref → Record
    handed ms r s b q = cond (is_in q ms) (record (cond b r s) { owner = o }) (cond b r s)

    twice : (ms : List Ref) (q : Ref) (b : Bool) → handed ms (record (h.get o) { mode = Closed; owned = qs }) (h.get q) b q ≡ handed ms (record (h.get o) { mode = Closed; owned = qs }) (cond b (record (h.get o) { owned = qs }) (h.get q)) b q
    twice ms q true = refl
    twice ms q false = refl

    same : (q : Ref) → (hand_over (put h o (record (h.get o) { mode = Closed; owned = qs })) qs o).get q ≡ (hand_over (put set o (record (set.get o) { mode = Closed })) (set.get o).owned o).get q
    same q = twice qs q (same_ref q o) ∙ ap (λ (r : Record). handed r.owned (record r { mode = Closed }) (set.get q) (same_ref q o) q) (sym there)

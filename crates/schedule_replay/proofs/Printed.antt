-- The records of a heap, as they are printed one after the other.
use Rattle.std.proofs.Common.{◌≡◌, ℕ, ◌+◌, ◌-◌, ◌*◌, ◌<◌, Bool, true, false, cond, List, [], ◌∷◌, ◌++◌, Option, Some, None, refl, sym, ap, subst, ◌∙◌}
use Rattle.std.specs.Prelude.{not, nat_lt}
use Rattle.std.specs.List.{flat_map, find}
use Rattle.std.proofs.lemmas.Bool.{and_parts, ltb-true}
use Rattle.object_types.specs.declared.references.Ref.{Ref}
use Rattle.object_types.specs.declared.records.Mode.{Mode}
use Rattle.object_types.specs.declared.records.Stored.{Stored}
use Rattle.object_types.specs.References.{null, same_ref, ref_lt}
use Rattle.object_types.specs.Sets.{every}
use Rattle.object_types.specs.Heap.{Heap, Record, IsFinite, is_absent, nothing}
use Rattle.object_types.specs.Content.{IsFirst}
use Rattle.object_types.specs.Lookups.{look_up, heap_of, record_or_nothing, is_tidy, IsKept}
use Rattle.object_types.proofs.Orders.{ref_order}
use Rattle.object_types.proofs.Fresh.{support_covers}
use Rattle.method.specs.declared.program.Program.{Program}
use Rattle.schedule_replay.specs.Records.{is_used, references, following, fields_from, content_text, heading_text, used_text, record_text, records_text}
use Rattle.schedule_replay.proofs.Onward.{from_on, left_from, step_used, step_unused, none_left, all_left, same_references}

-- ---- references of 32 bits

small_in : (ss : List Stored) → every is_tidy ss ≡ true → (q : Ref) → not (is_absent (look_up ss q).mode) ≡ true → (q.ty < 4294967296) × (q.serial < 4294967296)
small_in [] tidy q used = absurd cc
small_in (s ∷ ss) tidy q used = by_test (small_in ss (and_parts (is_tidy s) (every is_tidy ss) tidy).1 q) (same_ref q s.reference) refl used
  where
    parts : (is_tidy s ≡ true) × (every is_tidy ss ≡ true)
    parts = and_parts (is_tidy s) (every is_tidy ss) tidy

    by_test : (not (is_absent (look_up ss q).mode) ≡ true → (q.ty < 4294967296) × (q.serial < 4294967296)) → (b : Bool) → same_ref q s.reference ≡ b → not (is_absent (record_or_nothing (cond b (Some s) (find (λ x. same_ref q x.reference) ss))).mode) ≡ true → (q.ty < 4294967296) × (q.serial < 4294967296)
    by_test more true e h =
        let serial = and_parts (nat_lt s.reference.serial 4294967296) _ parts.0 in
        let type_ = and_parts (nat_lt s.reference.ty 4294967296) _ serial.1 in
        subst (λ (z : Ref). (z.ty < 4294967296) × (z.serial < 4294967296)) (sym (ref_order.equal q s.reference e)) (ltb-true _ _ type_.0, ltb-true _ _ serial.0)
    by_test more false e h = more h

-- ---- the records from one reference on

pub rest_text : Program → Heap → Option Ref → List ℕ
rest_text p h o = flat_map (record_text p h) (left_from h o)

pub used_is : (p : Program) (ss : List Stored) (o : Ref) (mode : Mode) (b : Bool) → b ≡ false → b ≡ is_absent mode → mode ≡ (look_up ss o).mode → record_text p (heap_of ss) o ≡ used_text p (heap_of ss) o
used_is p ss o mode b is same there = sym (ap (λ (x : Bool). cond (not x) (record_text p (heap_of ss) o) []) (ap is_absent (sym there) ∙ (sym same ∙ is)))

pub records_begin : (p : Program) (ss : List Stored) → records_text p (heap_of ss) ≡ rest_text p (heap_of ss) (Some null)
unfolding records_text rest_text
records_begin p ss = ap (flat_map (record_text p (heap_of ss))) (all_left (heap_of ss) (support_covers ss))

pub records_next : (p : Program) (ss : List Stored) → IsKept ss → (x r : Ref) → IsFirst (look_up ss) x r → rest_text p (heap_of ss) (Some x) ≡ used_text p (heap_of ss) r ++ rest_text p (heap_of ss) (following r)
unfolding rest_text
records_next p ss kept x r first = by_test (is_used (heap_of ss) r) refl
  where
    small : (q : Ref) → is_used (heap_of ss) q ≡ true → (q.ty < 4294967296) × (q.serial < 4294967296)
    small q used = small_in ss kept.tidy q used

    by_test : (b : Bool) → is_used (heap_of ss) r ≡ b → flat_map (record_text p (heap_of ss)) (from_on (heap_of ss) x) ≡ cond b (record_text p (heap_of ss) r) [] ++ flat_map (record_text p (heap_of ss)) (left_from (heap_of ss) (following r))
    by_test true e = ap (flat_map (record_text p (heap_of ss))) (step_used (heap_of ss) (support_covers ss) small x r first e)
    by_test false e = ap (flat_map (record_text p (heap_of ss))) (step_unused (heap_of ss) (support_covers ss) small x r first e)

pub records_over : (p : Program) (ss : List Stored) (x : Ref) → ((q : Ref) → ref_lt q x ≡ false → look_up ss q ≡ nothing) → rest_text p (heap_of ss) (Some x) ≡ []
unfolding rest_text
records_over p ss x none = ap (flat_map (record_text p (heap_of ss))) (none_left (heap_of ss) x none)

pub nothing_left : (p : Program) (h : Heap) → rest_text p h None ≡ []
unfolding rest_text
nothing_left p h = refl

-- ---- heaps with the same records

other_support : (p : Program) (g : Heap) (support rs : List Ref) → flat_map (record_text p g) rs ≡ flat_map (record_text p (record { get = g.get; support = support })) rs
unfolding record_text heading_text content_text fields_from
other_support p g support rs = refl

-- a heap's text depends on its records alone
same_text_from : (p : Program) (g h : Heap) → g.get ≡ h.get → references g ≡ references h → records_text p g ≡ records_text p h
unfolding records_text
same_text_from p g h same refs = ap (flat_map (record_text p g)) refs ∙ texts
  where
    texts : flat_map (record_text p g) (references h) ≡ flat_map (record_text p h) (references h)
    texts = subst (λ (get : Ref → Record). flat_map (record_text p g) (references h) ≡ flat_map (record_text p (record { get = get; support = h.support })) (references h)) same (other_support p g h.support (references h))

pub same_records : (p : Program) (g : Heap) (ss : List Stored) → IsFinite g → g.get ≡ look_up ss → records_text p g ≡ records_text p (heap_of ss)
same_records p g ss finite same =
    same_text_from p g (heap_of ss) same (same_references g (heap_of ss) finite (support_covers ss) (λ q. ap (λ (get : Ref → Record). get q) same))

-- ---- the end of the loop

-- how many references of 32 bits there are from one on
abbrev pub to_come : Option Ref → ℕ
to_come None = 0
to_come (Some r) = (4294967296 - r.ty) * 4294967296 + (4294967296 - r.serial)

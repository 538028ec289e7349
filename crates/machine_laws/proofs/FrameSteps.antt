-- A rely step is a frame step in every frame, and a frame step of a callee is one of its caller.
use Rattle.std.proofs.Common.{◌≡◌, true, false, not, ◌&&◌, ⊎_elim, ap, ◌∙◌, List, IsTrue}
use Rattle.object_types.specs.declared.references.Ref.{Ref}
use Rattle.method.specs.declared.program.Program.{Program}
use Rattle.object_types.specs.References.{is_claim, same_ref}
use Rattle.object_types.specs.Sets.{is_in}
use Rattle.object_types.specs.Heap.{Heap, closed_in, wrapped, writable}
use Rattle.method.specs.WellFormed.{IsFixed, WellFormed, claims_now}
use Rattle.method.specs.StableSet.{StableFrom, root, claimed, member, InFrameSet, Spared}
use Rattle.method.proofs.Global.{and_both, both_and}
use Rattle.machine_laws.specs.Laws.{RelyIsFrame, FrameNarrows}
use Rattle.machine_laws.proofs.Typed.{not_both, or_cases}
use Rattle.machine_laws.proofs.Heaps.{false_from_ne_true, not-true, same_ref_from, mutable_parts, wrapped_parts}

-- a set of fewer roots is a smaller set
pub fewer : (p : Program) (h : Heap) (R S : Ref → Type 0) → ((o : Ref) → R o → S o) → (o : Ref) → StableFrom p h R o → StableFrom p h S o
fewer p h R S f o (root r) = root (f o r)
fewer p h R S f o (claimed {c} s e) = claimed (fewer p h R S f c s) e
fewer p h R S f o (member {c} s v i) = member (fewer p h R S f c s) v i

record Moved (p : Program) (k : Heap) (S : Ref → Type 0) (o : Ref) : Type 0 where
  closed : closed_in k o ≡ true
  there : StableFrom p k S o

-- what is fixed of a set, and where its roots go, says where it goes
module _ (p : Program) (h k : Heap) (after : WellFormed p k) (R S : Ref → Type 0) (roots : (o : Ref) → R o → (closed_in k o ≡ true) × S o)
    (fixed : (o : Ref) → StableFrom p h R o → IsFixed p o h k) where
  moves : (o : Ref) → StableFrom p h R o → Moved p k S o
  moves o (root r) = let x = roots o r in record { closed = x.0; there = root x.1 }
  moves o (claimed {c} s e) =
      let x = moves c s in
      let b = and_both (is_claim c) (closed_in h c && is_in o (h.get c).listed) e in
      let d = and_both (closed_in h c) (is_in o (h.get c).listed) b.1 in
      let now : claims_now k o c ≡ true =
      both_and (is_claim c) (closed_in k c && is_in o (k.get c).listed) b.0 (both_and (closed_in k c) (is_in o (k.get c).listed) x.closed (ap (is_in o) (fixed c s).listed ∙ d.1)) in
      record { closed = (after.listed c o now).0; there = claimed x.there now }
  moves o (member {c} s v i) =
      let x = moves c s in
      let now : is_in o (k.get c).owned ≡ true = ap (is_in o) ((fixed c s).owned v) ∙ i in
      record { closed = (after.member c o x.closed now).0; there = member x.there v now }

pub rely_is_frame : RelyIsFrame
rely_is_frame p t h k e w entry r = record {
  before = r.before.well_formed.heap_of;
  entry = entry;
  after = r.after;
  own_open = λ o m n. r.own_open o m;
  own_closed = λ o m n. r.own_closed o m;
  stable = λ o s.
      let fixed : (q : Ref) → InFrameSet p t h e w q → IsFixed p q h k = λ q z. (r.stable q (fewer p h (Spared t h e w) (λ x. IsTrue (wrapped t h x)) (λ x y. y.wrapped_now) q z)).0 in (
        fixed o s,
        (moves p h k r.after.well_formed (Spared t h e w) (Spared t k e w)
            (λ q y. let c = (r.own_closed q y.wrapped_now).0 in ((wrapped_parts t k q c).0, record { wrapped_now = c; not_written = y.not_written })) fixed o s).there,
      );
}

-- what the caller may not write, and owns at the call, the callee may not write
not_callee : (t : Ref) (h e : Heap) (w v : List Ref) (o : Ref) → ((q : Ref) → is_in q v ≡ true → writable t e w q ≡ true) → (h.get o).owner ≡ t → writable t e w o ≡ false → writable t h v o ≡ false
not_callee t h e w v o may owner n = false_from_ne_true (writable t h v o) (λ x. ⊎_elim
    (λ i. not_both (writable t e w o) (may o i) n)
    (λ i. not_both (same_ref (h.get o).owner t) (same_ref_from (h.get o).owner t owner) (not-true (same_ref (h.get o).owner t) i))
    (or_cases (is_in o v) (not (same_ref (h.get o).owner t)) x))

pub frame_narrows : FrameNarrows
frame_narrows p t h k e w v entry may f = record {
  before = f.before;
  entry = entry;
  after = f.after;
  own_open = λ o m n. f.own_open o m (not_callee t h e w v o may (mutable_parts t h o m).1 n);
  own_closed = λ o m n. f.own_closed o m (not_callee t h e w v o may (wrapped_parts t h o m).1 n);
  stable = λ o s.
      let inner : (q : Ref) → Spared t h e w q → Spared t h h v q = λ q y. record {
        wrapped_now = y.wrapped_now;
        not_written = not_callee t h e w v q may
            (wrapped_parts t h q y.wrapped_now).1 y.not_written;
      } in
      let fixed : (q : Ref) → InFrameSet p t h e w q → IsFixed p q h k = λ q z. (f.stable q (fewer p h (Spared t h e w) (Spared t h h v) inner q z)).0 in (
        fixed o s,
        (moves p h k f.after.well_formed (Spared t h e w) (Spared t k e w)
            (λ q y. let c = (f.own_closed q y.wrapped_now (inner q y).not_written).0 in ((wrapped_parts t k q c).0, record { wrapped_now = c; not_written = y.not_written })) fixed o s).there,
      );
}

-- What other threads may do keeps a function's frame; what a caller may not write its callee may not write.
use Rattle.std.proofs.Common.{◌≡◌, ℕ, Bool, true, false, not, ◌&&◌, ◌==◌, List, [], ◌∷◌, refl, sym, ap, ◌∙◌, subst, IsTrue, IsFalse, ◌⊎◌, inl, inr}
use Rattle.std.proofs.lemmas.Bool.{both_ways, or_cases, false_from_ne_true, not-false, or_parts, or_from}
use Rattle.object_types.specs.declared.references.Ref.{Ref}
use Rattle.object_types.specs.declared.records.Mode.{Mode}
use Rattle.object_types.specs.declared.records.Mode.TheVariants.{Absent, Open, Closed, Freed}
use Rattle.method.specs.declared.program.Spec.{Spec}
use Rattle.method.specs.declared.program.Program.{Program}
use Rattle.object_types.specs.References.{null, thread, same_ref, is_claim}
use Rattle.object_types.specs.Values.{referent}
use Rattle.object_types.specs.Sets.{is_in, every}
use Rattle.object_types.specs.Heap.{Heap, Record, IsClosedIn, closed_in, is_open, is_closed, wrapped, writable}
use Rattle.method.specs.SpecValue.{Scene, value}
use Rattle.method.specs.WellFormed.{IsHeapOf}
use Rattle.method.specs.Legal.{Good}
use Rattle.method.specs.StableSet.{root, claimed, member, Spared, InFrameSet, InStableSet}
use Rattle.method.specs.Rely.{Rely, Frame}
use Rattle.method.specs.Expressions.{Tested, item_tests}
use Rattle.method.specs.Actions.{items_of}
use Rattle.method.proofs.Global.{and_both, both_and, same_ref_is}
use Rattle.machine_laws.proofs.FrameSteps.{fewer}

pub frame_rests : (p : Program) (t : Ref) (h e : Heap) (w : List Ref) → IsHeapOf p e → Good p h → Frame p t h h e w
frame_rests p t h e w entry good = record {
  before = good.well_formed.heap_of;
  entry = entry;
  after = good;
  own_open = λ o m n. refl;
  own_closed = λ o m n. (m, refl, record { fields = λ f a. refl });
  stable = λ o s. (record { fields = λ f e. refl; owned = λ e. refl; listed = refl; shapes = refl }, s);
}

-- what is in the set is closed
pub set_closed : (p : Program) (t : Ref) (h : Heap) → Good p h → (o : Ref) → InStableSet p t h o → IsClosedIn h o
set_closed p t h good o (root r) = (and_both (closed_in h o) (same_ref (h.get o).owner t) r).0
set_closed p t h good o (claimed {c = c} s i) = (good.well_formed.listed c o i).0
set_closed p t h good o (member {c = c} s v i) = (good.well_formed.member c o (set_closed p t h good c s) i).0

module _ (p : Program) (t : Ref) (e : Heap) (w : List Ref) (h k : Heap) (r : Rely p t h k) where
  framed_stable : (o : Ref) → InFrameSet p t h e w o → InStableSet p t h o
  framed_stable o s = fewer p h (Spared t h e w) (λ q. IsTrue (wrapped t h q)) (λ q y. y.wrapped_now) o s

  framed_on : (o : Ref) → InFrameSet p t h e w o → InFrameSet p t k e w o
  framed_on o (root y) = root (record { wrapped_now = (r.own_closed o y.wrapped_now).0; not_written = y.not_written })
  framed_on o (claimed {c = c} s i) =
      let x = r.stable c (framed_stable c s) in
      let a = and_both (is_claim c) (closed_in h c && is_in o (h.get c).listed) i in
      let b = and_both (closed_in h c) (is_in o (h.get c).listed) a.1 in
      claimed (framed_on c s) (both_and _ _ a.0 (both_and _ _ (set_closed p t k r.after c x.1) (subst (λ (rs : List Ref). is_in o rs ≡ true) (sym x.0.listed) b.1)))
  framed_on o (member {c = c} s v i) =
      let x = r.stable c (framed_stable c s) in
      member (framed_on c s) v (subst (λ (rs : List Ref). is_in o rs ≡ true) (sym (x.0.owned v)) i)

  pub rely_frame : IsHeapOf p e → Frame p t h k e w
  rely_frame entry = record {
    before = r.before.well_formed.heap_of;
    entry = entry;
    after = r.after;
    own_open = λ o m n. r.own_open o m;
    own_closed = λ o m n. r.own_closed o m;
    stable = λ o s. ((r.stable o (framed_stable o s)).0, framed_on o s);
  }

items_pass : (p : Program) (ok : Ref → Bool) (es : List Spec) (s : Scene) (o : Ref) → every (λ (u : Tested). u.holds) (item_tests p ok es s) ≡ true → is_in o (items_of p es s) ≡ true → ok o ≡ true
unfolding is_in
items_pass p ok [] s o all i = absurd (both_ways false refl i)
items_pass p ok (e ∷ es) s o all i =
    let x = and_both (ok (referent (value p e s))) (every (λ (u : Tested). u.holds) (item_tests p ok es s)) all in
    by_place (or_cases (same_ref o (referent (value p e s))) (is_in o (items_of p es s)) i) x.0 (items_pass p ok es s o x.1)
  where
    by_place : (same_ref o (referent (value p e s)) ≡ true) ⊎ (is_in o (items_of p es s) ≡ true) → ok (referent (value p e s)) ≡ true → (is_in o (items_of p es s) ≡ true → ok o ≡ true) → ok o ≡ true
    by_place (inl y) a f = subst (λ (q : Ref). ok q ≡ true) (sym (same_ref_is _ _ y)) a
    by_place (inr y) a f = f y

pub null_no_thread : (t : ℕ) → null ≡ thread t → ⊥
null_no_thread t e = both_ways false refl (ap (λ (r : Ref). r.ty == 1) e)

-- what the caller may not write, the callee may not write
pub narrows : (p : Program) (t : ℕ) (e h : Heap) (w : List Ref) (es : List Spec) (s : Scene) → Good p e → Frame p (thread t) e h e w →
    every (λ (u : Tested). u.holds) (item_tests p (writable (thread t) e w) es s) ≡ true → (o : Ref) → IsFalse (writable (thread t) e w o) → IsFalse (writable (thread t) h (items_of p es s) o)
narrows p t e h w es s good fr all o n =
    let parts = or_parts (is_in o w) (not (same_ref (e.get o).owner (thread t))) n in
    let own : same_ref (e.get o).owner (thread t) ≡ true = not-false _ parts.1 in
    or_from (is_in o (items_of p es s)) (not (same_ref (h.get o).owner (thread t)))
    (false_from_ne_true _ (λ i. both_ways (writable (thread t) e w o) n (items_pass p (writable (thread t) e w) es s o all i)))
    (ap not (still own (e.get o).mode refl))
  where
    still : same_ref (e.get o).owner (thread t) ≡ true → (m : Mode) → (e.get o).mode ≡ m → same_ref (h.get o).owner (thread t) ≡ true
    still own Absent d = absurd (null_no_thread t (ap (λ (r : Record). r.owner) (sym (good.well_formed.absent o d)) ∙ same_ref_is (e.get o).owner (thread t) own))
    still own Open d = subst (λ (r : Record). same_ref r.owner (thread t) ≡ true) (sym (fr.own_open o (both_and (is_open (e.get o).mode) _ (ap is_open d) own) n)) own
    still own Closed d = (and_both (closed_in h o) (same_ref (h.get o).owner (thread t)) (fr.own_closed o (both_and (is_closed (e.get o).mode) _ (ap is_closed d) own) n).0).1
    still own Freed d = absurd (null_no_thread t (sym (good.well_formed.freed o d).0 ∙ same_ref_is (e.get o).owner (thread t) own))

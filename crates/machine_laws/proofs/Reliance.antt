-- A step is a rely step of every other thread.
use Rattle.std.proofs.Common.{◌≡◌, ℕ, ◌<◌, Bool, true, false, ◌&&◌, ◌==◌, inl, inr, ⊎_elim, refl, ap, ◌∙◌, List, [], ◌∷◌, IsTrue, ◌≢◌, arith}
use Rattle.std.proofs.lemmas.Bool.{eqb-true}
use Rattle.object_types.specs.declared.references.Ref.{Ref}
use Rattle.method.specs.declared.program.Program.{Program}
use Rattle.object_types.specs.References.{thread, is_thread, is_claim, same_ref}
use Rattle.object_types.specs.Sets.{is_in}
use Rattle.object_types.specs.Heap.{Heap, closed_in, is_closed, wrapped, writable}
use Rattle.method.specs.WellFormed.{IsHeapOf, KeepsApproved, IsFixed, WellFormed, claims_now}
use Rattle.method.specs.Legal.{Legal, Good}
use Rattle.method.specs.StableSet.{StableFrom, root, claimed, member, Spared}
use Rattle.method.specs.Rely.{Rely, Frame}
use Rattle.method.specs.Expressions.{Context}
use Rattle.method.specs.Actions.{Fresh}
use Rattle.method.specs.Machine.{Thread, step, run, next_number}
use Rattle.method.specs.MachineLaws.{has_thread, StepsAreRelied}
use Rattle.method.proofs.Global.{and_both, both_and}
use Rattle.machine_laws.proofs.Typed.{or_cases}
use Rattle.machine_laws.proofs.Heaps.{false_from_ne_true, same_ref_from, mutable_parts, wrapped_parts}
use Rattle.machine_laws.proofs.Apart.{Apart}
use Rattle.machine_laws.proofs.Acts.{among}
use Rattle.machine_laws.proofs.Legality.{Stepped, start_ok, run_ok, step_stepped, on_next}

-- What holds of the roots holds of the stable set.

pub record StillIn (p : Program) (h k : Heap) (R S : Ref → Type 0) (o : Ref) : Type 0 where
  pub closed_before : closed_in h o ≡ true
  pub closed_after : closed_in k o ≡ true
  pub still : StableFrom p k S o

module _ (p : Program) (h k : Heap) (wf : WellFormed p h) (legal : Legal p h k) (R S : Ref → Type 0) (roots : (o : Ref) → R o → (closed_in h o ≡ true) × (closed_in k o ≡ true) × S o) where
  fixed_one : (o : Ref) → StillIn p h k R S o → IsFixed p o h k
  fixed_one o s = legal.well_formed.fixed o s.closed_before s.closed_after

  pub still_in : (o : Ref) → StableFrom p h R o → StillIn p h k R S o
  still_in o (root r) = let x = roots o r in record { closed_before = x.0; closed_after = x.1; still = root x.2 }
  still_in o (claimed {c} s e) =
      let x = still_in c s in
      let y = fixed_one c x in
      let b = and_both (is_claim c) (closed_in h c && is_in o (h.get c).listed) e in
      let d = and_both (closed_in h c) (is_in o (h.get c).listed) b.1 in
      let now : claims_now k o c ≡ true =
      both_and (is_claim c) (closed_in k c && is_in o (k.get c).listed) b.0 (both_and (closed_in k c) (is_in o (k.get c).listed) x.closed_after (ap (is_in o) y.listed ∙ d.1)) in
      record { closed_before = (wf.listed c o e).0; closed_after = (legal.well_formed.after.listed c o now).0; still = claimed x.still now }
  still_in o (member {c} s v i) =
      let x = still_in c s in
      let y = fixed_one c x in
      let now : is_in o (k.get c).owned ≡ true = ap (is_in o) (y.owned v) ∙ i in
      record { closed_before = (wf.member c o x.closed_before i).0; closed_after = (legal.well_formed.after.member c o x.closed_after now).0; still = member x.still v now }

mutable_from : (w : Ref) (k : Heap) (o : Ref) → is_closed (k.get o).mode ≡ true → (k.get o).owner ≡ w → wrapped w k o ≡ true
mutable_from w k o c e = both_and (closed_in k o) (same_ref (k.get o).owner w) c (same_ref_from (k.get o).owner w e)

-- a legal step that leaves alone what others own is a rely step of each that isn't new
pub rely_by :
    (p : Program) (x : Context) (new : Ref → Bool) (h k : Heap) → Good p h → Good p k → Legal p h k → ((o : Ref) → Apart p x new o (h.get o) (k.get o)) → (w : Ref) →
    is_thread w ≡ true → (w ≡ x.me → ⊥) → new w ≡ false → Rely p w h k
rely_by p x new h k before after legal apart w th ne old =
    let closed : (o : Ref) → wrapped w h o ≡ true → (is_closed (k.get o).mode ≡ true) × ((k.get o).owner ≡ w) × ((k.get o).count ≡ (h.get o).count) × KeepsApproved p (h.get o) (k.get o) = λ o e.
    let b = wrapped_parts w h o e in ((apart o).spared w th (inl ne) b.1).closed_same b.0 in
    let roots : (o : Ref) → IsTrue (wrapped w h o) → (closed_in h o ≡ true) × (closed_in k o ≡ true) × IsTrue (wrapped w k o) = λ o e.
    let c = closed o e in ((wrapped_parts w h o e).0, c.0, mutable_from w k o c.0 c.1) in
    record {
      before = before;
      after = after;
      own_open = λ o e. let b = mutable_parts w h o e in ((apart o).spared w th (inl ne) b.1).open_same b.0;
      own_closed = λ o e. let c = closed o e in (mutable_from w k o c.0 c.1, c.2, c.3);
      stable = λ o s. let y = still_in p h k before.well_formed legal (λ o. IsTrue (wrapped w h o)) (λ o. IsTrue (wrapped w k o)) roots o s in
          (legal.well_formed.fixed o y.closed_before y.closed_after, y.still);
      foreign = λ o f. (apart o).foreign w th ne old f;
    }

-- and a frame step of the function that takes it, in every frame that may write no less
pub frame_by :
    (p : Program) (x : Context) (new : Ref → Bool) (h k : Heap) → Good p h → Good p k → Legal p h k → ((o : Ref) → Apart p x new o (h.get o) (k.get o)) →
    is_thread x.me ≡ true → (e : Heap) (w : List Ref) → IsHeapOf p e → ((o : Ref) → writable x.me e w o ≡ false → writable x.me x.entry x.writes o ≡ false) →
    Frame p x.me h k e w
frame_by p x new h k before after legal apart th e w entry may =
    let closed : (o : Ref) → wrapped x.me h o ≡ true → writable x.me e w o ≡ false → (is_closed
    (k.get o).mode ≡ true) × ((k.get o).owner ≡ x.me) × ((k.get o).count ≡ (h.get o).count) × KeepsApproved p (h.get o) (k.get o) = λ o m n.
    let b = wrapped_parts x.me h o m in ((apart o).spared x.me th (inr (may o n)) b.1).closed_same b.0 in
    let roots : (o : Ref) → Spared x.me h e w o → (closed_in h o ≡ true) × (closed_in k o ≡ true) × Spared x.me k e w o = λ o y.
    let c = closed o y.wrapped_now y.not_written in ((wrapped_parts x.me h o y.wrapped_now).0, c.0, record { wrapped_now = mutable_from x.me k o c.0 c.1; not_written = y.not_written }) in
    record {
      before = before.well_formed.heap_of;
      entry = entry;
      after = after;
      own_open = λ o m n. let b = mutable_parts x.me h o m in ((apart o).spared x.me th (inr (may o n)) b.1).open_same b.0;
      own_closed = λ o m n. let c = closed o m n in (mutable_from x.me k o c.0 c.1, c.2, c.3);
      stable = λ o s. let y = still_in p h k before.well_formed legal (Spared x.me h e w) (Spared x.me k e w) roots o s in
          (legal.well_formed.fixed o y.closed_before y.closed_after, y.still);
    }

-- Threads' numbers.

pub below_next : (n : ℕ) (ths : List Thread) → has_thread n ths ≡ true → n < next_number ths
below_next n [] e = absurd (cc)
below_next n (t ∷ ts) e = ⊎_elim
    (λ s. let k : t.number ≡ n = eqb-true t.number n s in omega (arith, k))
    (λ m. let l = below_next n ts m in omega (arith, l))
    (or_cases (t.number == n) (has_thread n ts) e)

threads_differ : (a b : ℕ) → (a ≡ b → ⊥) → thread a ≡ thread b → ⊥
threads_differ a b n e = n (ap (λ (r : Ref). r.serial) e)

pub steps_are_relied : StepsAreRelied
steps_are_relied p typed s start good events e now =
    let s1 = run p events s in
    on_next (step p s1 e) (Stepped p typed (Fresh (next_number s1.threads)) e.thread s1)
    (λ s2. Good p s2.heap → (t : ℕ) → t ≢ e.thread → (IsTrue (has_thread t s2.threads) → IsTrue (has_thread t s1.threads)) → Rely p (thread t) s1.heap s2.heap)
    (λ s2 x good2 t ne was.
    rely_by p x.actor (among x.begins) s1.heap s2.heap now good2 (x.legal now.all) x.apart (thread t) refl
    (λ z. threads_differ t e.thread ne (z ∙ x.acts))
    (false_from_ne_true (among x.begins (thread t)) (λ m. let l = below_next t s1.threads (was (x.there t m)) in let n = x.numbers (thread t) m in absurd (omega (arith, l, n)))))
    (step_stepped p typed s1 e (run_ok p typed events s (start_ok p typed s start good)))

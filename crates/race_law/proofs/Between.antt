-- From a heap on the way of an item to the heap at its beginning: what a check lets the item access there, the thread may access on the heap at the beginning.
use Rattle.std.proofs.Common.{◌≡◌, ℕ, Bool, true, false, not, ◌&&◌, ◌||◌, ◌⊎◌, inl, inr, ⊎_elim, refl, sym, ap, ◌∙◌}
use Rattle.object_types.specs.declared.references.Ref.{Ref}
use Rattle.object_types.specs.References.{same_ref}
use Rattle.object_types.specs.Sets.{is_in}
use Rattle.object_types.specs.Heap.{Heap, Record, IsClosedIn, is_open, is_closed, closed_in, mutable}
use Rattle.method.specs.declared.program.FunctionInfo.{FunctionInfo}
use Rattle.method.specs.declared.program.Program.{Program}
use Rattle.method.specs.Tables.{is_volatile, is_approved}
use Rattle.method.specs.WellFormed.{WellFormed}
use Rattle.method.specs.StableSet.{InStableSet, root, claimed, member, in_stable_set}
use Rattle.method.specs.Expressions.{Spot, is_listed, readable}
use Rattle.method.specs.Actions.{Progress, may_count}
use Rattle.method.proofs.Global.{and_both, both_and, test_cases}
use Rattle.method.proofs.StableTest.{stable_set_law}
use Rattle.machine_laws.proofs.Typed.{not_both, or_cases}
use Rattle.machine_laws.proofs.Heaps.{not-true, differ, open_mode, open_not_closed, closed_not_freed}
use Rattle.machine_laws.proofs.Steps.{Fine}
use Rattle.race_law.specs.Accesses.{Access, reading, writing}
use Rattle.race_law.proofs.Allowed.{Shares, Allowed}

-- what is in the stable set is closed
set_closed : (p : Program) (t : Ref) (h : Heap) → WellFormed p h → (o : Ref) → InStableSet p t h o → IsClosedIn h o
set_closed p t h wf o (root r) = (and_both (closed_in h o) (same_ref (h.get o).owner t) r).0
set_closed p t h wf o (claimed {c = c} s i) = (wf.listed c o i).0
set_closed p t h wf o (member {c = c} s v i) = (wf.member c o (set_closed p t h wf c s) i).0

-- the test of a store's place, but for what the function may write
abbrev pub storable : Program → Spot → Heap → Ref → ℕ → Bool
storable p at_ h o f = mutable at_.context.me h o || (is_listed at_ o && (is_volatile p f && (not (is_approved p f) || may_count at_ h o)))

-- the item begins at g and has come to g'; what its block lists is closed at its beginning
module _ (p : Program) (f : FunctionInfo) (at_ : Spot) (g g' : Progress) (wf : WellFormed p g.heap) (fine : Fine p f at_.context (is_listed at_) g g')
    (closed : (o : Ref) → is_listed at_ o ≡ true → closed_in g.heap o ≡ true) where
  abbrev pub Allows : Access → Type 0
  Allows a = Allowed p at_.context.me g.heap a

  -- what is open at the beginning is the thread's, if it is the thread's on the way where it is still open: what isn't is as it was
  own_between : (o : Ref) → (is_open (g'.heap.get o).mode ≡ true → same_ref (g'.heap.get o).owner at_.context.me ≡ true) → is_open (g.heap.get o).mode ≡ true → same_ref (g.heap.get o).owner at_.context.me ≡ true
  own_between o mine m = ⊎_elim
      (λ e. e)
      (λ e.
      let w = (g.heap.get o).owner in
      let th = (wf.opened o (open_mode (g.heap.get o).mode m)).0 in
      let same : g'.heap.get o ≡ g.heap.get o = ((fine.apart o).spared w th (inl (differ w at_.context.me e)) refl).open_same m in
      ap (λ (r : Record). same_ref r.owner at_.context.me) (sym same) ∙ mine (ap (λ (r : Record). is_open r.mode) same ∙ m))
      (test_cases (same_ref (g.heap.get o).owner at_.context.me))

  -- what is mutable on the way
  pub mutable_allowed : (a : Access) → mutable at_.context.me g'.heap a.object ≡ true → Allows a
  mutable_allowed a m =
      let o = a.object in
      let b = and_both (is_open (g'.heap.get o).mode) (same_ref (g'.heap.get o).owner at_.context.me) m in
      record {
        own = own_between o (λ e. b.1);
        shares = λ c. absurd (⊎_elim
            (λ d. not_both (is_closed (g'.heap.get o).mode) d (open_not_closed (g'.heap.get o).mode b.0))
            (λ d. cc (ap is_open d.1, b.0))
            ((fine.onward o).closed c));
        alive = λ e. cc (ap is_open ((fine.onward o).freed e), b.0);
      }

  -- what is closed on the way, where the access shares it
  pub closed_allowed : (a : Access) → closed_in g'.heap a.object ≡ true → Shares p a → Allows a
  closed_allowed a c s =
      let o = a.object in
      record {
        own = own_between o (λ e. absurd (not_both (is_closed (g'.heap.get o).mode) c (open_not_closed (g'.heap.get o).mode e)));
        shares = λ d. s;
        alive = λ e. cc (ap is_closed ((fine.onward o).freed e), c);
      }

  -- what the block lists, where the access shares it
  pub listed_allowed : (a : Access) → is_listed at_ a.object ≡ true → Shares p a → Allows a
  listed_allowed a l s =
      let o = a.object in
      let c = closed o l in
      record {
        own = λ e. absurd (not_both (is_closed (g.heap.get o).mode) c (open_not_closed (g.heap.get o).mode e));
        shares = λ d. s;
        alive = λ e. absurd (closed_not_freed (g.heap.get o).mode c e);
      }

  -- a field that the machine lets the item read on the way
  pub reads_allowed : (o : Ref) (x : ℕ) → readable p at_ g'.heap o x ≡ true → Allows (reading p at_ o x)
  reads_allowed o x e = ⊎_elim
      (λ m. mutable_allowed (reading p at_ o x) m)
      (λ y. ⊎_elim
      (λ z.
      let b = and_both (not (is_volatile p x)) (in_stable_set p at_.context.me g'.heap o) z in
      let s = (stable_set_law p at_.context.me g'.heap fine.ready.heap.heap_of.finite o).0 b.1 in
      closed_allowed (reading p at_ o x) (set_closed p at_.context.me g'.heap fine.ready.heap o s) (x, refl, inl (refl, not-true (is_volatile p x) b.0)))
      (λ l. listed_allowed (reading p at_ o x) l (by l (test_cases (is_volatile p x))))
      (or_cases (not (is_volatile p x) && in_stable_set p at_.context.me g'.heap o) (is_listed at_ o) y))
      (or_cases (mutable at_.context.me g'.heap o) ((not (is_volatile p x) && in_stable_set p at_.context.me g'.heap o) || is_listed at_ o) e)
    where
      by : is_listed at_ o ≡ true → (is_volatile p x ≡ true) ⊎ (is_volatile p x ≡ false) → Shares p (reading p at_ o x)
      by l (inl v) = (x, refl, inr (both_and at_.inside (is_volatile p x) (and_both at_.inside (is_in o at_.listed) l).0 v, v))
      by l (inr v) = (x, refl, inl (refl, v))

  -- a field that the machine lets the item write on the way
  pub stores_allowed : (o : Ref) (x : ℕ) → storable p at_ g'.heap o x ≡ true → Allows (writing p at_ o x)
  stores_allowed o x e = ⊎_elim
      (λ m. mutable_allowed (writing p at_ o x) m)
      (λ y.
      let b = and_both (is_listed at_ o) (is_volatile p x && (not (is_approved p x) || may_count at_ g'.heap o)) y in
      let v = (and_both (is_volatile p x) (not (is_approved p x) || may_count at_ g'.heap o) b.1).0 in
      listed_allowed (writing p at_ o x) b.0 (x, refl, inr (both_and at_.inside (is_volatile p x) (and_both at_.inside (is_in o at_.listed) b.0).0 v, v)))
      (or_cases (mutable at_.context.me g'.heap o) (is_listed at_ o && (is_volatile p x && (not (is_approved p x) || may_count at_ g'.heap o))) e)

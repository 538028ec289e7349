-- Whether a field may be read, whatever the list beside the heap's records.
use Rattle.std.proofs.Common.{◌≡◌, ℕ, Bool, true, false, not, ◌&&◌, ◌||◌, List, IsTrue, ◌↔◌, refl, sym, ◌∙◌}
use Rattle.object_types.specs.declared.references.Ref.{Ref}
use Rattle.object_types.specs.declared.records.Stored.{Stored}
use Rattle.object_types.specs.Sets.{is_in}
use Rattle.object_types.specs.Heap.{Heap, IsFinite, mutable}
use Rattle.object_types.specs.Lookups.{heap_of}
use Rattle.method.specs.declared.program.Program.{Program}
use Rattle.method.specs.Tables.{is_volatile}
use Rattle.method.specs.Expressions.{Spot, is_listed, readable}
use Rattle.method.specs.StableSet.{root, claimed, member, InStableSet, in_stable_set}
use Rattle.machine_values.specs.Spots.{heap_at}
use Rattle.method.proofs.StableTest.{stable_set_law}

or_true : (b : Bool) → b || true ≡ true
or_true true = refl
or_true false = refl

or_false : (b : Bool) → b || false ≡ b
or_false true = refl
or_false false = refl

module _ (p : Program) (at_ : Spot) (h : Heap) (o : Ref) (f : ℕ) where
  pub reads_mutable : (m : Bool) → m ≡ mutable at_.context.me h o → m ≡ true → true ≡ readable p at_ h o f
  reads_mutable m is here = rw (← is, here) refl

  pub reads_listed : (m l : Bool) → m ≡ mutable at_.context.me h o → m ≡ false → l ≡ is_listed at_ o → l ≡ true → true ≡ readable p at_ h o f
  reads_listed m l is there of_it here = rw (← is, there, ← of_it, here) (sym (or_true (not (is_volatile p f) && in_stable_set p at_.context.me h o)))

  module _ (m l v : Bool) (a : m ≡ mutable at_.context.me h o) (b : l ≡ is_listed at_ o) (c : v ≡ is_volatile p f) (no_m : m ≡ false) (no_l : l ≡ false) where
    pub reads_volatile : v ≡ true → false ≡ readable p at_ h o f
    reads_volatile is_v = rw (← a, ← b, ← c, no_m, no_l, is_v) refl

    pub reads_stable : (r : Bool) → v ≡ false → r ≡ in_stable_set p at_.context.me h o → r ≡ readable p at_ h o f
    reads_stable r no_v is = rw (← a, ← b, ← c, no_m, no_l, no_v) (is ∙ sym (or_false (in_stable_set p at_.context.me h o)))

stable_at : (p : Program) (t : Ref) (stored : List Stored) (x y : List Ref) (o : Ref) → InStableSet p t (heap_at x stored) o → InStableSet p t (heap_at y stored) o
stable_at p t stored x y o (root w) = root w
stable_at p t stored x y o (claimed {c = c} s i) = claimed (stable_at p t stored x y c s) i
stable_at p t stored x y o (member {c = c} s v i) = member (stable_at p t stored x y c s) v i

alike : (a b : Bool) → (a ≡ true → b ≡ true) → (b ≡ true → a ≡ true) → a ≡ b
alike true true f g = refl
alike true false f g = sym (f refl)
alike false true f g = g refl
alike false false f g = refl

-- what was found of the code's heap is the test of that heap with any list
pub stable_test : (p : Program) (t : Ref) (stored : List Stored) (y found : List Ref) (o : Ref) → ((q : Ref) → IsTrue (is_in q found) ↔ InStableSet p t (heap_of stored) q) → IsFinite (heap_at y stored) → is_in o found ≡ in_stable_set p t (heap_at y stored) o
stable_test p t stored y found o members finite = alike (is_in o found) (in_stable_set p t (heap_at y stored) o)
    (λ m. (stable_set_law p t (heap_at y stored) finite o).1 (stable_at p t stored (heap_of stored).support y o ((members o).0 m)))
    (λ m. (members o).1 (stable_at p t stored y (heap_of stored).support o ((stable_set_law p t (heap_at y stored) finite o).0 m)))

-- the same of an object that is in the set
pub stable_owned : (p : Program) (t : Ref) (stored : List Stored) (y : List Ref) (o : Ref) → InStableSet p t (heap_of stored) o → IsFinite (heap_at y stored) → true ≡ in_stable_set p t (heap_at y stored) o
stable_owned p t stored y o s finite = sym ((stable_set_law p t (heap_at y stored) finite o).1 (stable_at p t stored (heap_of stored).support y o s))

-- How a loop goes through the conjuncts that a claim was made with, until one doesn't hold.
use Rattle.std.proofs.Common.{◌≡◌, ℕ, ◌+◌, ◌<◌, ◌≤◌, true, false, List, length, get_or, drop, refl, Option, Some, None, add-one, drop-cons}
use Rattle.std.specs.Prelude.{slice_get}
use Rattle.std.proofs.lemmas.List.{drop_all}
use Rattle.object_types.specs.declared.shapes.Entry.{Entry}
use Rattle.object_types.specs.Sets.{every}
use Rattle.object_types.specs.Heap.{Heap}
use Rattle.method.specs.declared.program.Program.{Program}
use Rattle.method.specs.SpecValue.{entry_holds}
use Rattle.method.specs.Overflow.{Overflow, shape_overflow, entries_overflow}

-- what the conjuncts from i on say, all of them say
pub record KeptTo (p : Program) (h : Heap) (es : List Entry) (i : ℕ) : Type 0 where
  pub holds : every (entry_holds p h) (drop i es) ≡ every (entry_holds p h) es
  pub first : entries_overflow p h (drop i es) ≡ entries_overflow p h es

-- the first overflow on the way of one conjunct
abbrev pub entry_overflow : Program → Heap → Entry → Option Overflow
entry_overflow p h e = shape_overflow p (slice_get p.shapes.items e.shape) h e.values

module _ (p : Program) (h : Heap) (es : List Entry) (i : ℕ) where
  pub kept_err : (d : Entry) (x : Overflow) → KeptTo p h es i → i < length es → entry_overflow p h (get_or es i d) ≡ Some x → entries_overflow p h es ≡ Some x
  kept_err d x so_far lt err = rw (← so_far.first, drop-cons es i d, err) refl

  pub kept_false : (d : Entry) → KeptTo p h es i → i < length es → entry_holds p h (get_or es i d) ≡ false → every (entry_holds p h) es ≡ false
  kept_false d so_far lt fails = rw (← so_far.holds, drop-cons es i d, fails) refl

  pub kept_stops : (d : Entry) → KeptTo p h es i → i < length es → entry_overflow p h (get_or es i d) ≡ None → entry_holds p h (get_or es i d) ≡ false → entries_overflow p h es ≡ None
  kept_stops d so_far lt fits fails = rw (← so_far.first, drop-cons es i d, fits, fails) refl

  pub kept_next : (d : Entry) → KeptTo p h es i → i < length es → entry_overflow p h (get_or es i d) ≡ None → entry_holds p h (get_or es i d) ≡ true → KeptTo p h es (i + 1)
  kept_next d so_far lt fits goes = record {
    holds = rw (← so_far.holds, add-one, drop-cons es i d, goes) refl;
    first = rw (← so_far.first, add-one, drop-cons es i d, fits, goes) refl;
  }

  pub kept_end : KeptTo p h es i → length es ≤ i → every (entry_holds p h) es ≡ true
  kept_end so_far ge = rw (← so_far.holds, drop_all i es ge) refl

  pub kept_fits : KeptTo p h es i → length es ≤ i → entries_overflow p h es ≡ None
  kept_fits so_far ge = rw (← so_far.first, drop_all i es ge) refl

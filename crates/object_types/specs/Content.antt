-- What the records of a heap say about one reference among all, and about two heaps at one reference. `get` is a heap's records. Own.
use Rattle.std.specs.Prelude.{◌≡◌, ◌≢◌, ℕ, ◌-◌, ◌<◌, ◌≤◌, IsTrue, IsFalse}
use Rattle.object_types.specs.declared.references.Ref.{Ref}
use Rattle.object_types.specs.References.{ref, ref_lt}
use Rattle.object_types.specs.Heap.{Record, nothing, is_absent}

-- the serial is one above the greatest of the type whose mode isn't absent, or 1
pub record IsFresh (get : Ref → Record) (ty serial : ℕ) : Type 0 where
  pub from_one : 1 ≤ serial
  pub above : (s : ℕ) → serial ≤ s → IsTrue (is_absent (get (ref ty s)).mode)
  pub below : serial ≢ 1 → IsFalse (is_absent (get (ref ty (serial - 1))).mode)

-- two records with one content: all but the status
pub record SameContent (a b : Record) : Type 0 where
  pub count : a.count ≡ b.count
  pub owned : a.owned ≡ b.owned
  pub fields : (f : ℕ) → a.fields f ≡ b.fields f
  pub listed : a.listed ≡ b.listed
  pub shapes : a.shapes ≡ b.shapes

-- from `from` on, in reference order, r is the first at which something stands
pub record IsFirst (get : Ref → Record) (from r : Ref) : Type 0 where
  pub at_or_above : IsFalse (ref_lt r from)
  pub something : get r ≢ nothing
  pub nothing_before : (q : Ref) → IsFalse (ref_lt q from) → IsTrue (ref_lt q r) → get q ≡ nothing

-- the greatest serial of the type below the greatest of 32 bits, at which the mode isn't absent
pub record IsNewest (get : Ref → Record) (ty serial : ℕ) : Type 0 where
  pub below_last : serial < 4294967295
  pub present : IsFalse (is_absent (get (ref ty serial)).mode)
  pub above : (s : ℕ) → serial < s → s < 4294967295 → IsTrue (is_absent (get (ref ty s)).mode)

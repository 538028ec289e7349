-- Heaps. From CAV 2010: a heap gives each object its status and its content. Own: the four modes, claim counts as content, records of claims.
use Rattle.std.specs.Prelude.{◌≡◌, ℕ, zero, suc, ◌+◌, Bool, true, false, not, ◌&&◌, ◌||◌, ◌==◌, if◌then◌else◌, max, ℤ, pos, ◌+ℤ◌, List, [], ◌∷◌, ◌++◌, Option, None, IsTrue, IsFalse}
use Rattle.object_types.specs.declared.references.Ref.{Ref}
use Rattle.object_types.specs.declared.values.Value.{Value}
use Rattle.object_types.specs.declared.records.Mode.{Mode}
use Rattle.object_types.specs.declared.records.Mode.TheVariants.{Absent, Open, Closed, Freed}
use Rattle.object_types.specs.declared.shapes.Entry.{Entry}
use Rattle.object_types.specs.References.{ref, null, thread, same_ref}
use Rattle.object_types.specs.Values.{is_zero_int, kept}
use Rattle.object_types.specs.Sets.{is_in, some, set_member}
use Rattle.object_types.specs.Shapes.{set_entry}

-- What a heap holds at a reference: its status, which is mode and owner, and its content. A field that is 0 or NULL isn't kept. `listed` and `shapes` are a claim's: the objects that it claims, and the conjuncts that it was made with.
pub record Record : Type 0 where
  pub mode : Mode
  pub owner : Ref
  pub count : ℤ
  pub owned : List Ref
  pub fields : ℕ → Option Value
  pub listed : List Ref
  pub shapes : List Entry

-- what stands at a reference that the heap doesn't have
abbrev pub nothing : Record
nothing = record { mode = Absent; owner = null; count = pos 0; owned = []; fields = (λ f. None); listed = []; shapes = [] }

-- A heap, and references outside which it has nothing. The list serves fresh serials, idle threads and the stable set alone; two heaps with the same records are the same heap.
pub record Heap : Type 0 where
  pub get : Ref → Record
  pub support : List Ref

-- the support names every reference at which something stands
abbrev pub IsFinite : Heap → Type 0
IsFinite h = (o : Ref) → IsFalse (is_in o h.support) → h.get o ≡ nothing

abbrev pub Same : Heap → Heap → Type 0
Same h k = (o : Ref) → k.get o ≡ h.get o

abbrev pub empty_heap : Heap
empty_heap = record { get = (λ o. nothing); support = [] }

-- the records with another one at p
abbrev pub put_at : (Ref → Record) → Ref → Record → Ref → Record
put_at get p new o = if same_ref o p then new else get o

-- the heap with another record at p
unfoldable pub put : Heap → Ref → Record → Heap
put h p new = record { get = put_at h.get p new; support = p ∷ h.support }

-- the heap where the members have another owner
unfoldable pub hand_over : Heap → List Ref → Ref → Heap
hand_over h members owner = record { get = (λ o. if is_in o members then record (h.get o) { owner = owner } else h.get o); support = members ++ h.support }

abbrev pub is_absent : Mode → Bool
is_absent Absent = true
is_absent Open = false
is_absent Closed = false
is_absent Freed = false

abbrev pub is_open : Mode → Bool
is_open Absent = false
is_open Open = true
is_open Closed = false
is_open Freed = false

abbrev pub is_closed : Mode → Bool
is_closed Absent = false
is_closed Open = false
is_closed Closed = true
is_closed Freed = false

abbrev pub closed_in : Heap → Ref → Bool
closed_in h o = is_closed (h.get o).mode

abbrev pub IsClosedIn : Heap → Ref → Type 0
IsClosedIn h o = IsTrue (closed_in h o)

-- \mutable(o), with t for \me (VCC manual)
abbrev pub mutable : Ref → Heap → Ref → Bool
mutable t h o = is_open (h.get o).mode && same_ref (h.get o).owner t

-- \wrapped(o), with t for \me (VCC manual)
abbrev pub wrapped : Ref → Heap → Ref → Bool
wrapped t h o = closed_in h o && same_ref (h.get o).owner t

-- \wrapped0(o): wrapped, and no claim lists it (VCC manual)
abbrev pub wrapped0 : Ref → Heap → Ref → Bool
wrapped0 t h o = wrapped t h o && is_zero_int (h.get o).count

-- o is in the writes list w, or t didn't own it at the function's entry e (VCC manual)
abbrev pub writable : Ref → Heap → List Ref → Ref → Bool
writable t e w o = is_in o w || not (same_ref (e.get o).owner t)

-- A record with one part changed: its status, its claim count, a field, a membership of the owned or the claimed set, a conjunct.
abbrev pub with_status : Mode → Ref → Record → Record
with_status mode owner r = record r { mode = mode; owner = owner }

abbrev pub with_count : ℤ → Record → Record
with_count count r = record r { count = count }

abbrev pub with_field : ℕ → Value → Record → Record
with_field f v r = record r { fields = (λ g. if g == f then kept v else r.fields g) }

abbrev pub with_owned : Ref → Bool → Record → Record
with_owned member holds r = record r { owned = set_member member holds r.owned }

abbrev pub with_listed : Ref → Bool → Record → Record
with_listed object holds r = record r { listed = set_member object holds r.listed }

abbrev pub with_shape : Entry → Bool → Record → Record
with_shape entry holds r = record r { shapes = set_entry entry holds r.shapes }

-- the heap where p->f is v
abbrev pub write : Heap → Ref → ℕ → Value → Heap
write h p f v = put h p (with_field f v (h.get p))

-- the heap where the counts of the objects are more by z
abbrev pub count_more : ℤ → List Ref → Heap → Heap
count_more z [] h = h
count_more z (o ∷ os) h = count_more z os (put h o (record (h.get o) { count = (h.get o).count +ℤ z }))

-- the serial one above the greatest of the type whose mode isn't absent, from 1
abbrev pub above : Heap → ℕ → List Ref → ℕ
above h ty [] = 1
above h ty (r ∷ rs) = if (r.ty == ty) && not (is_absent (h.get r).mode) then max (r.serial + 1) (above h ty rs) else above h ty rs

abbrev pub fresh : Heap → ℕ → Ref
fresh h ty = ref ty (above h ty h.support)

-- thread t owns nothing
abbrev pub is_idle : Heap → ℕ → Bool
is_idle h t = not (some (λ o. same_ref (h.get o).owner (thread t)) h.support)

-- the least thread number from n on that owns nothing, within so many tries
abbrev pub idle_from : ℕ → Heap → ℕ → ℕ
idle_from zero h n = n
idle_from (suc tries) h n = if is_idle h n then n else idle_from tries h (n + 1)

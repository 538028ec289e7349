-- Statuses, stable sets, and what wrap, unwrap and transfers make of whole heaps, by computation; what comes out was worked by hand. Own.
use Rattle.std.specs.Prelude.{◌≡◌, Bool, true, false, pos, List, [], ◌∷◌, ◌++◌, map, flat_map, if◌then◌else◌, Option, Some, None, refl}
use Rattle.std.specs.List.{find}
use Rattle.object_types.specs.declared.references.Ref.{Ref}
use Rattle.object_types.specs.declared.values.Value.TheVariants.{Int, Ref as Refers}
use Rattle.object_types.specs.declared.records.Mode.{Mode}
use Rattle.object_types.specs.declared.records.Mode.TheVariants.{Absent, Open, Closed, Freed}
use Rattle.object_types.specs.declared.records.Change.TheVariants.{Status, Count, Field as Write, Owned, Listed, Shape as Conjunct}
use Rattle.object_types.specs.References.{ref, null, same_ref}
use Rattle.object_types.specs.Values.{or_zero}
use Rattle.object_types.specs.Sets.{is_in}
use Rattle.object_types.specs.Heap.{Heap, put, hand_over, mutable, wrapped, writable}
use Rattle.method.specs.declared.program.StructInfo.{StructInfo}
use Rattle.method.specs.declared.program.Program.{Program}
use Rattle.method.specs.StableSet.{stable_set}
use Rattle.method.specs.Trace.{Memory, vec, Look, seen}
use Rattle.ownership.specs.Effects.{closed, opened, given, taken}
use Rattle.value_rows.specs.Heaps.{Changes, heap_of, behind}
use Rattle.value_rows.specs.Expressions.{entry}

-- Two threads, three claims, three objects of the struct type 3, whose owned sets aren't volatile, one of 4, whose owned set is, and one of a type that the program lacks.
abbrev pub t : Ref
t = ref 1 1

abbrev pub u : Ref
u = ref 1 2

abbrev pub worker : Ref
worker = ref 1 3

abbrev pub claim : Ref
claim = ref 2 1

abbrev pub second : Ref
second = ref 2 2

abbrev pub third : Ref
third = ref 2 3

abbrev pub a : Ref
a = ref 3 1

abbrev pub b : Ref
b = ref 3 2

abbrev pub c : Ref
c = ref 3 3

abbrev pub lock : Ref
lock = ref 4 1

abbrev pub stranger : Ref
stranger = ref 9 1

-- the last references of all
abbrev pub last_but_one : Ref
last_but_one = ref 4294967295 4294967294

abbrev pub last : Ref
last = ref 4294967295 4294967295

-- what stands at a reference
pub record Row : Type 0 where
  pub reference : Ref
  pub mode : Mode
  pub owner : Ref
  pub owned : List Ref
  pub listed : List Ref

abbrev pub row : Ref → Mode → Ref → List Ref → List Ref → Row
row o mode owner owned listed = record { reference = o; mode = mode; owner = owner; owned = owned; listed = listed }

abbrev pub changes_of : Row → Changes
changes_of r = (r.reference, Status r.mode r.owner) ∷ map (λ q. (r.reference, Owned q true)) r.owned ++ map (λ q. (r.reference, Listed q true)) r.listed

abbrev pub heap_by : List Row → Heap
heap_by rows = heap_of (flat_map changes_of rows)

-- a mode and an owner of a, and whether t finds it mutable, wrapped, and writable without listing it; listed, it is writable
abbrev pub statuses : List (Mode × Ref × Bool × Bool × Bool)
statuses =
    (Absent, null, false, false, true)
    ∷ (Absent, t, false, false, false)
    ∷ (Open, null, false, false, true)
    ∷ (Open, t, true, false, false)
    ∷ (Open, u, false, false, true)
    ∷ (Closed, null, false, false, true)
    ∷ (Closed, t, false, true, false)
    ∷ (Closed, u, false, false, true)
    ∷ (Closed, a, false, false, true)
    ∷ (Freed, null, false, false, true)
    ∷ (Freed, t, false, false, false)
    ∷ []

abbrev pub with_status : Mode → Ref → Heap
with_status mode owner = heap_of ((a, Status mode owner) ∷ (a, Count (pos 1)) ∷ [])

abbrev pub Answer : Type 0
Answer = Bool × Bool × Bool × Bool

statuses_say : map {B = Answer} (λ r. let h = with_status r.0 r.1 in (mutable t h a, wrapped t h a, writable t h [] a, writable t h (b ∷ a ∷ []) a)) statuses ≡ map {B = Answer} (λ r. (r.2, r.3, r.4, true)) statuses
unfolding same_ref is_in put
statuses_say = refl

-- what a function may write, a thread, an object, and whether it is writable
abbrev pub writes : List (List Ref × Ref × Ref × Bool)
writes =
    ([], t, a, false)
    ∷ (a ∷ [], t, a, true)
    ∷ (b ∷ c ∷ [], t, a, false)
    ∷ (b ∷ c ∷ a ∷ [], t, a, true)
    ∷ ([], t, b, true)
    ∷ ([], u, b, false)
    ∷ ([], t, c, true)
    ∷ ([], a, c, false)
    ∷ ([], t, null, true)
    ∷ ([], null, null, false)
    ∷ (null ∷ [], null, null, true)
    ∷ ([], t, lock, true)
    ∷ []

abbrev pub written : Heap
written = heap_by (row a Open t [] [] ∷ row b Closed u [] [] ∷ row c Closed a [] [] ∷ [])

writes_say : map (λ r. writable r.1 written r.0 r.2) writes ≡ map (λ r. r.3) writes
unfolding same_ref is_in put
writes_say = refl

-- a heap, a thread, and its stable set on the heap
abbrev pub Stable : Type 0
Stable = List Row × Ref × List Ref

-- roots are closed and owned
abbrev pub roots : List Stable
roots =
    (row a Closed t [] [] ∷ [], t, a ∷ [])
    ∷ (row a Closed u [] [] ∷ [], t, [])
    ∷ (row a Closed null [] [] ∷ [], t, [])
    ∷ (row a Open t [] [] ∷ [], t, [])
    ∷ (row a Freed t [] [] ∷ [], t, [])
    ∷ (row a Absent t [] [] ∷ [], t, [])
    ∷ ([], t, [])
    ∷ []

abbrev pub claimed_lock : List Row
claimed_lock = row claim Closed t [] (lock ∷ []) ∷ row lock Closed u (a ∷ []) [] ∷ row a Closed lock [] [] ∷ []

abbrev pub plain : List Row
plain = row claim Closed t [] (a ∷ []) ∷ row a Closed u (b ∷ []) [] ∷ row b Closed a [] [] ∷ []

abbrev pub owns_claim : Mode → List Row
owns_claim mode = row a Closed t (second ∷ []) [] ∷ row second mode a [] (b ∷ []) ∷ row b Closed u [] [] ∷ []

-- claims give what they list
abbrev pub claims : List Stable
claims =
    (claimed_lock, t, claim ∷ lock ∷ [])
    ∷ (claimed_lock, u, lock ∷ [])
    ∷ (plain, t, claim ∷ a ∷ b ∷ [])
    ∷ (owns_claim Open, t, second ∷ a ∷ [])
    ∷ (owns_claim Closed, t, second ∷ a ∷ b ∷ [])
    ∷ (row a Closed t [] (b ∷ []) ∷ [], t, a ∷ [])
    ∷ []

-- members of all but locks
abbrev pub members : List Stable
members =
    (row a Closed t (c ∷ null ∷ u ∷ []) [] ∷ [], t, null ∷ u ∷ a ∷ c ∷ [])
    ∷ (row lock Closed t (c ∷ null ∷ u ∷ []) [] ∷ [], t, lock ∷ [])
    ∷ (row claim Closed t (c ∷ null ∷ u ∷ []) [] ∷ [], t, null ∷ u ∷ claim ∷ c ∷ [])
    ∷ (row stranger Closed t (c ∷ null ∷ u ∷ []) [] ∷ [], t, null ∷ u ∷ c ∷ stranger ∷ [])
    ∷ (row a Open t (c ∷ null ∷ u ∷ []) [] ∷ [], t, [])
    ∷ (row a Closed t (b ∷ []) [] ∷ row b Freed null (c ∷ []) [] ∷ row c Open u [] [] ∷ [], t, a ∷ b ∷ c ∷ [])
    ∷ (row b Closed t (c ∷ []) [] ∷ row c Closed b (a ∷ []) [] ∷ row a Closed c (b ∷ []) [] ∷ [], t, a ∷ b ∷ c ∷ [])
    ∷ (row last_but_one Closed t (a ∷ []) [] ∷ [], t, a ∷ last_but_one ∷ [])
    ∷ (row last Closed t (a ∷ []) [] ∷ [], t, a ∷ last ∷ [])
    ∷ []

abbrev pub chain : List Row
chain =
    row claim Closed t [] (c ∷ [])
    ∷ row c Closed u (second ∷ []) []
    ∷ row second Closed c [] (b ∷ [])
    ∷ row b Closed u (third ∷ []) []
    ∷ row third Closed b [] (lock ∷ [])
    ∷ row lock Closed u (a ∷ []) []
    ∷ row a Closed lock [] []
    ∷ []

-- two threads have each released the lock, and the data is the lock's again
abbrev pub last_heap : List Row
last_heap = row claim Closed u [] (lock ∷ []) ∷ row second Closed worker [] (lock ∷ []) ∷ row a Closed lock [] [] ∷ row lock Closed t (a ∷ []) [] ∷ []

-- chains of claims and owners
abbrev pub chains : List Stable
chains =
    (chain, t, claim ∷ second ∷ third ∷ b ∷ c ∷ lock ∷ [])
    ∷ (chain, u, second ∷ third ∷ b ∷ c ∷ lock ∷ [])
    ∷ (chain, lock, a ∷ [])
    ∷ (last_heap, t, lock ∷ [])
    ∷ (last_heap, u, claim ∷ lock ∷ [])
    ∷ (last_heap, worker, second ∷ lock ∷ [])
    ∷ (last_heap, ref 1 4, [])
    ∷ []

module _ (m : Memory) where
  abbrev pub struct_of : Bool → StructInfo
  struct_of has_volatile_owns = record { name = m.text; line = 1; is_claimable = true; has_dynamic_owns = true; has_volatile_owns = has_volatile_owns; first_field = 0; fields = 0; invariants = vec m []; has_approval = false; mine = vec m [] }

  -- the types 3 and 4
  abbrev pub program : Program
  program = record { structs = vec m (struct_of false ∷ struct_of true ∷ []); fields = vec m []; functions = vec m []; sites = vec m []; shapes = vec m []; items = vec m []; main = 0 }

  abbrev pub sets : List Stable → List (List Ref)
  sets = map (λ r. stable_set program r.1 (heap_by r.0))

  stable : map sets (roots ∷ claims ∷ members ∷ chains ∷ []) ≡ map (map (λ r. r.2)) (roots ∷ claims ∷ members ∷ chains ∷ [])
  unfolding same_ref is_in put
  stable = refl

pub data Effect : Type 0 where
  Close : Ref → Effect
  Opens : Ref → Ref → Effect
  Give : Ref → Ref → Effect
  Take : Ref → Ref → Ref → Effect

abbrev pub made : Effect → Heap → Heap
made (Close o) h = closed h o
made (Opens o owner) h = opened h o owner
made (Give from to) h = given h from to
made (Take owner o taker) h = taken h owner o taker

abbrev pub every_reference : List Ref
every_reference = null ∷ t ∷ u ∷ claim ∷ second ∷ third ∷ a ∷ b ∷ c ∷ lock ∷ stranger ∷ []

-- where content stands that no effect changes
abbrev pub contents : List Ref
contents = claim ∷ a ∷ b ∷ lock ∷ []

abbrev pub filled : Heap → Heap
filled h = behind h (flat_map (λ o. (o, Count (pos 2)) ∷ (o, Write 5 (Int (pos 7))) ∷ (o, Conjunct (entry 1 (Refers c ∷ [])) true) ∷ []) contents)

abbrev pub look : Heap → Ref → Look
look h o = seen o.ty o.serial (h.get o).mode (h.get o).owner (h.get o).count (h.get o).owned (h.get o).listed (or_zero (Int (pos 0)) ((h.get o).fields 5) ∷ []) (h.get o).shapes

-- what a row says
abbrev pub told : Row → Look
told r = if is_in r.reference contents then seen r.reference.ty r.reference.serial r.mode r.owner (pos 2) r.owned r.listed (Int (pos 7) ∷ []) (entry 1 (Refers c ∷ []) ∷ []) else seen r.reference.ty r.reference.serial r.mode r.owner (pos 0) r.owned r.listed (Int (pos 0) ∷ []) []

-- and at a reference of no row that nothing stands there
abbrev pub row_or_none : Ref → Option Row → Row
row_or_none o None = row o Absent null [] []
row_or_none o (Some r) = r

abbrev pub looks_of : List Row → List Look
looks_of rows = map (λ o. told (row_or_none o (find (λ r. same_ref r.reference o) rows))) every_reference

abbrev pub open_ones : List Row
open_ones = row a Open t (b ∷ c ∷ []) [] ∷ row b Closed t (lock ∷ []) [] ∷ row c Closed u [] [] ∷ row lock Closed b (a ∷ []) [] ∷ row claim Closed t [] (lock ∷ []) ∷ []

abbrev pub closed_ones : List Row
closed_ones = row a Closed t (b ∷ c ∷ []) [] ∷ row b Closed a (lock ∷ []) [] ∷ row c Closed a [] [] ∷ row lock Closed b (a ∷ []) [] ∷ row claim Closed t [] (lock ∷ []) ∷ []

abbrev pub opened_ones : List Row
opened_ones = row a Open t (b ∷ c ∷ []) [] ∷ row b Closed u (lock ∷ []) [] ∷ row c Closed u [] [] ∷ row lock Closed b (a ∷ []) [] ∷ row claim Closed t [] (lock ∷ []) ∷ []

abbrev pub its_own : List Row
its_own = row a Open t (a ∷ stranger ∷ []) [] ∷ []

abbrev pub its_own_closed : List Row
its_own_closed = row a Closed a (a ∷ stranger ∷ []) [] ∷ row stranger Absent a [] [] ∷ []

abbrev pub nobodys : Mode → List Row
nobodys mode = row b mode null [] [] ∷ []

abbrev pub apart : List Row
apart = row a Closed t (c ∷ []) [] ∷ row lock Closed u (b ∷ []) [] ∷ row b Closed lock [] [] ∷ row claim Closed t [] (lock ∷ []) ∷ []

abbrev pub joined : List Row
joined = row a Closed lock (c ∷ []) [] ∷ row lock Closed u (a ∷ b ∷ []) [] ∷ row b Closed lock [] [] ∷ row claim Closed t [] (lock ∷ []) ∷ []

abbrev pub given_itself : List Row
given_itself = row a Closed a (a ∷ c ∷ []) [] ∷ row lock Closed u (b ∷ []) [] ∷ row b Closed lock [] [] ∷ row claim Closed t [] (lock ∷ []) ∷ []

-- a heap, an effect on it, and the heap behind it
abbrev pub effects : List (List Row × Effect × List Row)
effects =
    (open_ones, Close a, closed_ones)
    ∷ (closed_ones, Close a, closed_ones)
    ∷ (closed_ones, Opens a u, opened_ones)
    ∷ (its_own, Close a, its_own_closed)
    ∷ ([], Close b, nobodys Closed)
    ∷ (nobodys Closed, Opens b t, nobodys Open)
    ∷ (apart, Give a lock, joined)
    ∷ (joined, Give a lock, joined)
    ∷ (joined, Take lock a t, apart)
    ∷ (apart, Take lock a t, apart)
    ∷ (apart, Give a a, given_itself)
    ∷ ([], Take a b u, row b Absent u [] [] ∷ [])
    ∷ ([], Give null a, row a Absent null (null ∷ []) [] ∷ row null Absent a [] [] ∷ [])
    ∷ []

effects_leave : map (λ r. map (look (made r.1 (filled (heap_by r.0)))) every_reference) effects ≡ map (λ r. looks_of r.2) effects
unfolding same_ref is_in put hand_over
effects_leave = refl

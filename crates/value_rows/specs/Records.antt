-- What heaps show after a few changes, by computation; it was worked by hand. Own.
use Rattle.std.specs.Prelude.{◌≡◌, ℕ, Bool, true, false, not, ℤ, pos, List, [], ◌∷◌, length, ◌==◌, map, Some, None, refl}
use Rattle.std.proofs.Common.{ap}
use Rattle.std.proofs.lemmas.Bool.{true≢false}
use Rattle.object_types.specs.declared.references.Ref.{Ref}
use Rattle.object_types.specs.declared.values.Value.{Value}
use Rattle.object_types.specs.declared.values.Value.TheVariants.{Int, Ref as Refers}
use Rattle.object_types.specs.declared.shapes.Entry.{Entry}
use Rattle.object_types.specs.declared.records.Mode.{Mode}
use Rattle.object_types.specs.declared.records.Mode.TheVariants.{Absent, Open, Closed, Freed}
use Rattle.object_types.specs.declared.records.Change.{Change}
use Rattle.object_types.specs.declared.records.Change.TheVariants.{Status, Count, Field as Write, Owned, Listed, Shape as Conjunct}
use Rattle.object_types.specs.References.{ref, null, same_ref}
use Rattle.object_types.specs.Values.{or_zero, same_int, same_value}
use Rattle.object_types.specs.Heap.{Record, Heap, nothing, empty_heap, put, is_absent, fresh}
use Rattle.object_types.specs.declared.records.Stored.{Stored}
use Rattle.object_types.specs.Lookups.{changed}
use Rattle.object_types.specs.Trees.{first_from}
use Rattle.object_types.specs.Content.{SameContent}
use Rattle.value_rows.specs.Heaps.{heap_of}
use Rattle.value_rows.specs.Expressions.{entry, great, least, below_zero}

abbrev pub t : Ref
t = ref 1 1

abbrev pub claim : Ref
claim = ref 2 1

abbrev pub a : Ref
a = ref 3 1

abbrev pub b : Ref
b = ref 3 2

abbrev pub c : Ref
c = ref 4 1

-- what a heap shows
pub data Shown : Type 0 where
  Holds : Value → Shown
  Stands : Mode → Ref → ℤ → Shown
  Members : List Ref → Shown
  Made : List Entry → Shown
  Fresh : Ref → Shown
  Used : Bool → Shown

-- a question about a heap
pub data Question : Type 0 where
  -- the value of a field, where the value stands for none
  Read : Ref → ℕ → Value → Question
  View : Ref → Question
  OwnedBy : Ref → Question
  ListedBy : Ref → Question
  ConjunctsOf : Ref → Question
  FreshOf : ℕ → Question
  -- something stands at the last reference of the type
  LastOf : ℕ → Question

abbrev pub shown : Heap → Question → Shown
shown h (Read o f zero) = Holds (or_zero zero ((h.get o).fields f))
shown h (View o) = Stands (h.get o).mode (h.get o).owner (h.get o).count
shown h (OwnedBy o) = Members (h.get o).owned
shown h (ListedBy o) = Members (h.get o).listed
shown h (ConjunctsOf o) = Made (h.get o).shapes
shown h (FreshOf ty) = Fresh (fresh h ty)
shown h (LastOf ty) = Used (not (is_absent (h.get (ref ty 4294967295)).mode))

-- a change of a heap that is empty at first, or a question with what it shows
pub data Row : Type 0 where
  Do : Ref → Change → Row
  Ask : Question → Shown → Row

abbrev pub answers : Heap → List Row → List Shown
answers h [] = []
answers h (Do o change ∷ rows) = answers (put h o (changed change (h.get o))) rows
answers h (Ask question answer ∷ rows) = shown h question ∷ answers h rows

abbrev pub wanted : List Row → List Shown
wanted [] = []
wanted (Do o change ∷ rows) = wanted rows
wanted (Ask question answer ∷ rows) = answer ∷ wanted rows

abbrev pub reads : List Row
reads =
    Do b (Write 7 (Int (pos 5)))
    ∷ Ask (Read b 7 (Int (pos 0))) (Holds (Int (pos 5)))
    ∷ Do a (Write 7 (Int least))
    ∷ Ask (Read a 7 (Int (pos 0))) (Holds (Int least))
    ∷ Do a (Write 0 (Refers c))
    ∷ Ask (Read a 0 (Int (pos 0))) (Holds (Refers c))
    ∷ Do a (Write 9 (Int great))
    ∷ Ask (Read a 9 (Int (pos 0))) (Holds (Int great))
    ∷ Do a (Write 7 (Int (below_zero 1)))
    ∷ Ask (Read a 7 (Int (pos 0))) (Holds (Int (below_zero 1)))
    ∷ Do a (Write 7 (Int (pos 0)))
    ∷ Ask (Read a 7 (Int (pos 0))) (Holds (Int (pos 0)))
    ∷ Do a (Write 0 (Refers null))
    ∷ Ask (Read a 0 (Int (pos 0))) (Holds (Int (pos 0)))
    ∷ Ask (Read b 7 (Refers null)) (Holds (Int (pos 5)))
    ∷ Ask (Read a 9 (Refers null)) (Holds (Int great))
    ∷ Ask (Read a 7 (Refers null)) (Holds (Refers null))
    ∷ Ask (Read a 8 (Refers null)) (Holds (Refers null))
    ∷ Ask (Read c 9 (Refers null)) (Holds (Refers null))
    ∷ []

reads_show : answers empty_heap reads ≡ wanted reads
unfolding same_ref put
reads_show = refl

abbrev pub views : List Row
views =
    Do c (Status Open t)
    ∷ Do c (Count (pos 0))
    ∷ Ask (View c) (Stands Open t (pos 0))
    ∷ Do a (Status Closed c)
    ∷ Do a (Count (pos 2))
    ∷ Ask (View a) (Stands Closed c (pos 2))
    ∷ Do b (Status Closed t)
    ∷ Do b (Count great)
    ∷ Ask (View b) (Stands Closed t great)
    ∷ Do a (Status Freed null)
    ∷ Do a (Count (pos 2))
    ∷ Ask (View a) (Stands Freed null (pos 2))
    ∷ Ask (View c) (Stands Open t (pos 0))
    ∷ Ask (View claim) (Stands Absent null (pos 0))
    ∷ []

views_show : answers empty_heap views ≡ wanted views
unfolding same_ref put
views_show = refl

-- each object is listed just when it is owned, and first the other way round
abbrev pub sets : List Row
sets =
    Do a (Owned c true)
    ∷ Do claim (Listed c false)
    ∷ Do claim (Listed c true)
    ∷ Ask (OwnedBy a) (Members (c ∷ []))
    ∷ Ask (ListedBy claim) (Members (c ∷ []))
    ∷ Do a (Owned a true)
    ∷ Do claim (Listed a false)
    ∷ Do claim (Listed a true)
    ∷ Ask (OwnedBy a) (Members (a ∷ c ∷ []))
    ∷ Ask (ListedBy claim) (Members (a ∷ c ∷ []))
    ∷ Do a (Owned b true)
    ∷ Do claim (Listed b false)
    ∷ Do claim (Listed b true)
    ∷ Ask (OwnedBy a) (Members (a ∷ b ∷ c ∷ []))
    ∷ Ask (ListedBy claim) (Members (a ∷ b ∷ c ∷ []))
    ∷ Do a (Owned b true)
    ∷ Do claim (Listed b false)
    ∷ Do claim (Listed b true)
    ∷ Ask (OwnedBy a) (Members (a ∷ b ∷ c ∷ []))
    ∷ Ask (ListedBy claim) (Members (a ∷ b ∷ c ∷ []))
    ∷ Do a (Owned a false)
    ∷ Do claim (Listed a true)
    ∷ Do claim (Listed a false)
    ∷ Ask (OwnedBy a) (Members (b ∷ c ∷ []))
    ∷ Ask (ListedBy claim) (Members (b ∷ c ∷ []))
    ∷ Do a (Owned a false)
    ∷ Do claim (Listed a true)
    ∷ Do claim (Listed a false)
    ∷ Ask (OwnedBy a) (Members (b ∷ c ∷ []))
    ∷ Ask (ListedBy claim) (Members (b ∷ c ∷ []))
    ∷ Do a (Owned null true)
    ∷ Do claim (Listed null false)
    ∷ Do claim (Listed null true)
    ∷ Ask (OwnedBy a) (Members (null ∷ b ∷ c ∷ []))
    ∷ Ask (ListedBy claim) (Members (null ∷ b ∷ c ∷ []))
    ∷ Ask (OwnedBy claim) (Members [])
    ∷ Ask (ListedBy a) (Members [])
    ∷ Ask (OwnedBy b) (Members [])
    ∷ []

sets_show : answers empty_heap sets ≡ wanted sets
unfolding same_ref put
sets_show = refl

abbrev pub conjuncts : List Row
conjuncts =
    Do claim (Conjunct (entry 2 (Int (pos 1) ∷ [])) true)
    ∷ Do claim (Conjunct (entry 1 (Refers a ∷ [])) true)
    ∷ Do claim (Conjunct (entry 1 (Int (below_zero 1) ∷ Refers a ∷ [])) true)
    ∷ Do claim (Conjunct (entry 1 (Int (below_zero 1) ∷ [])) true)
    ∷ Do claim (Conjunct (entry 3 []) true)
    ∷ Do claim (Conjunct (entry 1 (Int (pos 1) ∷ [])) true)
    ∷ Do claim (Conjunct (entry 1 (Int (below_zero 1) ∷ [])) true)
    ∷ Do claim (Conjunct (entry 3 []) false)
    ∷ Do claim (Conjunct (entry 4 (Int (pos 1) ∷ [])) false)
    ∷ Ask (ConjunctsOf claim) (Made (entry 1 (Int (below_zero 1) ∷ []) ∷ entry 1 (Int (below_zero 1) ∷ Refers a ∷ []) ∷ entry 1 (Int (pos 1) ∷ []) ∷ entry 1 (Refers a ∷ []) ∷ entry 2 (Int (pos 1) ∷ []) ∷ []))
    ∷ Ask (ConjunctsOf a) (Made [])
    ∷ []

conjuncts_show : answers empty_heap conjuncts ≡ wanted conjuncts
unfolding same_ref put
conjuncts_show = refl

abbrev pub fresh_ones : List Row
fresh_ones =
    Do (ref 3 5) (Status Absent t)
    ∷ Do (ref 3 5) (Write 0 (Int (pos 1)))
    ∷ Ask (FreshOf 3) (Fresh (ref 3 1))
    ∷ Do (ref 3 0) (Status Open t)
    ∷ Do (ref 3 0) (Write 0 (Int (pos 1)))
    ∷ Ask (FreshOf 3) (Fresh (ref 3 1))
    ∷ Do (ref 3 1) (Status Open t)
    ∷ Do (ref 3 1) (Write 0 (Int (pos 1)))
    ∷ Ask (FreshOf 3) (Fresh (ref 3 2))
    ∷ Do (ref 3 4) (Status Freed t)
    ∷ Do (ref 3 4) (Write 0 (Int (pos 1)))
    ∷ Ask (FreshOf 3) (Fresh (ref 3 5))
    ∷ Do (ref 3 2) (Status Closed t)
    ∷ Do (ref 3 2) (Write 0 (Int (pos 1)))
    ∷ Ask (FreshOf 3) (Fresh (ref 3 5))
    ∷ Do (ref 2 4294967295) (Status Closed t)
    ∷ Do (ref 2 4294967295) (Write 0 (Int (pos 1)))
    ∷ Ask (LastOf 2) (Used true)
    ∷ Do (ref 3 4294967294) (Status Open t)
    ∷ Do (ref 3 4294967294) (Write 0 (Int (pos 1)))
    ∷ Ask (FreshOf 3) (Fresh (ref 3 4294967295))
    ∷ Do (ref 3 4294967294) (Status Absent t)
    ∷ Do (ref 3 4294967294) (Write 0 (Int (pos 1)))
    ∷ Ask (FreshOf 3) (Fresh (ref 3 5))
    ∷ Do (ref 4294967295 9) (Status Open t)
    ∷ Do (ref 4294967295 9) (Write 0 (Int (pos 1)))
    ∷ Ask (FreshOf 4294967295) (Fresh (ref 4294967295 10))
    ∷ Ask (FreshOf 4) (Fresh (ref 4 1))
    ∷ []

fresh_ones_show : answers empty_heap fresh_ones ≡ wanted fresh_ones
unfolding same_ref put
fresh_ones_show = refl

-- a record with some of everything
abbrev pub whole : Record
whole = (heap_of ((a, Count (pos 1)) ∷ (a, Write 0 (Int (pos 1))) ∷ (a, Owned b true) ∷ (a, Listed b true) ∷ (a, Conjunct (entry 0 (Int (pos 1) ∷ [])) true) ∷ [])).get a

-- the content is all but the status
abbrev Differs : Change → Type 0
Differs change = ¬ SameContent whole (changed change whole)

count_differs : Differs (Count (pos 2))
unfolding same_ref put
count_differs same = true≢false (ap (λ z. same_int z (pos 1)) same.count)

fields_differ : Differs (Write 1 (Int (pos 1)))
unfolding same_ref put
fields_differ same = true≢false (ap (λ v. same_value (or_zero (Int (pos 0)) v) (Int (pos 0))) (same.fields 1))

owned_differ : Differs (Owned b false)
unfolding same_ref put
owned_differ same = true≢false (ap (λ os. length os == 1) same.owned)

listed_differ : Differs (Listed c true)
unfolding same_ref put
listed_differ same = true≢false (ap (λ os. length os == 1) same.listed)

shapes_differ : Differs (Conjunct (entry 0 (Int (pos 2) ∷ [])) true)
unfolding same_ref put
shapes_differ same = true≢false (ap (λ es. length es == 1) same.shapes)

status_is_none_of_it : SameContent whole (changed (Status Freed c) whole)
status_is_none_of_it = record { count = refl; owned = refl; fields = λ f. refl; listed = refl; shapes = refl }

-- a, of which a field is kept, b, where nothing stands any longer, and c, which was freed
abbrev pub stored : List Stored
stored =
    record { reference = a; mode = Absent; owner = null; count = pos 0; owned = []; fields = record { field = 0; value = Int (pos 1) } ∷ []; listed = []; shapes = [] }
    ∷ record { reference = b; mode = Absent; owner = null; count = pos 0; owned = []; fields = []; listed = []; shapes = [] }
    ∷ record { reference = c; mode = Freed; owner = null; count = pos 0; owned = []; fields = []; listed = []; shapes = [] } ∷ []

-- the first is the least at which something stands
firsts : first_from null [] ∷ map (λ o. first_from o stored) (null ∷ a ∷ b ∷ c ∷ ref 4 2 ∷ []) ≡ None ∷ Some a ∷ Some a ∷ Some c ∷ Some c ∷ None ∷ []
unfolding same_ref
firsts = refl

nothing_again : (heap_of ((b, Owned a true) ∷ (b, Owned a false) ∷ [])).get b ≡ nothing
unfolding same_ref put
nothing_again = refl

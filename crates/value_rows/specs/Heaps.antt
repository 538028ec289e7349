-- Heaps as what a row of changes leaves. Own.
use Rattle.std.specs.Prelude.{List, [], ◌∷◌}
use Rattle.object_types.specs.declared.references.Ref.{Ref}
use Rattle.object_types.specs.declared.records.Change.{Change}
use Rattle.object_types.specs.Heap.{Heap, empty_heap, put}
use Rattle.object_types.specs.Lookups.{changed}

-- each change of the record at a reference, the first one first
abbrev pub Changes : Type 0
Changes = List (Ref × Change)

abbrev pub behind : Heap → Changes → Heap
behind h [] = h
behind h (c ∷ cs) = behind (put h c.0 (changed c.1 (h.get c.0))) cs

abbrev pub heap_of : Changes → Heap
heap_of cs = behind empty_heap cs

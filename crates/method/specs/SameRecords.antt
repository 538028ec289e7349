-- Heaps with the same records are one heap to the method: the list of references that a heap has beside its records changes nothing that is said of heaps of a program. Own.
use Rattle.std.specs.Prelude.{List}
use Rattle.object_types.specs.declared.references.Ref.{Ref}
use Rattle.method.specs.declared.program.Program.{Program}
use Rattle.object_types.specs.Heap.{Heap, Same}
use Rattle.method.specs.WellFormed.{IsHeapOf, WellFormed}
use Rattle.method.specs.Legal.{Good, Kept, Legal}
use Rattle.method.specs.Rely.{Rely, Frame}

-- what holds of heaps holds of others of the program with the same records
pub record RespectsRecords (p : Program) : Type 0 where
  pub well_formed : (h h' : Heap) → Same h h' → IsHeapOf p h' → WellFormed p h → WellFormed p h'
  pub good : (h h' : Heap) → Same h h' → IsHeapOf p h' → Good p h → Good p h'
  pub legal : (h k h' k' : Heap) → Same h h' → Same k k' → IsHeapOf p h' → IsHeapOf p k' → Legal p h k → Legal p h' k'
  pub kept : (h k h' k' : Heap) → Same h h' → Same k k' → IsHeapOf p h' → IsHeapOf p k' → Kept p h k → Kept p h' k'
  pub rely : (t : Ref) (h k h' k' : Heap) → Same h h' → Same k k' → IsHeapOf p h' → IsHeapOf p k' → Rely p t h k → Rely p t h' k'
  pub frame : (t : Ref) (w : List Ref) (h k e h' k' e' : Heap) → Same h h' → Same k k' → Same e e' → IsHeapOf p h' → IsHeapOf p k' → IsHeapOf p e' → Frame p t h k e w → Frame p t h' k' e' w

abbrev pub SameRecordsLaw : Type 0
SameRecordsLaw = (p : Program) → RespectsRecords p

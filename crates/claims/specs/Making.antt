-- What making a claim and ending one do to a heap. From CAV 2010, section 5: claims are objects, and each object counts those that list it. Own: that the record of an ended claim stays.
use Rattle.std.specs.Prelude.{ℕ, pos, negsuc, List}
use Rattle.object_types.specs.declared.references.Ref.{Ref}
use Rattle.object_types.specs.declared.values.Value.{Value}
use Rattle.object_types.specs.declared.shapes.Entry.{Entry}
use Rattle.object_types.specs.declared.records.Mode.TheVariants.{Freed}
use Rattle.object_types.specs.References.{null}
use Rattle.object_types.specs.Heap.{Heap, put, count_more}
use Rattle.method.specs.Actions.{new_claim}

abbrev pub entry : ℕ → List Value → Entry
entry shape values = record { shape = shape; values = values }

-- the heap with a new claim c of t, on these objects and with these conjuncts
abbrev pub with_claim : Ref → Ref → List Ref → List Entry → Heap → Heap
with_claim c t objects parts h = count_more (pos 1) objects (put h c (new_claim t objects parts))

-- the heap where the claim has ended
abbrev pub without_claim : Ref → Heap → Heap
without_claim c h = count_more (negsuc 0) (h.get c).listed (put h c (record (h.get c) { mode = Freed; owner = null }))

-- What wrap, unwrap and transfers do to a heap. From the VCC manual: wrap, unwrap, \owns; own: who owns the members.
use Rattle.std.specs.Prelude.{[], ◌∷◌}
use Rattle.object_types.specs.declared.references.Ref.{Ref}
use Rattle.object_types.specs.declared.records.Mode.TheVariants.{Open, Closed}
use Rattle.object_types.specs.Sets.{with_member, without_member}
use Rattle.object_types.specs.Heap.{Heap, put, hand_over}

-- o is closed, its owner stays, and its members are its own
abbrev pub closed : Heap → Ref → Heap
closed h o = hand_over (put h o (record (h.get o) { mode = Closed })) (h.get o).owned o

-- o is open, its set stays, and the members are t's
abbrev pub opened : Heap → Ref → Ref → Heap
opened h o t = hand_over (put h o (record (h.get o) { mode = Open })) (h.get o).owned t

-- q joins the set of o, which owns it now
abbrev pub given : Heap → Ref → Ref → Heap
given h q o = hand_over (put h o (record (h.get o) { owned = with_member q (h.get o).owned })) (q ∷ []) o

-- q leaves the set of o, and is t's
abbrev pub taken : Heap → Ref → Ref → Ref → Heap
taken h o q t = hand_over (put h o (record (h.get o) { owned = without_member q (h.get o).owned })) (q ∷ []) t

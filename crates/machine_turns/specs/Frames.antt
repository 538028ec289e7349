-- The code's functions that are being run, beside method's. The code doesn't keep the list that a heap of method has beside its records; so they are compared without those lists. Own.
use Rattle.std.specs.Prelude.{List, [], map, reverse}
use Rattle.object_types.specs.declared.references.Ref.{Ref}
use Rattle.object_types.specs.Heap as h
use Rattle.method.specs.Machine as m
use Rattle.machine_values.specs.Spots.{context_at}
use Rattle.machine_objects.specs.Runs.{place_of}
use Rattle.machine_turns.specs.declared.activation.Remaining.{Remaining}
use Rattle.machine_turns.specs.declared.activation.Remaining.TheVariants.{Run, Test, WrapAgain, Receive}
use Rattle.machine_turns.specs.declared.activation.Activation.{Activation}

-- functions' runs without the lists beside their heaps

abbrev pub bare_heap : h.Heap → h.Heap
bare_heap k = record { get = k.get; support = [] }

abbrev pub bare_frame : m.Activation → m.Activation
bare_frame a = record a { context = record a.context { entry = bare_heap a.context.entry } }

-- those of the code, bare

abbrev pub left_of : Remaining → m.Remaining
left_of (Run s) = m.Run s.now
left_of (Test line e s) = m.Test line e.now s.now
left_of (WrapAgain line ty o) = m.WrapAgain line ty o
left_of (Receive line place c) = m.Receive line (place_of place) c

-- code whose next item stands last
abbrev pub ahead : List Remaining → List m.Remaining
ahead rs = reverse (map left_of rs)

-- a function's run, with this list beside the heap at its entry
abbrev pub frame_at : List Ref → Activation → m.Activation
frame_at x a = record { context = context_at x a.context; locals = a.locals.items; code = ahead a.code.items }

abbrev pub frame_of : Activation → m.Activation
frame_of a = frame_at [] a

-- a thread's functions, of which that called last stands last
abbrev pub frames_of : List Activation → List m.Activation
frames_of fs = reverse (map frame_of fs)

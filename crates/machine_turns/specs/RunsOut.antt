-- Where the code's numbers run out at an item. Own.
use Rattle.std.specs.Prelude.{ℕ, List, [], ◌∷◌}
use Rattle.object_types.specs.declared.values.Value.{Value}
use Rattle.object_types.specs.Heap.{Heap}
use Rattle.method.specs.declared.program.Stmt.TheVariants.{Do, If', While', DoWhile', Unwrapping', Call, Return}
use Rattle.method.specs.declared.program.Program.{Program}
use Rattle.method.specs.Actions.{Supply, Fresh, spot, starting}
use Rattle.method.specs.Machine as m
use Rattle.machine_actions.specs.RunsOut.{ActionRunsOut}

-- the numbers run out at an item of a function's code; an action alone takes any
abbrev pub ItemRunsOut : Program → Supply → List Value → m.Activation → m.Remaining → Heap → Type 0
ItemRunsOut p supply choices a (m.Run (Do line act)) h = ActionRunsOut p (spot a.context choices line) act 0 (starting h a.locals supply)
ItemRunsOut p supply choices a (m.Run (If' line in_ghost e k then_row n else_row)) h = ⊥
ItemRunsOut p supply choices a (m.Run (While' line invs e k row)) h = ⊥
ItemRunsOut p supply choices a (m.Run (DoWhile' line invs k row tested e)) h = ⊥
ItemRunsOut p supply choices a (m.Run (Unwrapping' line ty q e k row)) h = ⊥
ItemRunsOut p supply choices a (m.Run (Call line to c number es)) h = ⊥
ItemRunsOut p supply choices a (m.Run (Return line e)) h = ⊥
ItemRunsOut p supply choices a (m.Test line e s) h = ⊥
ItemRunsOut p supply choices a (m.WrapAgain line ty o) h = ⊥
ItemRunsOut p supply choices a (m.Receive line place c) h = ⊥

-- the same, where a new thread's number is sought from this one on
abbrev pub TakenRunsOut : ℕ → List Value → m.Remaining → Program → m.Activation → Heap → Type 0
TakenRunsOut next choices r p a h = ItemRunsOut p (Fresh next) choices a r h

-- the same at the next item of this code, and of the function of a thread that was called last
abbrev pub CodeRunsOut : Program → Supply → List Value → m.Activation → List m.Remaining → Heap → Type 0
CodeRunsOut p supply choices a [] h = ⊥
CodeRunsOut p supply choices a (r ∷ code) h = ItemRunsOut p supply choices a r h

abbrev pub ThreadRunsOut : Program → Supply → List Value → List m.Activation → Heap → Type 0
ThreadRunsOut p supply choices [] h = ⊥
ThreadRunsOut p supply choices (a ∷ below) h = CodeRunsOut p supply choices a a.code h

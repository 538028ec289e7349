-- A turn's change, put into the functions of a thread. Own.
use Rattle.std.specs.Prelude.{List, [], ◌∷◌, ◌++◌, Option}
use Rattle.std.proofs.Common.{Vec, Global}
use Rattle.object_types.specs.declared.values.Value.{Value}
use Rattle.method.specs.Machine as m
use Rattle.machine_turns.specs.declared.activation.Activation.{Activation}
use Rattle.machine_turns.specs.declared.activation.Remaining.{Remaining}
use Rattle.machine_turns.specs.declared.turn.Frames.{Frames}
use Rattle.machine_turns.specs.Frames.{ahead, frame_of}
use Rattle.machine_turns.specs.Turns.{AreFrames, Framed, behind, locals_or, put_onto}

-- what becomes of all functions of a thread
abbrev pub Changed : Frames → List m.Activation → List m.Activation → Type 0
Changed change [] fs = ⊥
Changed change (a ∷ below) fs = Framed change a (behind a.code) below fs

-- the change, put into the code's functions
abbrev pub Settled : Frames → List Activation → List Activation → Type 0
Settled change old new = (fs gs : List m.Activation) → AreFrames fs old → Changed change fs gs → AreFrames gs new

-- a function's run that goes on: with this code in its next item's place, with this item there, or with these variables
abbrev pub advanced : Activation → Option (Vec Value Global) → List Remaining → m.Activation
advanced a ls rs = m.went (frame_of a) (locals_or a.locals.items ls) (ahead rs ++ behind (ahead a.code.items))

abbrev pub replaced : Activation → Option Remaining → m.Activation
replaced a r = m.went (frame_of a) a.locals.items (put_onto r (behind (ahead a.code.items)))

abbrev pub restored : Activation → List Value → m.Activation
restored a l = m.went (frame_of a) l (behind (ahead a.code.items))

-- What a call that prints leaves in its sink. Own.
use Rattle.std.specs.Prelude.{ℕ, List, Option, Result, OnOk, OnErr}
use Rattle.vcc_base.specs.Maps.{NowWritten, FrontWritten}
use Rattle.vcc_base.specs.declared.sink.SinkFault.{SinkFault}

-- on success the text is written, behind what was there
abbrev pub Writes : {X : Type 0} → Result X SinkFault → Option (List ℕ) → Option (List ℕ) → List ℕ → Type 0
Writes result old new text = OnOk result (NowWritten old new text)

-- after a fault some first bytes of the text are written, and no more
abbrev pub Front : {X : Type 0} → Result X SinkFault → Option (List ℕ) → Option (List ℕ) → List ℕ → Type 0
Front result old new text = OnErr result (FrontWritten old new text)

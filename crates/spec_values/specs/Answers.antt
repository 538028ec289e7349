-- What working out an expression answers. Own.
use Rattle.std.specs.Prelude.{◌≡◌, Option, Some, None, Result, Ok, Err}
use Rattle.int_ranges.specs.declared.exact.Wide.{Wide}
use Rattle.method.specs.Overflow.{Overflow}

-- the operands of a result that leaves 128 bits
abbrev pub operands : Wide → Overflow
operands w = record { left = w.a; right = w.b }

-- the value where no exact result on the way leaves 128 bits, and else the operands of the first that does
abbrev pub Gives : {X : Type 0} → Result X Wide → X → Option Overflow → Type 0
Gives (Ok v) value first = (v ≡ value) × (first ≡ None)
Gives (Err w) value first = first ≡ Some (operands w)

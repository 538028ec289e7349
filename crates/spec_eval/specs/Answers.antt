-- Why an annotation's expression has no value. Own.
use Rattle.std.specs.Prelude.{◌≡◌, Option, Some}
use Rattle.method.specs.Overflow.{Overflow}
use Rattle.spec_values.specs.Answers.{operands}
use Rattle.spec_eval.specs.declared.env.EvalFault.{EvalFault}
use Rattle.spec_eval.specs.declared.env.EvalFault.TheVariants.{Wide, OutOfMemory}

-- the fault is the first exact result that leaves 128 bits; memory is never wanted
abbrev pub IsWideAt : EvalFault → Option Overflow → Type 0
IsWideAt (Wide w) first = first ≡ Some (operands w)
IsWideAt OutOfMemory first = ⊥

-- Results that leave 128 bits.
use Rattle.std.specs.Prelude.{ℤ, FitsSigned}
use Rattle.std.specs.Int.{w128}
use Rattle.int_ranges.specs.declared.exact.Wide.{Wide}

-- the whole number is no number of 128 bits signed
abbrev pub Leaves : ℤ → Type 0
Leaves z = FitsSigned w128 z → ⊥

-- the operands of a result that leaves
abbrev pub wide : ℤ → ℤ → Wide
wide a b = record { a = a; b = b }

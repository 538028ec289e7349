use Rattle.std.proofs.Common.{take, All}
use Rattle.std.specs.Prelude.{FitsSigned}
use Rattle.std.specs.Int.{w128}
use Rattle.vcc_search.proofs.blocks.are_numbers.Given as goal

abbrev pub invariant-loop-number : goal.invariant-loop-number
invariant-loop-number l = record { fit : All (λ n. FitsSigned w128 n) (take l.number-index l.numbers) }

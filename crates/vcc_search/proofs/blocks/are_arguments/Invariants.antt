use Rattle.std.proofs.Common.{◌<◌, ◌^◌, take, All}
use Rattle.vcc_search.proofs.blocks.are_arguments.Given as goal

abbrev pub invariant-loop-arg : goal.invariant-loop-arg
invariant-loop-arg l = record { fit : All (λ a. a < 2 ^ 32) (take l.arg-index l.args) }

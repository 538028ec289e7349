use Rattle.std.proofs.Common.{◌≡◌, map, take}
use Rattle.block_layout.specs.Layout as spec
use Rattle.block_layout.proofs.names.clause_over.Given as goal

abbrev pub invariant-loop-literal : goal.invariant-loop-literal
invariant-loop-literal l = l.literals.items ≡ map (spec.literal_over l.names) (take l.literal-index l.clause)

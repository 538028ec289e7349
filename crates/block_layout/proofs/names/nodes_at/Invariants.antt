use Rattle.std.proofs.Common.{◌≡◌, map, take}
use Rattle.block_layout.specs.Layout as spec
use Rattle.block_layout.proofs.names.nodes_at.Given as goal

abbrev pub invariant-loop-number : goal.invariant-loop-number
invariant-loop-number l = l.nodes.items ≡ map (spec.node_at l.names) (take l.number-index l.numbers)

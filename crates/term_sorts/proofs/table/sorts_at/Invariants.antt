use Rattle.std.proofs.Common.{◌≡◌, ◌++◌, drop, option_map, List}
use Rattle.terms.specs.declared.sort.Sort.{Sort}
use Rattle.term_sorts.specs.Sorting as spec
use Rattle.term_sorts.proofs.table.sorts_at.Given as goal

abbrev pub invariant-loop-node : goal.invariant-loop-node
invariant-loop-node l = option_map (λ (more : List Sort). l.all.items ++ more) (spec.sorts_at l.sorts (drop l.node-index l.nodes)) ≡ spec.sorts_at l.sorts l.nodes

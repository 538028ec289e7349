use Rattle.std.proofs.Common.{◌≡◌, ◌+◌, ◌-◌, ◌++◌, length, drop}
use Rattle.graph_numbering.specs.Walk.{placed_front}
use Rattle.graph_numbering.proofs.walk.Stacks.push_placed.Given as goal

abbrev pub decreases-loop-next : goal.decreases-loop-next
decreases-loop-next l = length l.args - l.next

abbrev pub invariant-loop-next : goal.invariant-loop-next
invariant-loop-next l = record {
  numbers : l.self.numbers.items ++ placed_front l.places (drop l.next l.args) ≡ l.fn.self.numbers.items ++ placed_front l.places (drop l.first l.args);
  next : l.next + length (placed_front l.places (drop l.next l.args)) ≡ l.first + length (placed_front l.places (drop l.first l.args));
  visits : l.self.visits ≡ l.fn.self.visits;
}

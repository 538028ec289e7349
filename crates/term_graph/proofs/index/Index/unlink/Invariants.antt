use Rattle.std.proofs.Common.{◌≡◌, ◌≤◌, length}
use Rattle.term_graph.specs.Index.{IsIndex}
use Rattle.term_graph.proofs.index.Index.unlink.Given as goal

abbrev pub invariant-loop-id : goal.invariant-loop-id
invariant-loop-id l = record { first : l.first ≤ l.id; index : IsIndex l.pool.items l.id l.self.newest.items l.self.older.items; places : length l.self.older.items ≡ length l.fn.self.older.items }

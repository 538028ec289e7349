use Rattle.std.proofs.Common.{◌≡◌, ◌<◌, length}
use Rattle.term_graph.specs.Index.{IsIndex}
use Rattle.term_graph.proofs.index.Index.rehash.Given as goal

abbrev pub invariant-loop-id : goal.invariant-loop-id
invariant-loop-id l = record { index : IsIndex l.pool.items l.id l.self.newest.items l.self.older.items; some : 0 < length l.self.newest.items; places : length l.self.older.items ≡ length l.fn.self.older.items }

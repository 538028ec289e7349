use Rattle.std.proofs.Common.{◌≡◌, ◌≤◌, length, vec_capacity}
use Rattle.term_pool.specs.Chunks.{Fill}
use Rattle.term_pool.proofs.empty_chunks.Given as goal

abbrev pub invariant-loop : goal.invariant-loop
invariant-loop g l = Fill 0 l.chunks.items × (length l.chunks.items ≡ l.counter) × (l.count ≤ vec_capacity l.chunks)

use Rattle.term_pool.proofs.Chunks.{Cutting}
use Rattle.term_pool.proofs.cut.Given as goal

abbrev pub invariant-loop-i : goal.invariant-loop-i
invariant-loop-i g l = Cutting l.fn.chunks l.chunks l.i l.left l.fn.count

use Rattle.std.proofs.Common.{◌≡◌, ◌++◌, ◌-◌, length, replicate, None}
use Rattle.refutation_check.proofs.lemmas.none_behind.Given as goal

abbrev pub invariant-loop-held : goal.invariant-loop-held
invariant-loop-held l = l.held.clauses.items ++ replicate (length l.lemmas - length l.held.clauses.items) None ≡ l.fn.held.clauses.items ++ replicate (length l.lemmas - length l.fn.held.clauses.items) None

abbrev pub decreases-loop-held : goal.decreases-loop-held
decreases-loop-held l = length l.lemmas - length l.held.clauses.items

use Rattle.condition_branches.proofs.Joining.{JoinsTo}
use Rattle.condition_branches.proofs.joins.join_locals.Given as goal

abbrev pub invariant-loop-i : goal.invariant-loop-i
invariant-loop-i l = JoinsTo l.fn.graph l.graph l.declared l.before l.first l.second l.fn.state l.joined l.i

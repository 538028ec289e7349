use Rattle.condition_actions.proofs.BlockEnds.{Guards}
use Rattle.condition_actions.proofs.blocks.imply_all.Given as goal

abbrev pub invariant-loop-i : goal.invariant-loop-i
invariant-loop-i l = Guards l.fn.graph l.graph l.guards l.formula l.i l.whole

abbrev pub decreases-loop-i : goal.decreases-loop-i
decreases-loop-i l = l.i

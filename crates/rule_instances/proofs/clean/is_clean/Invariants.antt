use Rattle.rule_instances.specs.Clean.{IsDown}
use Rattle.rule_instances.proofs.clean.is_clean.Given as goal

abbrev pub decreases-loop-before : goal.decreases-loop-before
decreases-loop-before l = l.heap

abbrev pub invariant-loop-before : goal.invariant-loop-before
invariant-loop-before l = IsDown l.program l.graph l.fn.id l.heap

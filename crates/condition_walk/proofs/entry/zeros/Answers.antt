use Rattle.condition_walk.proofs.Entries.{zeros_first, zeros_next, zeros_last}
use Rattle.condition_walk.proofs.entry.zeros.Goals as goal

pub loop-variable-init : goal.loop-variable-init
loop-variable-init c = zeros_first c.new-values.ensures.items

pub loop-variable-preserved : goal.loop-variable-preserved
loop-variable-preserved c = zeros_next _ c.variable-item.is c.loop-variable.invariant c.loop-variable-test.true c.in_ok-value.ensures.later c.in_ok-value.ensures.stands c.in_ok-push.ensures.items

pub returns-clause-stands : goal.returns-clause-stands
returns-clause-stands c = zeros_last c.loop-variable.invariant c.loop-variable-test.false

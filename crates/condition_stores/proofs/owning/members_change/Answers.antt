use Rattle.condition_stores.proofs.Walking.{every_change, no_change, one_change}
use Rattle.condition_stores.proofs.owning.members_change.Goals as goal

pub loop-q-init : goal.loop-q-init
loop-q-init c = no_change

pub loop-q-preserved : goal.loop-q-preserved
loop-q-preserved c = one_change c.loop-q.invariant c.loop-q-test.true c.in_ok-state.ensures

pub returns : goal.returns
returns c = every_change c.loop-q.invariant c.loop-q-test.false

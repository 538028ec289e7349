use Rattle.condition_stores.proofs.Filling.{every_member, no_member, one_member}
use Rattle.condition_stores.proofs.heaps.add_members.Goals as goal

pub loop-q-init : goal.loop-q-init
loop-q-init c = no_member c.args.graph.now c.args.o c.args.members.now c.args.heap

pub loop-q-preserved : goal.loop-q-preserved
loop-q-preserved c = one_member c.loop-q.invariant c.loop-q-test.true c.in_ok-grown.ensures.later c.in_ok-grown.ensures.stands

pub returns-clause-stands : goal.returns-clause-stands
returns-clause-stands c = every_member c.loop-q.invariant c.loop-q-test.false

pub returns-clause-later : goal.returns-clause-later
returns-clause-later c = c.loop-q.invariant.later

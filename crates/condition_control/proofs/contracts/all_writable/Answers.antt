use Rattle.condition_control.proofs.Writables.{writables_next, writables_last}
use Rattle.condition_control.proofs.contracts.all_writable.Goals as goal

pub loop-item-preserved : goal.loop-item-preserved
loop-item-preserved c =
    writables_next c.args.a.now.program.now c.args.a.now c.args.graph.now c.loop-item.graph c.writable.new.graph c.args.items.now c.loop-item.all.items c.push.new.self.items c.loop-item.item-index c.in_ok-allowed.allowed c.loop-item.invariant c.loop-item-test.true c.in_ok-allowed.ensures.later c.in_ok-allowed.ensures.stands c.in_ok-push.ensures.items

pub returns-clause-stands : goal.returns-clause-stands
returns-clause-stands c = writables_last c.loop-item.invariant c.loop-item-test.false

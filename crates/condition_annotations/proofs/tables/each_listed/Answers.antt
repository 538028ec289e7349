use Rattle.condition_annotations.proofs.Mapped.{listings_next, listings_last}
use Rattle.condition_annotations.proofs.tables.each_listed.Goals as goal

pub loop-id-preserved : goal.loop-id-preserved
loop-id-preserved c =
    listings_next c.args.graph.now c.loop-id.graph c.lists.new.graph c.args.heap c.args.claim c.args.ids.now c.loop-id.all.items c.push.new.self.items c.loop-id.id-index c.in_ok-listed.listed c.loop-id.invariant c.loop-id-test.true c.in_ok-listed.ensures.later c.in_ok-listed.ensures.stands c.in_ok-push.ensures.items

pub returns-clause-stands : goal.returns-clause-stands
returns-clause-stands c = listings_last c.loop-id.invariant c.loop-id-test.false

use Rattle.vcc_upgrade.proofs.Written.{at_start, at_next, at_end}
use Rattle.vcc_upgrade.proofs.blocks.new_blocks.Goals as goal

pub loop-place-init : goal.loop-place-init
loop-place-init c = at_start c.args.lemmas.now c.args.trees.now c.args.blocks.now c.new-new.result.items c.new-new.ensures.items

pub loop-place-preserved : goal.loop-place-preserved
loop-place-preserved c =
    at_next c.args.lemmas.now c.args.trees.now c.args.blocks.now c.loop-place.new.items c.push.new.self.items c.loop-place.place c.index-blocks-place.result c.in_ok-one.one c.trees_at.result
    c.loop-place-test.true c.index-blocks-place.is c.trees_at.ensures.some c.trees_at.ensures.none c.in_ok-one.ensures c.in_ok-push.ensures.items c.loop-place.invariant

pub returns : goal.returns
returns c = at_end c.args.lemmas.now c.args.trees.now c.args.blocks.now c.loop-place.new.items c.loop-place.place c.loop-place-test.false c.loop-place.invariant

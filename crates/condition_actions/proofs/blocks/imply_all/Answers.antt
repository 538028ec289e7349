use Rattle.std.proofs.Common.{refl, ◌≡◌, ◌+◌, ◌-◌, arith}
use Rattle.condition_actions.proofs.BlockEnds.{guards_none, guards_one, guards_all}
use Rattle.condition_actions.proofs.blocks.imply_all.Goals as goal

pub loop-i-init : goal.loop-i-init
loop-i-init c = guards_none _ _ _ _ refl

pub loop-i-preserved : goal.loop-i-preserved
loop-i-preserved c =
    let next : c.loop-i.i - 1 + 1 ≡ c.loop-i.i = omega arith in
    guards_one c.args.graph.now c.loop-i.graph c.imp.new.graph c.args.guards.now c.args.formula c.loop-i.i (c.loop-i.i - 1) c.loop-i.whole c.in_ok-whole.whole c.loop-i.invariant next c.in_ok-whole.ensures.later c.in_ok-whole.ensures.stands

pub returns-clause-stands : goal.returns-clause-stands
returns-clause-stands c =
    let first : c.loop-i.i ≡ 0 = omega arith in
    guards_all c.loop-i.invariant first

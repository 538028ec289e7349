use Rattle.std.proofs.Common.{arith}
use Rattle.upgrade_blocks.proofs.Numbers.{naturals_first, naturals_next, naturals_stop, naturals_end}
use Rattle.upgrade_blocks.proofs.arguments.naturals.Goals as goal

pub loop-i-init : goal.loop-i-init
loop-i-init c = naturals_first c.args.numbers.now _ c.new-all.ensures.items

pub returns-in_default : goal.returns-in_default
returns-in_default c = naturals_stop c.args.numbers.now c.loop-i.i c.loop-i.all.items _ c.in_default.ensures c.new.ensures.items c.loop-i.invariant

pub loop-i-preserved : goal.loop-i-preserved
loop-i-preserved c = naturals_next c.args.numbers.now c.loop-i.i c.in-Some.number c.loop-i.all.items _ c.in-Some.ensures c.in_ok-push.ensures.items c.loop-i.invariant

pub returns : goal.returns
returns c = naturals_end c.args.numbers.now c.loop-i.i c.loop-i.all.items (omega (arith, c.loop-i-test.false)) c.loop-i.invariant

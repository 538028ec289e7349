use Rattle.std.proofs.Common.{arith}
use Rattle.upgrade_blocks.proofs.Numbers.{names_first, names_next, names_stop, names_end}
use Rattle.upgrade_blocks.proofs.arguments.all_named.Goals as goal

pub loop-i-init : goal.loop-i-init
loop-i-init c = names_first c.args.names.now c.args.numbers.now _ c.new-nodes.ensures.items

pub returns-in_default : goal.returns-in_default
returns-in_default c = names_stop c.args.names.now c.args.numbers.now c.loop-i.i c.number_at.result c.loop-i.nodes.items _ c.number_at.ensures c.in_default.ensures c.new.ensures.items c.loop-i.invariant

pub loop-i-preserved : goal.loop-i-preserved
loop-i-preserved c = names_next c.args.names.now c.args.numbers.now c.loop-i.i c.number_at.result c.in-Some.node c.loop-i.nodes.items _ c.number_at.ensures c.in-Some.ensures c.in_ok-push.ensures.items c.loop-i.invariant

pub returns : goal.returns
returns c = names_end c.args.names.now c.args.numbers.now c.loop-i.i c.loop-i.nodes.items (omega (arith, c.loop-i-test.false)) c.loop-i.invariant

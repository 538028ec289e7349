use Rattle.std.proofs.Common.{arith}
use Rattle.upgrade_blocks.proofs.Numbers.{marks_first, marks_next, marks_over, numbers_over}
use Rattle.upgrade_blocks.proofs.arguments.term_numbers.Goals as goal

pub loop-i-init : goal.loop-i-init
loop-i-init c = marks_first c.args.marks.now c.args.args.now _ c.new-numbers.ensures.items

pub returns-then-i-args : goal.returns-then-i-args
returns-then-i-args c = numbers_over c.args.marks.now c.args.args.now c.loop-i.i c.loop-i.numbers.items (omega (arith, c.if-i-args.true)) c.loop-i.invariant

pub loop-i-preserved : goal.loop-i-preserved
loop-i-preserved c = marks_next c.args.marks.now c.args.args.now c.loop-i.i c.mark_at.result c.number_at.result c.loop-i.numbers.items _ c.mark_at.ensures c.number_at.ensures c.in_ok-add_marked.ensures c.loop-i.invariant

pub returns : goal.returns
returns c = marks_over c.args.marks.now c.args.args.now c.loop-i.i c.loop-i.numbers.items (omega (arith, c.loop-i-test.false)) c.loop-i.invariant

use Rattle.std.proofs.Common.{arith}
use Rattle.upgrade_blocks.proofs.Counts.{parameters_first, parameters_next, parameters_end}
use Rattle.upgrade_blocks.proofs.arguments.name_terms.Goals as goal

pub loop-i-init : goal.loop-i-init
loop-i-init c = parameters_first c.args.columns.now c.args.parameters.now c.args.args.now c.new-marks.result.items c.new-marks.ensures.items

pub loop-i-preserved : goal.loop-i-preserved
loop-i-preserved c = parameters_next c.args.columns.now c.args.parameters.now c.args.args.now c.loop-i.i c.parameter_at.result c.loop-i.marks.items c.mark_one.new.marks.items c.parameter_at.ensures c.in_ok-mark_one.ensures c.loop-i.invariant

pub returns : goal.returns
returns c = parameters_end c.args.columns.now c.args.parameters.now c.args.args.now c.loop-i.i c.loop-i.marks.items (omega (arith, c.loop-i-test.false)) c.loop-i.invariant

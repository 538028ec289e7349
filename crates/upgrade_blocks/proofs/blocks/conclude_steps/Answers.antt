use Rattle.std.proofs.Common.{arith, ◌++◌, take}
use Rattle.condition_formulas.proofs.Rows.{all_later}
use Rattle.block_layout.proofs.Spaces.{keeps_itself, keeps_then, stays_itself, stays_then}
use Rattle.certificate_upgrade.specs.Conclusions.{steps_conclusions}
use Rattle.upgrade_blocks.proofs.Held.{later_then, held_first, held_next, held_end, marked_first, marked_next, marked_end}
use Rattle.upgrade_blocks.proofs.blocks.conclude_steps.Goals as goal

pub loop-i-init : goal.loop-i-init
loop-i-init c = record {
  kept = keeps_itself;
  sorted = stays_itself;
  later = λ n f s. s;
  list = λ m trees cs t s all are. held_first m trees c.args.steps.now c.args.held.now cs are;
  marks = λ m trees t s all. marked_first m trees c.args.steps.now c.args.held.now.graph _ c.new-marks.ensures.items;
}

pub returns-in_err-mark-clause-later : goal.returns-in_err-mark-clause-later
returns-in_err-mark-clause-later c = later_then c.args.held.now.graph c.loop-i.held.graph c.conclude_step.new.held.graph c.loop-i.invariant.later c.conclude_step.ensures.later

pub returns-in_err-push-clause-later : goal.returns-in_err-push-clause-later
returns-in_err-push-clause-later c = later_then c.args.held.now.graph c.loop-i.held.graph c.conclude_step.new.held.graph c.loop-i.invariant.later c.conclude_step.ensures.later

pub loop-i-preserved : goal.loop-i-preserved
loop-i-preserved c = record {
  kept = keeps_then c.loop-i.invariant.kept c.conclude_step.ensures.kept;
  sorted = stays_then c.loop-i.invariant.sorted c.in_ok-mark.ensures.sorted;
  later = later_then c.args.held.now.graph c.loop-i.held.graph c.conclude_step.new.held.graph c.loop-i.invariant.later c.conclude_step.ensures.later;
  list = λ m trees cs t s all are.
      held_next m trees c.args.steps.now c.loop-i.i c.step_at.result.now c.conclude_step.new.held cs c.step_at.ensures
      (c.in_ok-mark.ensures.list m trees (cs ++ steps_conclusions m trees (take c.loop-i.i c.args.steps.now)) t (c.loop-i.invariant.sorted.sorted m t.language s) (all_later c.loop-i.invariant.kept.later all) (c.loop-i.invariant.list m trees cs t s all are));
  marks = λ m trees t s all.
      marked_next m trees c.args.steps.now c.loop-i.i c.step_at.result.now c.loop-i.held.graph c.conclude_step.new.held.graph c.loop-i.marks.items c.push.new.self.items c.in_ok-mark.mark c.step_at.ensures c.conclude_step.ensures.later
      (c.in_ok-mark.ensures.mark m trees t (c.loop-i.invariant.sorted.sorted m t.language s) (all_later c.loop-i.invariant.kept.later all)) c.in_ok-push.ensures.items (c.loop-i.invariant.marks m trees t s all);
}

pub returns-clause-list : goal.returns-clause-list
returns-clause-list c = λ m trees cs t s all are. held_end m trees c.args.steps.now c.loop-i.i c.loop-i.held cs (omega (arith, c.loop-i-test.false)) (c.loop-i.invariant.list m trees cs t s all are)

pub returns-clause-marks : goal.returns-clause-marks
returns-clause-marks c = λ m trees t s all. marked_end m trees c.args.steps.now c.loop-i.i c.loop-i.held.graph c.loop-i.marks.items (omega (arith, c.loop-i-test.false)) (c.loop-i.invariant.marks m trees t s all)

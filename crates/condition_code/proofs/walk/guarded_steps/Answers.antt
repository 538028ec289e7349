use Rattle.condition_code.proofs.Walks.{guarded_none, guarded_more, guarded_all}
use Rattle.condition_code.proofs.walk.guarded_steps.Goals as goal

pub loop-step-init : goal.loop-step-init
loop-step-init c = guarded_none c.new-guarded.ensures.items

pub loop-step-preserved : goal.loop-step-preserved
loop-step-preserved c =
    guarded_more c.args.graph.now c.loop-step.graph c.guarded_step.new.graph c.args.test c.args.steps.now c.loop-step.guarded.items c.push.new.self.items c.loop-step.step-index _ c.in_ok-one.one c.loop-step.invariant c.loop-step-test.true c.in_ok-one.ensures.later c.in_ok-one.ensures.stands c.in_ok-push.ensures.items

pub returns-clause-stands : goal.returns-clause-stands
returns-clause-stands c = guarded_all c.loop-step.invariant c.loop-step-test.false c.loop-step.auto.step-index-end

pub returns-in_err-one-clause-later : goal.returns-in_err-one-clause-later
returns-in_err-one-clause-later c = λ n f h. c.in_err-one.ensures.later n f (c.loop-step.invariant.later n f h)

use Rattle.condition_branches.proofs.Known.{facts_on, facts_end}
use Rattle.condition_branches.proofs.facts.facts_left.Goals as goal

pub loop-step-preserved : goal.loop-step-preserved
loop-step-preserved c =
    facts_on c.args.steps.now c.loop-step.step-index _ c.loop-step.ids.items c.add_fact.new.ids.items _ c.loop-step.depth c.in_ok-deeper.deeper c.loop-step-test.true c.loop-step.invariant c.in_ok-add_fact.ensures c.in_ok-deeper.ensures

pub returns : goal.returns
returns c = facts_end c.args.steps.now c.loop-step.step-index c.loop-step.ids.items _ c.loop-step.depth c.loop-step-test.false c.loop-step.invariant

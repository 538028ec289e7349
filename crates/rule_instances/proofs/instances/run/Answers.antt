use Rattle.std.proofs.Common.{ap, ◌∙◌, arith, ℕ, List, slice_get, length, ◌-◌}
use Rattle.rule_instances.proofs.Reading.{drop_here, drop_end}
use Rattle.rule_instances.proofs.Onward.{block_later, begun, gone, stopped, left_over, arrived}
use Rattle.rule_instances.proofs.instances.run.Goals as goal

pub loop-step-init : goal.loop-step-init
loop-step-init c = record {
  later = λ n f h. h;
  onward = λ m tree is. begun m tree c.args.steps.now c.args.numbers.now (c.new-state.ensures c.args.graph.now);
}

pub loop-step-preserved : goal.loop-step-preserved
loop-step-preserved c = record {
  later = λ n f h. c.in_ok-went.ensures.later n f (c.loop-step.invariant.later n f h);
  onward = λ m tree is.
      let o = c.loop-step.invariant.onward m tree is in
      gone o (drop_here c.args.steps.now c.loop-step.step-index _ c.loop-step-test.true) (c.in_ok-went.ensures.went m tree o.state (block_later c.loop-step.invariant.later is) o.matches) c.if-not-went.false;
}

pub returns-then-not-went-clause-exact : goal.returns-then-not-went-clause-exact
returns-then-not-went-clause-exact c = λ m tree is.
    let o = c.loop-step.invariant.onward m tree is in
    record { is = stopped _ _ _ o (drop_here c.args.steps.now c.loop-step.step-index _ c.loop-step-test.true) (c.in_ok-went.ensures.went m tree o.state (block_later c.loop-step.invariant.later is) o.matches) c.if-not-went.true }

pub returns-then-len-gt0-clause-exact : goal.returns-then-len-gt0-clause-exact
returns-then-len-gt0-clause-exact c = λ m tree is. record { is = left_over (c.loop-step.invariant.onward m tree is) (drop_end c.args.steps.now c.loop-step.step-index c.loop-step-test.false) (omega arith) }

pub returns-clause-exact : goal.returns-clause-exact
returns-clause-exact c = λ m tree is. arrived (c.loop-step.invariant.onward m tree is) (drop_end c.args.steps.now c.loop-step.step-index c.loop-step-test.false) (λ more. omega (arith, more)) (c.last.ensures ∙ ap (λ (xs : List ℕ). slice_get xs (length xs - 1)) c.deref.ensures.value)

use Rattle.condition_code.proofs.Emitters.{no_step, leaves_on, gives_first, none_left, is_none}
use Rattle.condition_code.proofs.emitter.Emitter.next.Goals as goal

pub loop-self-init : goal.loop-self-init
loop-self-init c = no_step _ _ _

pub returns-in-Some-clause-next : goal.returns-in-Some-clause-next
returns-in-Some-clause-next c = λ fs h.
    gives_first _ c.in-Some.is c.loop-self-test.true c.in_ok-condition.ensures.at c.in_ok-condition.ensures.later c.in_ok-condition.ensures.passes (c.loop-self.invariant.holds fs h)

pub loop-self-preserved : goal.loop-self-preserved
loop-self-preserved c = record {
  later = λ n f h. c.in_ok-condition.ensures.later n f (c.loop-self.invariant.later n f h);
  holds = λ fs h. leaves_on _ (is_none _ c.in_default.not-Some) c.loop-self-test.true c.in_ok-condition.ensures.at c.in_ok-condition.ensures.later c.in_ok-condition.ensures.passes (c.loop-self.invariant.holds fs h);
}

pub returns-clause-next : goal.returns-clause-next
returns-clause-next c = λ fs h. none_left c.loop-self-test.false (c.loop-self.invariant.holds fs h)

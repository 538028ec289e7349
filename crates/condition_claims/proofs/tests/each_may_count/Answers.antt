use Rattle.condition_code.proofs.States.{spot_later}
use Rattle.condition_claims.proofs.Each.{of_none, of_formula, of_all}
use Rattle.condition_claims.proofs.tests.each_may_count.Goals as goal

pub loop-o-init : goal.loop-o-init
loop-o-init c = of_none c.new-all.ensures.items

pub loop-o-preserved : goal.loop-o-preserved
loop-o-preserved c =
    let on = c.loop-o.invariant.later in
    of_formula c.loop-o.invariant c.loop-o-test.true c.in_ok-allowed.ensures.later (λ s o known is. c.in_ok-allowed.ensures.stands s.0 s.1 o (spot_later on known.0) (on _ _ known.1) (on _ _ is)) c.in_ok-push.ensures.items

pub returns-clause-stands : goal.returns-clause-stands
returns-clause-stands c = λ b h os hb hh all. of_all c.loop-o.invariant c.loop-o-test.false (b, h) os (hb, hh) all

use Rattle.condition_claims.proofs.Each.{of_none, of_formula, of_all}
use Rattle.condition_claims.proofs.tests.each_inv.Goals as goal

pub loop-o-init : goal.loop-o-init
loop-o-init c = of_none c.new-all.ensures.items

pub loop-o-preserved : goal.loop-o-preserved
loop-o-preserved c =
    let on = c.loop-o.invariant.later in
    of_formula c.loop-o.invariant c.loop-o-test.true c.in_ok-kept.ensures.later (λ s o known is. c.in_ok-kept.ensures.stands o s.0 s.1 (on _ _ is) (on _ _ known.0) (on _ _ known.1)) c.in_ok-push.ensures.items

pub returns-clause-stands : goal.returns-clause-stands
returns-clause-stands c = λ os h0 h1 all hb ha. of_all c.loop-o.invariant c.loop-o-test.false (h0, h1) os (hb, ha) all

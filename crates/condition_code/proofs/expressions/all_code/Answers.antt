use Rattle.condition_code.proofs.Codes.{no_code, one_code, every_code}
use Rattle.condition_code.proofs.expressions.all_code.Goals as goal

pub loop-e-init : goal.loop-e-init
loop-e-init c = no_code c.new-terms.ensures.items

pub loop-e-preserved : goal.loop-e-preserved
loop-e-preserved c = one_code _ c.e-item.is c.loop-e.invariant c.loop-e-test.true c.in_ok-v.ensures c.in_ok-id.ensures.later c.in_ok-id.ensures.stands c.in_ok-push.ensures.items

pub returns : goal.returns
returns c = every_code c.loop-e.invariant c.loop-e-test.false

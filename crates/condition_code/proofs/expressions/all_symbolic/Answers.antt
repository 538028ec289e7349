use Rattle.condition_code.proofs.Codes.{no_value, one_value, every_value}
use Rattle.condition_code.proofs.expressions.all_symbolic.Goals as goal

pub loop-e-init : goal.loop-e-init
loop-e-init c = no_value c.new-values.ensures.items

pub loop-e-preserved : goal.loop-e-preserved
loop-e-preserved c = one_value _ c.e-item.is c.loop-e.invariant c.loop-e-test.true c.in_ok-v.ensures c.in_ok-push.ensures.items

pub returns : goal.returns
returns c = every_value c.loop-e.invariant c.loop-e-test.false

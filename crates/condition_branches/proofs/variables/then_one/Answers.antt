use Rattle.std.specs.Prelude.{IfOk}
use Rattle.conditions.specs.Actions.{Merge}
use Rattle.condition_branches.specs.Joins.{IsJoined, then_one}
use Rattle.condition_branches.proofs.Joining.{by_keeps, by_differs}
use Rattle.condition_branches.proofs.variables.then_one.Goals as goal

pub returns-in-Keeps-clause-stands : goal.returns-in-Keeps-clause-stands
returns-in-Keeps-clause-stands c = λ j m hj hm.
    by_keeps (λ (n : Merge). IfOk c.then_keeps.result (λ r. IsJoined c.args.graph.now r (then_one j n))) c.in-Keeps.is (λ w hw. c.then_keeps.ensures _ j w hj hw) m hm

pub returns-in-Differs-clause-stands : goal.returns-in-Differs-clause-stands
returns-in-Differs-clause-stands c = λ j m hj hm.
    by_differs (λ (n : Merge). IfOk c.then_differs.result (λ r. IsJoined c.then_differs.new.graph r (then_one j n))) c.in-Differs.is (λ x y hx hy. c.then_differs.ensures.stands j x y hj hx hy) m hm

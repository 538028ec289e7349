use Rattle.std.specs.Prelude.{IfOk}
use Rattle.std.proofs.Common.{sym, subst}
use Rattle.method.specs.declared.program.RightSide.{RightSide}
use Rattle.conditions.specs.Actions.{right_side}
use Rattle.condition_code.specs.States.{IsValueAndState}
use Rattle.condition_code.specs.Walks.{Ran}
use Rattle.condition_actions.proofs.simple.right_side.Goals as goal

pub returns-in-Interlocked : goal.returns-in-Interlocked
returns-in-Interlocked c = λ b q s hb hq hs.
    subst (λ (j : RightSide). IfOk c.interlock.result (λ r. Ran IsValueAndState c.args.walk.now c.interlock.new.walk r (right_side c.args.a.now.program.now b j q s))) (sym c.in-Interlocked.is) (c.interlock.ensures b s hb hs)

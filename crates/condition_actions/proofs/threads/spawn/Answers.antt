use Rattle.std.specs.Prelude.{Option, IfOk}
use Rattle.std.proofs.Common.{sym, subst}
use Rattle.method.specs.declared.program.FunctionInfo.{FunctionInfo}
use Rattle.conditions.specs.Actions.{spawn}
use Rattle.condition_code.specs.States.{IsState}
use Rattle.condition_code.specs.Walks.{Ran}
use Rattle.condition_code.proofs.Walks.{gives}
use Rattle.condition_actions.proofs.threads.spawn.Goals as goal

pub returns-in-Some : goal.returns-in-Some
returns-in-Some c = λ b ws s hb hw hs.
    subst (λ (o : Option FunctionInfo). IfOk c.spawn_function.result (λ r. Ran IsState c.args.walk.now c.spawn_function.new.walk r (spawn c.args.a.now.program.now b o ws s))) (sym c.in-Some.ensures.some) (c.spawn_function.ensures b ws s hb hw hs)

pub returns-in-None : goal.returns-in-None
returns-in-None c = λ b ws s hb hw hs.
    subst (λ (o : Option FunctionInfo). Ran IsState c.args.walk.now c.args.walk.now c.args.st (spawn c.args.a.now.program.now b o ws s)) (sym c.in-None.ensures.none) (gives (λ n f h. h) hs)

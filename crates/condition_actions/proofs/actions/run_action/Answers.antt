use Rattle.std.specs.Prelude.{List, IfOk}
use Rattle.std.proofs.Common.{sym, subst}
use Rattle.method.specs.declared.program.Expr.{Expr}
use Rattle.method.specs.declared.program.Inner.{Inner}
use Rattle.method.specs.declared.program.Listed.{Listed}
use Rattle.method.specs.declared.program.Action.{Action}
use Rattle.conditions.specs.Actions.{run_action, atomic}
use Rattle.condition_code.specs.States.{IsState}
use Rattle.condition_code.specs.Walks.{Ran}
use Rattle.condition_actions.specs.Threads.{spawned}
use Rattle.condition_actions.proofs.actions.run_action.Goals as goal

pub returns-in-Declare : goal.returns-in-Declare
returns-in-Declare c = λ b s hb hs.
    subst (λ (j : Action). IfOk c.declare.result (λ r. Ran IsState c.args.walk.now c.declare.new.walk r (run_action c.args.a.now.program.now b c.args.f.now j s))) (sym c.in-Declare.is) (c.declare.ensures b s hb hs)

pub returns-in-Define : goal.returns-in-Define
returns-in-Define c = λ b s hb hs.
    subst (λ (j : Action). IfOk c.define.result (λ r. Ran IsState c.args.walk.now c.define.new.walk r (run_action c.args.a.now.program.now b c.args.f.now j s))) (sym c.in-Define.is) (c.define.ensures b s hb hs)

pub returns-in-WrapObject : goal.returns-in-WrapObject
returns-in-WrapObject c = λ b s hb hs.
    subst (λ (j : Action). IfOk c.wrap.result (λ r. Ran IsState c.args.walk.now c.wrap.new.walk r (run_action c.args.a.now.program.now b c.args.f.now j s))) (sym c.in-WrapObject.is) (c.wrap.ensures b s hb hs)

pub returns-in-UnwrapObject : goal.returns-in-UnwrapObject
returns-in-UnwrapObject c = λ b s hb hs.
    subst (λ (j : Action). IfOk c.unwrap.result (λ r. Ran IsState c.args.walk.now c.unwrap.new.walk r (run_action c.args.a.now.program.now b c.args.f.now j s))) (sym c.in-UnwrapObject.is) (c.unwrap.ensures b s hb hs)

pub returns-in-AssertSpec : goal.returns-in-AssertSpec
returns-in-AssertSpec c = λ b s hb hs.
    subst (λ (j : Action). IfOk c.assert_spec.result (λ r. Ran IsState c.args.walk.now c.assert_spec.new.walk r (run_action c.args.a.now.program.now b c.args.f.now j s))) (sym c.in-AssertSpec.is) (c.assert_spec.ensures b s hb hs)

pub returns-in-FreeObject : goal.returns-in-FreeObject
returns-in-FreeObject c = λ b s hb hs.
    subst (λ (j : Action). IfOk c.free.result (λ r. Ran IsState c.args.walk.now c.free.new.walk r (run_action c.args.a.now.program.now b c.args.f.now j s))) (sym c.in-FreeObject.is) (c.free.ensures b s hb hs)

pub returns-in-SpawnThread : goal.returns-in-SpawnThread
returns-in-SpawnThread c = λ b s hb hs.
    let p = c.args.a.now.program.now in
    let i = c.in-SpawnThread in
    subst (λ (j : Action). IfOk c.spawn_thread.result (λ r. Ran IsState c.args.walk.now c.spawn_thread.new.walk r (run_action p b c.args.f.now j s))) (sym i.is)
    (subst (λ (es : List Expr). IfOk c.spawn_thread.result (λ r. Ran IsState c.args.walk.now c.spawn_thread.new.walk r (spawned p b i.number es s))) c.deref.ensures.value (c.spawn_thread.ensures b s hb hs))

pub returns-in-Atomic : goal.returns-in-Atomic
returns-in-Atomic c = λ b s hb hs.
    let p = c.args.a.now.program.now in
    let i = c.in-Atomic in
    subst (λ (j : Action). IfOk c.atomic.result (λ r. Ran IsState c.args.walk.now c.atomic.new.walk r (run_action p b c.args.f.now j s))) (sym i.is)
    (subst (λ (ls : List Listed). IfOk c.atomic.result (λ r. Ran IsState c.args.walk.now c.atomic.new.walk r (atomic p b ls i.body.items s))) c.deref-in-Atomic.ensures.value
    (subst (λ (body : List Inner). IfOk c.atomic.result (λ r. Ran IsState c.args.walk.now c.atomic.new.walk r (atomic p b c.deref-in-Atomic.result.now body s))) c.deref-in-Atomic-2.ensures.value (c.atomic.ensures b s hb hs)))

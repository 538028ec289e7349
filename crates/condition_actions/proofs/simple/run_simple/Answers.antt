use Rattle.std.specs.Prelude.{List, IfOk}
use Rattle.std.proofs.Common.{sym, subst}
use Rattle.method.specs.declared.program.Expr.{Expr}
use Rattle.method.specs.declared.program.Simple.{Simple}
use Rattle.conditions.specs.Actions.{run_simple}
use Rattle.condition_code.specs.States.{IsState}
use Rattle.condition_code.specs.Walks.{Ran}
use Rattle.condition_actions.specs.Operands.{changed_set, ended_claim}
use Rattle.condition_actions.proofs.simple.run_simple.Goals as goal

pub returns-in-Assign : goal.returns-in-Assign
returns-in-Assign c = λ b s hb hs.
    subst (λ (j : Simple). IfOk c.assign.result (λ r. Ran IsState c.args.walk.now c.assign.new.walk r (run_simple c.args.a.now.program.now b j s))) (sym c.in-Assign.is) (c.assign.ensures b s hb hs)

pub returns-in-ChangeOwned : goal.returns-in-ChangeOwned
returns-in-ChangeOwned c = λ b s hb hs.
    let p = c.args.a.now.program.now in
    let i = c.in-ChangeOwned in
    subst (λ (j : Simple). IfOk c.change_owned.result (λ r. Ran IsState c.args.walk.now c.change_owned.new.walk r (run_simple p b j s))) (sym i.is)
    (subst (λ (es : List Expr). IfOk c.change_owned.result (λ r. Ran IsState c.args.walk.now c.change_owned.new.walk r (changed_set p b i.change i.object es s))) c.deref.ensures.value (c.change_owned.ensures b s hb hs))

pub returns-in-EndClaim : goal.returns-in-EndClaim
returns-in-EndClaim c = λ b s hb hs.
    let p = c.args.a.now.program.now in
    let i = c.in-EndClaim in
    subst (λ (j : Simple). IfOk c.destroy_claim.result (λ r. Ran IsState c.args.walk.now c.destroy_claim.new.walk r (run_simple p b j s))) (sym i.is)
    (subst (λ (es : List Expr). IfOk c.destroy_claim.result (λ r. Ran IsState c.args.walk.now c.destroy_claim.new.walk r (ended_claim p b i.number i.claim es s))) c.deref-in-EndClaim.ensures.value (c.destroy_claim.ensures b s hb hs))

use Rattle.std.specs.Prelude.{Option, IfOk}
use Rattle.std.proofs.Common.{sym, subst}
use Rattle.method.specs.declared.program.ClaimSite.{ClaimSite}
use Rattle.conditions.specs.Actions as actions
use Rattle.condition_code.specs.States.{IsValueAndState}
use Rattle.condition_code.specs.Walks.{Ran}
use Rattle.condition_claims.proofs.claims.make_claim.Goals as goal

pub returns-in-Some : goal.returns-in-Some
returns-in-Some c = λ b q s hb hq hs.
    subst (λ (o : Option ClaimSite). IfOk c.make_claim_at.result (λ r. Ran IsValueAndState c.args.walk.now c.make_claim_at.new.walk r (actions.make_claim c.args.a.now.program.now b o q s))) (sym c.in-Some.ensures.some) (c.make_claim_at.ensures b q s hb hq hs)

pub returns-in-None : goal.returns-in-None
returns-in-None c = λ b q s hb hq hs.
    subst (λ (o : Option ClaimSite). IfOk c.no_claim.result (λ r. Ran IsValueAndState c.args.walk.now c.no_claim.new.walk r (actions.make_claim c.args.a.now.program.now b o q s))) (sym c.in-None.ensures.none) (c.no_claim.ensures b q s hs)

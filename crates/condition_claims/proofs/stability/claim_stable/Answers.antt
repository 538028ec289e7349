use Rattle.std.specs.Prelude.{Option, IfOk}
use Rattle.std.proofs.Common.{sym, subst}
use Rattle.method.specs.declared.program.FunctionInfo.{FunctionInfo}
use Rattle.conditions.specs.Admissible.{claim_stable}
use Rattle.condition_claims.specs.Drafts.{Adds}
use Rattle.condition_claims.proofs.stability.claim_stable.Goals as goal

pub returns-in-Some : goal.returns-in-Some
returns-in-Some c =
    subst (λ (o : Option FunctionInfo). IfOk c.claim_stable_in.result (λ id. Adds c.args.walk.now c.claim_stable_in.new.walk id (claim_stable c.args.program.now c.args.site.now o))) (sym c.in-Some.ensures.some) c.claim_stable_in.ensures

pub returns-in-None : goal.returns-in-None
returns-in-None c =
    subst (λ (o : Option FunctionInfo). IfOk c.never.result (λ id. Adds c.args.walk.now c.never.new.walk id (claim_stable c.args.program.now c.args.site.now o))) (sym c.in-None.ensures.none) c.never.ensures

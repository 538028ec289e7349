use Rattle.std.specs.Prelude.{◌≡◌, []}
use Rattle.std.proofs.Common.{sym, ◌∙◌}
use Rattle.std.proofs.lemmas.List.{nil_from_length}
use Rattle.condition_branches.proofs.Guarding.{claims_none, claims_more, claims_all}
use Rattle.condition_branches.proofs.deferred.add_made.Goals as goal

pub loop-claim-init : goal.loop-claim-init
loop-claim-init c = claims_none c.into_iter-claim-iterator.ensures.into_iter_gives.0

pub loop-claim-preserved : goal.loop-claim-preserved
loop-claim-preserved c = claims_more c.loop-claim.invariant c.in-Some.ensures.steps.0 c.in_ok-guarded.ensures c.in_ok-push.ensures.items

pub returns : goal.returns
returns c =
    let none : c.loop-claim.claim-iterator.rest.items ≡ [] = nil_from_length c.loop-claim.claim-iterator.rest.items (sym c.loop-claim.claim-iterator.rest.ok.0 ∙ c.in-None.ensures.steps.0) in
    claims_all c.loop-claim.invariant none

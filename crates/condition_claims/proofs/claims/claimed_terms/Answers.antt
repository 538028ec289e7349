use Rattle.condition_claims.proofs.Onward.{no_claimed, one_claimed, every_claimed}
use Rattle.condition_claims.proofs.claims.claimed_terms.Goals as goal

pub loop-claimed-init : goal.loop-claimed-init
loop-claimed-init c = no_claimed c.new-objects.ensures.items

pub loop-claimed-preserved : goal.loop-claimed-preserved
loop-claimed-preserved c = one_claimed _ c.claimed-item.is c.loop-claimed.invariant c.loop-claimed-test.true c.in_ok-o.ensures c.in_ok-push.ensures.items

pub returns : goal.returns
returns c = every_claimed c.loop-claimed.invariant c.loop-claimed-test.false

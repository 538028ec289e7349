use Rattle.std.proofs.Common.{refl}
use Rattle.condition_claims.proofs.Noted.{defers_none, defers_next, defers_all}
use Rattle.condition_claims.proofs.claims.defer.Goals as goal

pub loop-o-init : goal.loop-o-init
loop-o-init c = defers_none

pub loop-o-preserved : goal.loop-o-preserved
loop-o-preserved c = defers_next _ c.loop-o.invariant c.loop-o-test.true c.new.ensures.items refl c.in_ok-push.ensures.items

pub returns : goal.returns
returns c = defers_all c.loop-o.invariant c.loop-o-test.false

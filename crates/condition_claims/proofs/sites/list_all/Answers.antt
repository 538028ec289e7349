use Rattle.std.proofs.Common.{refl}
use Rattle.condition_claims.specs.Pieces.{one_listed}
use Rattle.condition_claims.proofs.Onward.{all_listed_law, onward_none, onward_next, onward_last}
use Rattle.condition_claims.proofs.sites.list_all.Goals as goal

pub loop-claimed-init : goal.loop-claimed-init
loop-claimed-init c = onward_none

pub loop-claimed-preserved : goal.loop-claimed-preserved
loop-claimed-preserved c = onward_next one_listed c.loop-claimed.invariant all_listed_law _ c.claimed-item.result c.claimed-item.is c.loop-claimed-test.true c.in_ok-state.ensures

pub returns : goal.returns
returns c = onward_last c.loop-claimed.invariant (λ s. refl) c.loop-claimed-test.false

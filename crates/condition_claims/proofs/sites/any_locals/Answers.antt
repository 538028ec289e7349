use Rattle.std.proofs.Common.{refl, get_or}
use Rattle.condition_claims.specs.Pieces.{any_local}
use Rattle.condition_claims.proofs.Onward.{any_locals_law, onward_none, onward_next, onward_last}
use Rattle.condition_claims.proofs.sites.any_locals.Goals as goal

pub loop-i-init : goal.loop-i-init
loop-i-init c = onward_none

pub loop-i-preserved : goal.loop-i-preserved
loop-i-preserved c = onward_next (any_local c.args.f.now) c.loop-i.invariant (any_locals_law c.args.f.now) 0 (get_or c.args.variables.now c.loop-i.i-index 0) refl c.loop-i-test.true c.in_ok-state.ensures

pub returns : goal.returns
returns c = onward_last c.loop-i.invariant (λ s. refl) c.loop-i-test.false

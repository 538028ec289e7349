use Rattle.std.proofs.lemmas.Result.{err_from_is_err_and}
use Rattle.machine_values.specs.Spots.{spot_at}
use Rattle.machine_values.proofs.Outcomes.{joined_nothing}
use Rattle.machine_objects.specs.Runs.{progress_at}
use Rattle.machine_claims.proofs.Listing.{all_next, all_stops, all_end}
use Rattle.machine_claims.proofs.making.claimed_objects.Goals as goal

pub loop-one-init : goal.loop-one-init
loop-one-init c n y e finite = (n, joined_nothing _ _ c.new-objects.ensures.items)

pub loop-one-preserved : goal.loop-one-preserved
loop-one-preserved c n y e finite =
    let a = c.args in
    all_next a.at.now.program.now (spot_at y a.at.now) (progress_at e a.progress.now) a.claimed.now n c.loop-one.objects.items c.loop-one.one-index (c.loop-one.invariant n y e finite) c.one-item.result c.loop-one-test.true c.one-item.is c.in_ok-claimed_object.field-0 c.push.new.self.items (λ k. c.in_ok-claimed_object.ensures k y e finite) c.in_ok-push.ensures.items

pub returns-in_err-claimed_object : goal.returns-in_err-claimed_object
returns-in_err-claimed_object c n y e finite =
    let a = c.args in
    let p = err_from_is_err_and c.from_residual.result c.from_residual.ensures.1 in
    rw (p.1, p.2) (all_stops a.at.now.program.now (spot_at y a.at.now) (progress_at e a.progress.now) a.claimed.now n c.loop-one.objects.items c.loop-one.one-index (c.loop-one.invariant n y e finite) c.one-item.result c.loop-one-test.true c.one-item.is c.in_err-claimed_object.field-0.0 (λ k. c.in_err-claimed_object.ensures k y e finite))

pub returns : goal.returns
returns c n y e finite =
    let a = c.args in
    all_end a.at.now.program.now (spot_at y a.at.now) (progress_at e a.progress.now) a.claimed.now n c.loop-one.objects.items c.loop-one.one-index (c.loop-one.invariant n y e finite) c.loop-one-test.false

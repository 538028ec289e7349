use Rattle.std.proofs.lemmas.Result.{err_from_is_err_and}
use Rattle.machine_values.specs.Spots.{spot_at}
use Rattle.machine_ownership.proofs.Changing.{onward_start, onward_next, onward_stops, onward_end}
use Rattle.machine_ownership.proofs.owned.change_members.Goals as goal

pub loop-v-init : goal.loop-v-init
loop-v-init c y = let a = c.args in onward_start a.at.now.program.now (spot_at y a.at.now) a.change a.o a.values.now a.progress.now

pub loop-v-preserved : goal.loop-v-preserved
loop-v-preserved c y =
    let a = c.args in
    onward_next a.at.now.program.now (spot_at y a.at.now) a.change a.o a.values.now c.loop-v.v-index _ c.loop-v-test.true a.progress.now c.loop-v.progress _ (c.loop-v.invariant y) c.referent.result c.referent.ensures (λ k d finite. c.in_ok-change_member.ensures k y d finite)

pub returns-in_err-change_member : goal.returns-in_err-change_member
returns-in_err-change_member c n y e finite =
    let a = c.args in
    let p = err_from_is_err_and c.from_residual.result c.from_residual.ensures.1 in
    rw (p.1, p.2) (onward_stops a.at.now.program.now (spot_at y a.at.now) a.change a.o a.values.now c.loop-v.v-index _ c.loop-v-test.true a.progress.now c.loop-v.progress c.loop-v.progress (c.loop-v.invariant y) c.referent.result c.referent.ensures c.in_err-change_member.field-0.0 (λ k d fin. c.in_err-change_member.ensures k y d fin) n e finite)

pub returns : goal.returns
returns c n y e finite =
    let a = c.args in
    onward_end a.at.now.program.now (spot_at y a.at.now) a.change a.o a.values.now c.loop-v.v-index a.progress.now c.loop-v.progress (c.loop-v.invariant y) c.loop-v-test.false n e finite

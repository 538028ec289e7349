use Rattle.std.proofs.Common.{sym, subst}
use Rattle.method.specs.Actions as m
use Rattle.machine_values.specs.Spots.{spot_at}
use Rattle.machine_objects.specs.Runs.{progress_at, place_of, RunsToOr}
use Rattle.machine_claims.specs.RunsOut.{MakingRunsOut}
use Rattle.machine_claims.proofs.interlocked.right_side.Goals as goal

pub returns-in-Malloc : goal.returns-in-Malloc
returns-in-Malloc c t n y e finite = rw c.in-Malloc.is (c.malloc.ensures n y e finite)

pub returns-in-Some : goal.returns-in-Some
returns-in-Some c t n y e finite =
    let a = c.args in
    rw c.in-NewClaim.is
    (subst (λ z. RunsToOr (MakingRunsOut a.at.now.program.now (spot_at y a.at.now) z n (progress_at e a.progress.now)) c.make_claim.result c.make_claim.new.progress (m.make_claim a.at.now.program.now (spot_at y a.at.now) z (place_of a.place) n t (progress_at e a.progress.now))) (sym c.in-Some.ensures.some) (c.make_claim.ensures t n y e finite))

use Rattle.method.specs.declared.program.CheckKind.TheVariants.{MakeClaim}
use Rattle.machine_values.specs.Spots.{heap_at, spot_at}
use Rattle.machine_claims.proofs.Claimable.{claims_start, claims_next, claims_fail, claims_end}
use Rattle.machine_claims.proofs.making.check_claimed.Goals as goal

pub loop-i-init : goal.loop-i-init
loop-i-init c x y = let a = c.args in claims_start a.at.now.program.now (spot_at x a.at.now) (heap_at y a.heap.now) MakeClaim a.objects.now

pub loop-i-preserved : goal.loop-i-preserved
loop-i-preserved c x y =
    let a = c.args in
    claims_next a.at.now.program.now (spot_at x a.at.now) (heap_at y a.heap.now) MakeClaim a.objects.now c.loop-i.i (c.loop-i.invariant x y) _ c.may_claim.result c.loop-i-test.true (c.may_claim.ensures x y) c.if-not-may_claim.false

pub returns-then-not-may_claim : goal.returns-then-not-may_claim
returns-then-not-may_claim c x y =
    let a = c.args in
    rw c.fault.ensures (claims_fail a.at.now.program.now (spot_at x a.at.now) (heap_at y a.heap.now) MakeClaim a.objects.now c.loop-i.i (c.loop-i.invariant x y) _ c.may_claim.result c.loop-i-test.true (c.may_claim.ensures x y) c.if-not-may_claim.true)

pub returns : goal.returns
returns c x y = let a = c.args in claims_end a.at.now.program.now (spot_at x a.at.now) (heap_at y a.heap.now) MakeClaim a.objects.now c.loop-i.i (c.loop-i.invariant x y) c.loop-i-test.false

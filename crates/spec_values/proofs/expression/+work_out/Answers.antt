use Rattle.std.proofs.Common.{ap, Bor}
use Rattle.method.specs.declared.program.Program.{Program}
use Rattle.spec_values.specs.Scenes.{scene_at}
use Rattle.spec_values.proofs.Conjuncts.{claims_gives, claims_only_gives, for_all_gives, exists_gives}
use Rattle.spec_values.proofs.expression.+work_out.Goals as goal

pub work_out-returns-in_ok-work_out-in-ClaimsOnly : goal.work_out-returns-in_ok-work_out-in-ClaimsOnly
work_out-returns-in_ok-work_out-in-ClaimsOnly t c =
    let worked = c.in_ok-work_out-in-ClaimsOnly.ensures in
    rw c.in-ClaimsOnly.is
    (claims_only_gives c.args.at.now.program.now (scene_at c.args.at.now) c.in-ClaimsOnly.c c.deref-in-ClaimsOnly.result.now c.in_ok-work_out-in-ClaimsOnly.field-0 c.claims_only.result c.deref-in-ClaimsOnly.ensures worked.0 worked.1
    c.in-ClaimsOnly.field-0 c.in-ClaimsOnly.objects c.deref-in-ClaimsOnly-2.result.now c.listed.result.now c.deref-in-ClaimsOnly-2.ensures.value c.listed.ensures c.claims_only.ensures)

pub work_out-returns-in_ok-work_out-in-Claims : goal.work_out-returns-in_ok-work_out-in-Claims
work_out-returns-in_ok-work_out-in-Claims t c =
    let worked = c.in_ok-work_out-in-Claims.ensures in
    rw c.in-Claims.is
    (claims_gives c.args.at.now.program.now (scene_at c.args.at.now) c.in-Claims.c c.deref-in-Claims.result.now c.in_ok-work_out-in-Claims.field-0 c.all_hold.result c.deref-in-Claims.ensures worked.0 worked.1
    c.in-Claims.conjuncts c.deref-in-Claims-2.result.now c.referent.result c.about.result.program.now (scene_at c.about.result) c.deref-in-Claims-2.ensures.value c.referent.ensures (ap (λ (r : Bor Program). r.now) c.about.ensures.program) c.about.ensures.scene c.all_hold.ensures)

pub work_out-returns-in_ok-work_out-in-ForAll : goal.work_out-returns-in_ok-work_out-in-ForAll
work_out-returns-in_ok-work_out-in-ForAll t c =
    let worked = c.in_ok-work_out-in-ForAll.ensures in
    rw c.in-ForAll.is
    (for_all_gives c.args.at.now.program.now (scene_at c.args.at.now) c.in-ForAll.x c.deref-in-ForAll.result.now c.in_ok-work_out-in-ForAll.field-0 c.for_all.result c.deref-in-ForAll.ensures worked.0 worked.1
    c.in-ForAll.field-0 c.in-ForAll.ty c.in-ForAll.body c.deref-in-ForAll-2.result.now c.owned.result.now c.deref-in-ForAll-2.ensures c.owned.ensures c.for_all.ensures)

pub work_out-returns-in_ok-work_out-in-Exists : goal.work_out-returns-in_ok-work_out-in-Exists
work_out-returns-in_ok-work_out-in-Exists t c =
    let worked = c.in_ok-work_out-in-Exists.ensures in
    rw c.in-Exists.is
    (exists_gives c.args.at.now.program.now (scene_at c.args.at.now) c.in-Exists.x c.deref-in-Exists.result.now c.in_ok-work_out-in-Exists.field-0 c.exists.result c.deref-in-Exists.ensures worked.0 worked.1
    c.in-Exists.field-0 c.in-Exists.ty c.in-Exists.conjuncts c.deref-in-Exists-2.result.now c.owned-in-Exists.result.now c.deref-in-Exists-2.ensures.value c.owned-in-Exists.ensures c.exists.ensures)

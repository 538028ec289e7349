use Rattle.method.specs.Actions.{Progress}
use Rattle.machine_values.specs.Spots.{spot_at}
use Rattle.machine_claims.proofs.Guarding.{objects_inside, objects_guards}
use Rattle.machine_claims.proofs.making.check_objects.Goals as goal

pub returns-then-at : goal.returns-then-at
returns-then-at c n x y z =
    let a = c.args in
    objects_inside Progress a.at.now.program.now (spot_at x a.at.now) a.objects.now a.before.now a.after.now y z n c.if-at.true

pub returns : goal.returns
returns c n x y z =
    let a = c.args in
    objects_guards Progress a.at.now.program.now (spot_at x a.at.now) a.objects.now a.before.now a.after.now y z n c.if-at.false c.check_invariants.result c.check_invariants.ensures

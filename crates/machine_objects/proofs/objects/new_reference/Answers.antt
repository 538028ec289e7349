use Rattle.std.proofs.Common.{◌∙◌, ap, refl}
use Rattle.object_types.specs.Lookups.{look_up}
use Rattle.object_types.proofs.Fresh.{fresh_determined}
use Rattle.machine_values.specs.Spots.{heap_at}
use Rattle.machine_objects.specs.RunsOut.{last_serial, no_vacancy}
use Rattle.machine_objects.proofs.objects.new_reference.Goals as goal

pub returns-clause-fresh : goal.returns-clause-fresh
returns-clause-fresh c y finite =
    let o = c.in-Some.o in
    let f = c.in-Some.ensures.some in
    (λ i. record { ty = f.0 i; serial = o.serial }) ∙ fresh_determined (heap_at y c.args.h.now) c.args.ty o.serial finite f.1

pub returns-in_default-clause-err : goal.returns-in_default-clause-err
returns-in_default-clause-err c y finite = last_serial (c.in_default.ensures.none.0 refl)

pub returns-then-not-is_vacant-clause-err : goal.returns-then-not-is_vacant-clause-err
returns-then-not-is_vacant-clause-err c y finite =
    let o = c.in-Some.o in
    let f = c.in-Some.ensures.some in
    let same = (λ i. record { ty = f.0 i; serial = o.serial }) ∙ fresh_determined (heap_at y c.args.h.now) c.args.ty o.serial finite f.1 in
    no_vacancy (λ nothing_there. c.is_vacant.ensures.occupied c.if-not-is_vacant.true (ap (look_up c.args.h.now) same ∙ nothing_there))

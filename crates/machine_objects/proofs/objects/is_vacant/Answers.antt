use Rattle.std.proofs.Common.{sym, ap, refl, ◌∙◌}
use Rattle.object_types.specs.Fields.{field_in}
use Rattle.object_types.specs.Lookups.{look_up}
use Rattle.object_types.specs.Heap.{Record}
use Rattle.machine_objects.proofs.Vacant.{vacant, none_there, occupied_status, occupied_list, occupied_fields}
use Rattle.machine_objects.proofs.objects.is_vacant.Goals as goal

pub returns-clause-vacant : goal.returns-clause-vacant
returns-clause-vacant c t =
    let r = look_up c.args.h.now c.args.o in
    vacant r (sym c.has_no_status.ensures ∙ c.if-not-has_no_status.false)
    (none_there c.owned.result.now r.owned c.is_empty.result c.is_empty.ensures c.if-not-is_empty.false c.owned.ensures)
    (λ f. c.kept.ensures.fields f ∙ ap (λ ks. field_in ks f) (none_there c.kept.result.now c.kept.result.now c.is_empty-2.result c.is_empty-2.ensures c.if-not-is_empty-2.false refl))
    (none_there c.listed.result.now r.listed c.is_empty-3.result c.is_empty-3.ensures c.if-not-is_empty-3.false c.listed.ensures)
    (none_there c.shapes.result.now r.shapes c.is_empty-4.result c.is_empty-4.ensures c.if-not-is_empty-4.false c.shapes.ensures)

pub returns-then-not-has_no_status-clause-occupied : goal.returns-then-not-has_no_status-clause-occupied
returns-then-not-has_no_status-clause-occupied c t e = occupied_status (look_up c.args.h.now c.args.o) (sym c.has_no_status.ensures ∙ c.if-not-has_no_status.true) e

pub returns-then-not-is_empty-clause-occupied : goal.returns-then-not-is_empty-clause-occupied
returns-then-not-is_empty-clause-occupied c t e =
    occupied_list c.owned.result.now (look_up c.args.h.now c.args.o).owned c.is_empty.result c.is_empty.ensures c.if-not-is_empty.true c.owned.ensures (ap (λ (r : Record). r.owned) e)

pub returns-then-not-is_empty-2-clause-occupied : goal.returns-then-not-is_empty-2-clause-occupied
returns-then-not-is_empty-2-clause-occupied c t e =
    occupied_fields c.kept.result.now c.is_empty-2.result c.is_empty-2.ensures c.if-not-is_empty-2.true (λ f. sym (c.kept.ensures.fields f) ∙ ap (λ (r : Record). r.fields f) e)

pub returns-then-not-is_empty-3-clause-occupied : goal.returns-then-not-is_empty-3-clause-occupied
returns-then-not-is_empty-3-clause-occupied c t e =
    occupied_list c.listed.result.now (look_up c.args.h.now c.args.o).listed c.is_empty-3.result c.is_empty-3.ensures c.if-not-is_empty-3.true c.listed.ensures (ap (λ (r : Record). r.listed) e)

pub returns-then-not-is_empty-4-clause-occupied : goal.returns-then-not-is_empty-4-clause-occupied
returns-then-not-is_empty-4-clause-occupied c t e =
    occupied_list c.shapes.result.now (look_up c.args.h.now c.args.o).shapes c.is_empty-4.result c.is_empty-4.ensures c.if-not-is_empty-4.true c.shapes.ensures (ap (λ (r : Record). r.shapes) e)

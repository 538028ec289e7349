use Rattle.std.proofs.Common.{◌≡◌, true, Some, sym, subst, ap, ◌∙◌}
use Rattle.object_types.specs.declared.fields.Kept.{Kept}
use Rattle.object_types.specs.Places.{is_ordered}
use Rattle.object_types.specs.Fields.{kept_lt}
use Rattle.object_types.proofs.FieldChanges.{field_found, field_absent}
use Rattle.object_types.proofs.fields.Fields.get.Goals as goal

pub returns-in-Ok : goal.returns-in-Ok
returns-in-Ok c =
    ap (λ (k : Kept). Some k.value) c.index.ensures ∙ rw c.self.view_is (sym (field_found c.args.field c.args.self.now c.in-Ok.place c.index.result.now c.in-Ok.ensures.found))

pub returns-in-Err : goal.returns-in-Err
returns-in-Err c =
    let sorted = subst (λ l. is_ordered kept_lt l ≡ true) c.self.view_is c.self.invariant.0 in
    sym (field_absent c.args.field c.args.self.now c.in-Err.field-0 sorted c.in-Err.ensures.absent)

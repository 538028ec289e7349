use Rattle.std.proofs.Common.{sym, ap, ◌∙◌, inl}
use Rattle.std.proofs.lemmas.Result.{err_from_is_err_and}
use Rattle.object_types.specs.Lookups.{look_up, heap_of}
use Rattle.object_types.proofs.Fresh.{fresh_determined, support_covers}
use Rattle.machine_values.specs.Spots.{heap_at}
use Rattle.machine_objects.proofs.Landing.{silent_too}
use Rattle.machine_claims.specs.RunsOut.{LacksClaim}
use Rattle.machine_claims.proofs.Mapping.{ok_kept}
use Rattle.machine_claims.proofs.Lacking.{lacks_claim}
use Rattle.machine_claims.proofs.making.new_claim.Goals as goal

pub add_claim-requires : goal.add_claim-requires
add_claim-requires c =
    let stored = c.args.h.now in
    let h = heap_of stored in
    let told = c.in_ok-new_reference.ensures in
    record { vacant = λ s f. ap (look_up stored) (fresh_determined h 2 s (support_covers stored) f ∙ sym (told.fresh h.support (support_covers stored))) ∙ told.vacant }

pub returns-clause-fresh : goal.returns-clause-fresh
returns-clause-fresh c =
    ok_kept _ _ _
    (λ o f y finite. (λ i. record { ty = f.0 i; serial = o.serial }) ∙ fresh_determined (heap_at y c.args.h.now) 2 o.serial finite f.1)
    c.add_claim.result c.map_err.result c.map_err.ensures.cases c.add_claim.ensures.fresh

pub returns-clause-err : goal.returns-clause-err
returns-clause-err c = lacks_claim c.args.h.now c.args.objects.now c.add_claim.result c.map_err.result c.map_err.ensures.cases c.add_claim.ensures.no_serial.0 c.add_claim.ensures.full

pub returns-in_err-new_reference-clause-err : goal.returns-in_err-new_reference-clause-err
returns-in_err-new_reference-clause-err c =
    let q = err_from_is_err_and c.from_residual.result c.from_residual.ensures.1 in
    rw (q.1, q.2) (silent_too _ (LacksClaim c.args.h.now c.args.objects.now) c.in_err-new_reference.field-0.0 (λ none y finite. inl (none y finite)) c.in_err-new_reference.ensures.err)

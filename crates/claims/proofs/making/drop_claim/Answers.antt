use Rattle.std.proofs.Common.{negsuc, ap, subst, ◌∙◌}
use Rattle.std.proofs.lemmas.Result.{err_from_is_err_and}
use Rattle.object_types.specs.declared.records.Mode.TheVariants.{Freed}
use Rattle.object_types.specs.References.{null}
use Rattle.object_types.specs.Heap.{put_at, with_status}
use Rattle.object_types.specs.Lookups.{look_up, heap_of}
use Rattle.claims.specs.Steps.{Overflows}
use Rattle.claims.proofs.Counting.{counted, overflow_before}
use Rattle.claims.proofs.making.drop_claim.Goals as goal

pub returns-clause-ok : goal.returns-clause-ok
returns-clause-ok c =
    let get = look_up c.args.h.now in
    let o = c.args.c in
    counted (negsuc 0) (get o).listed _ (heap_of c.args.h.now) (heap_of c.set_status.new.self) (heap_of c.count_all.new.h) o (with_status Freed null (look_up c.in_ok-after.after o)) (with_status Freed null (get o)) (c.in_ok-set_status.ensures.ok ∙ ap (λ h. put_at (look_up h) o (with_status Freed null (look_up c.in_ok-after.after o))) c.in_ok-after.ensures) (ap (λ h. with_status Freed null (look_up h o)) c.in_ok-after.ensures) c.in_ok-count_all.ensures.ok c.listed.ensures

pub returns-in_err-count_all-clause-full : goal.returns-in_err-count_all-clause-full
returns-in_err-count_all-clause-full c =
    let get = look_up c.args.h.now in
    let o = c.args.c in
    let h = heap_of c.args.h.now in
    let mid = heap_of c.set_status.new.self in
    let freed = with_status Freed null (look_up c.in_ok-after.after o) in
    let p = err_from_is_err_and c.from_residual-in_err-count_all.result c.from_residual-in_err-count_all.ensures.1 in
    rw (p.1, p.2) (λ is. overflow_before (negsuc 0) (get o).listed h mid o freed (c.in_ok-set_status.ensures.ok ∙ ap (λ k. put_at (look_up k) o freed) c.in_ok-after.ensures) (ap (λ k. (look_up k o).count) c.in_ok-after.ensures)
    (subst (λ os. Overflows (negsuc 0) os mid) c.listed.ensures (c.in_err-count_all.ensures.full is)))

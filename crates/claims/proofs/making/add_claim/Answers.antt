use Rattle.std.proofs.Common.{pos, ap, refl, sym, ◌∙◌}
use Rattle.std.proofs.lemmas.Result.{err_from_is_err_and}
use Rattle.object_types.specs.Heap.{Record, put_at}
use Rattle.object_types.specs.Lookups.{look_up, heap_of}
use Rattle.method.specs.Actions.{new_claim}
use Rattle.claims.proofs.Putting.{vacant_at}
use Rattle.claims.proofs.Counting.{counted, overflow_before}
use Rattle.claims.proofs.making.add_claim.Goals as goal

pub place_claim-requires : goal.place_claim-requires
place_claim-requires c = ap (λ h. look_up h c.in-Some.c) c.in_ok-after.ensures ∙ vacant_at (look_up c.args.h.now) c.in-Some.c c.requires.vacant c.in-Some.ensures.some

pub returns-clause-ok : goal.returns-clause-ok
returns-clause-ok c =
    let r = new_claim c.args.t c.args.objects.now c.args.parts.now in
    counted (pos 1) c.args.objects.now c.args.objects.now (heap_of c.args.h.now) (heap_of c.place_claim.new.h) (heap_of c.count_all.new.h) c.in-Some.c r r (c.in_ok-place_claim.ensures.ok ∙ ap (λ h. put_at (look_up h) c.in-Some.c r) c.in_ok-after.ensures) refl c.in_ok-count_all.ensures.ok refl

pub returns-in_err-count_all-clause-full : goal.returns-in_err-count_all-clause-full
returns-in_err-count_all-clause-full c =
    let r = new_claim c.args.t c.args.objects.now c.args.parts.now in
    let get = look_up c.args.h.now in
    let o = c.in-Some.c in
    let p = err_from_is_err_and c.from_residual-in_err-count_all.result c.from_residual-in_err-count_all.ensures.1 in
    rw (p.1, p.2) (λ is. overflow_before (pos 1) c.args.objects.now (heap_of c.args.h.now) (heap_of c.place_claim.new.h) o r (c.in_ok-place_claim.ensures.ok ∙ ap (λ h. put_at (look_up h) o r) c.in_ok-after.ensures) (ap (λ (q : Record). q.count) (sym (vacant_at get o c.requires.vacant c.in-Some.ensures.some))) (c.in_err-count_all.ensures.full is))

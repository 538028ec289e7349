use Rattle.std.proofs.Common.{◌+◌, ◌∙◌, sym, refl, length, negsuc}
use Rattle.std.proofs.lemmas.Result.{err_from_is_err_and}
use Rattle.method.specs.Actions as m
use Rattle.object_types.specs.Lookups.{look_up, heap_of}
use Rattle.claims.proofs.Counting.{overflow_same}
use Rattle.machine_values.specs.Spots.{heap_at, spot_at}
use Rattle.machine_values.proofs.Outcomes.{anyhow}
use Rattle.machine_objects.specs.Runs.{progress_at, Follows}
use Rattle.machine_objects.proofs.Checks.{lands_gives}
use Rattle.machine_objects.proofs.Landing.{silent_or}
use Rattle.machine_claims.specs.RunsOut.{EndingRunsOut}
use Rattle.machine_claims.proofs.Counted.{ended_heap}
use Rattle.machine_claims.proofs.Ended.{ended, behind, end_fails, counts_stop, kept_stops, end_gives, ended_finite, ended_follows}
use Rattle.machine_claims.proofs.making.end_claim.Goals as goal

pub returns-then-not-may_end : goal.returns-then-not-may_end
returns-then-not-may_end c t n y e finite =
    let a = c.args in
    rw c.fault.ensures (n, end_fails a.at.now.program.now (spot_at y a.at.now) a.c a.objects.now n t e a.progress.now (sym (c.may_end.ensures y e.support) ∙ c.if-not-may_end.true))

pub returns-in_err-check_counted : goal.returns-in_err-check_counted
returns-in_err-check_counted c t n y e finite =
    let a = c.args in
    let r = err_from_is_err_and c.from_residual.result c.from_residual.ensures.1 in
    rw (r.1, r.2)
    (anyhow _ c.in_err-check_counted.field-0.0 _
    (counts_stop a.at.now.program.now (spot_at y a.at.now) a.c a.objects.now n t e a.progress.now (sym (c.may_end.ensures y e.support) ∙ c.if-not-may_end.false) c.in_err-check_counted.field-0.0 (c.in_err-check_counted.ensures y e.support)))

pub returns-in_err-check_objects : goal.returns-in_err-check_objects
returns-in_err-check_objects c t n y e finite =
    let a = c.args in
    let p = a.at.now.program.now in
    let s = spot_at y a.at.now in
    let os = a.objects.now in
    let old = a.progress.now in
    let may = sym (c.may_end.ensures y e.support) ∙ c.if-not-may_end.false in
    let told = c.in_ok-remove_claim.ensures in
    let here = ended_heap p s e.support old.heap c.remove_claim.new.h a.c os may told.distinct told.ok in
    let r = err_from_is_err_and c.from_residual-in_err-check_objects.result c.from_residual-in_err-check_objects.ensures.1 in
    rw (r.1, r.2)
    (anyhow _ c.in_err-check_objects.field-0.0 _
    (kept_stops p s a.c os n t e old may (c.in_ok-check_counted.ensures y e.support) c.in_ok-before.before c.remove_claim.new.h c.in_ok-before.ensures here c.in_err-check_objects.field-0.0
    (c.in_err-check_objects.ensures (n + 1 + length os) y e.support (ended p s a.c os n t e old).support)))

pub returns-in_err-remove_claim : goal.returns-in_err-remove_claim
returns-in_err-remove_claim c t n y e finite =
    let a = c.args in
    let old = a.progress.now in
    let r = err_from_is_err_and c.from_residual-in_err-remove_claim.result c.from_residual-in_err-remove_claim.ensures.1 in
    rw (r.1, r.2)
    (silent_or _ (EndingRunsOut a.c (progress_at e old)) c.in_err-remove_claim.field-0.0 _
    (overflow_same (negsuc 0) (look_up old.heap a.c).listed (heap_of old.heap) (heap_at e.support old.heap) (λ q. refl))
    c.in_err-remove_claim.ensures.err)

pub returns : goal.returns
returns c t n y e finite =
    let a = c.args in
    let p = a.at.now.program.now in
    let s = spot_at y a.at.now in
    let os = a.objects.now in
    let old = a.progress.now in
    let may = sym (c.may_end.ensures y e.support) ∙ c.if-not-may_end.false in
    let told = c.in_ok-remove_claim.ensures in
    let here = ended_heap p s e.support old.heap c.remove_claim.new.h a.c os may told.distinct told.ok in
    lands_gives (Follows _) (m.end_claim p s a.c os n t (progress_at e old)) (behind p s a.c os n t e old)
    (end_gives p s a.c os n t e old may (c.in_ok-check_counted.ensures y e.support) c.in_ok-before.before c.remove_claim.new.h c.in_ok-before.ensures here
    (c.in_ok-check_objects.ensures (n + 1 + length os) y e.support (ended p s a.c os n t e old).support))
    (ended_follows e old _ (ended p s a.c os n t e old) t.objects os here (ended_finite p s a.c os (heap_at e.support old.heap) finite) c.in_ok-extend_from_slice.ensures.items refl)

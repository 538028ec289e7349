use Rattle.std.proofs.Common.{◌+◌, ◌∙◌, sym}
use Rattle.std.proofs.lemmas.Result.{err_from_is_err_and}
use Rattle.machine_values.specs.Spots.{spot_at}
use Rattle.machine_objects.specs.Runs.{progress_at}
use Rattle.machine_claims.proofs.Exchanging.{no_value, no_room, store_stops, store_lands}
use Rattle.machine_claims.proofs.interlocked.exchange.Goals as goal

pub returns-in_default : goal.returns-in_default
returns-in_default c n y e finite =
    let a = c.args in
    rw c.fault-in_default.ensures
    (n + 1, no_value a.at.now.program.now (spot_at y a.at.now) a.operation.now a.o a.f a.values.now n (progress_at e a.progress.now) c.read-was.result (sym (c.in_ok-is_readable.ensures y e.support finite) ∙ c.if-not-branch.false) c.read-was.ensures c.in_default.ensures.0 c.in_default.ensures.1)

pub returns-then-not-fits_field : goal.returns-then-not-fits_field
returns-then-not-fits_field c n y e finite =
    let a = c.args in
    rw c.fault-then-not-fits_field.ensures
    (n + 1, no_room a.at.now.program.now (spot_at y a.at.now) a.operation.now a.o a.f a.values.now n (progress_at e a.progress.now) c.read-was.result (sym (c.in_ok-is_readable.ensures y e.support finite) ∙ c.if-not-branch.false) c.read-was.ensures c.in-Some.now c.in-Some.ensures (sym c.fits_field.ensures ∙ c.if-not-fits_field.true))

pub returns-in_err-store : goal.returns-in_err-store
returns-in_err-store c n y e finite =
    let a = c.args in
    let r = err_from_is_err_and c.from_residual-in_err-store.result c.from_residual-in_err-store.ensures.1 in
    rw (r.1, r.2)
    (store_stops a.at.now.program.now (spot_at y a.at.now) a.operation.now a.o a.f a.values.now n (progress_at e a.progress.now) c.read-was.result (sym (c.in_ok-is_readable.ensures y e.support finite) ∙ c.if-not-branch.false) c.read-was.ensures c.in-Some.now c.in-Some.ensures (sym c.fits_field.ensures ∙ c.if-not-fits_field.false) c.in_err-store.field-0.0
    (λ k. c.in_err-store.ensures k y e finite))

pub returns : goal.returns
returns c n y e finite =
    let a = c.args in
    store_lands a.at.now.program.now (spot_at y a.at.now) a.operation.now a.o a.f a.values.now n (progress_at e a.progress.now) c.read-was.result (sym (c.in_ok-is_readable.ensures y e.support finite) ∙ c.if-not-branch.false) c.read-was.ensures c.in-Some.now c.in-Some.ensures (sym c.fits_field.ensures ∙ c.if-not-fits_field.false) _ c.call_value.result c.call_value.ensures
    (λ k. c.in_ok-store.ensures k y e finite)

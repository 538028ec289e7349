use Rattle.std.proofs.Common.{◌∙◌, sym, ap}
use Rattle.std.proofs.lemmas.Result.{err_from_is_err_and}
use Rattle.method.specs.Expressions.{eval}
use Rattle.machine_values.specs.Spots.{spot_at}
use Rattle.machine_objects.specs.Runs.{progress_at}
use Rattle.machine_claims.proofs.Calling.{call_stops, call_comes}
use Rattle.machine_claims.proofs.interlocked.call_interlocked.Goals as goal

pub returns-in_err-v : goal.returns-in_err-v
returns-in_err-v c n y e finite =
    let a = c.args in
    let p = a.at.now.program.now in
    let s = spot_at y a.at.now in
    let op = a.operation.now in
    let g = progress_at e a.progress.now in
    let gives = ap (λ ls. eval p s g.heap ls a.object.now n) (sym c.deref.ensures.value) ∙ c.in_ok-o.ensures n y e.support finite in
    let r = err_from_is_err_and c.from_residual-in_err-v.result c.from_residual-in_err-v.ensures.1 in
    rw (r.1, r.2)
    (call_stops p s a.object.now a.f op a.ending.now n g c.in_ok-o.o c.in_ok-values.values.items gives (λ k. c.in_ok-values.ensures k y e finite) c.referent.result c.deref-2.result.now c.referent.ensures c.deref-2.ensures.value c.in_err-v.field-0.0
    (c.in_err-v.ensures _ y e finite))

pub returns : goal.returns
returns c n y e finite =
    let a = c.args in
    let p = a.at.now.program.now in
    let s = spot_at y a.at.now in
    let op = a.operation.now in
    let g = progress_at e a.progress.now in
    let gives = ap (λ ls. eval p s g.heap ls a.object.now n) (sym c.deref.ensures.value) ∙ c.in_ok-o.ensures n y e.support finite in
    call_comes p s a.object.now a.f op a.ending.now n g c.in_ok-o.o c.in_ok-values.values.items gives (λ k. c.in_ok-values.ensures k y e finite) c.referent.result c.deref-2.result.now c.referent.ensures c.deref-2.ensures.value c.exchange.new.progress c.in_ok-v.v
    (c.in_ok-v.ensures _ y e finite)
    c.end_value.result
    (λ e' finite'. c.end_value.ensures _ y e' finite')

use Rattle.std.proofs.Common.{◌≡◌, [], subst, Ok, Err}
use Rattle.std.proofs.lemmas.Result.{err_from_is_err_and}
use Rattle.method.specs.Expressions.{Gives}
use Rattle.method.specs.Actions as m
use Rattle.method.specs.Actions.{spot}
use Rattle.machine_values.specs.Answers.{Stops}
use Rattle.machine_values.specs.Spots.{heap_at, context_at}
use Rattle.machine_values.proofs.Outcomes.{stops_after}
use Rattle.machine_objects.specs.Runs.{Follows, place_of}
use Rattle.machine_objects.proofs.Landing.{gives_stops}
use Rattle.machine_turns.proofs.Turning.{gives_lands, reads}
use Rattle.machine_turns.proofs.returns.store_value.Goals as goal

pub returns-in_err-v : goal.returns-in_err-v
returns-in_err-v c x y finite =
    let a = c.args in
    let r = a.caller.now in
    let h = heap_at y r.heap.now in
    let at_ = spot (context_at x r.context.now) [] a.line in
    let conv = m.convert_to at_ a.ty a.v 0 in
    let e = err_from_is_err_and c.from_residual.result c.from_residual.ensures.1 in
    let s = c.in_err-v.field-0.0 in
    rw (e.1, e.2) (stops_after s conv _ (subst (λ t. Stops s (m.convert_to t a.ty a.v 0)) (c.spot-at.ensures.spot x) (c.in_err-v.ensures 0 x)))

pub returns-in_err-store : goal.returns-in_err-store
returns-in_err-store c x y finite =
    let a = c.args in
    let r = a.caller.now in
    let h = heap_at y r.heap.now in
    let at_ = spot (context_at x r.context.now) [] a.line in
    let conv = m.convert_to at_ a.ty a.v 0 in
    let e = err_from_is_err_and c.from_residual-in_err-store.result c.from_residual-in_err-store.ensures.1 in
    let s = c.in_err-store.field-0.0 in
    let given = subst (λ t. m.convert_to t a.ty a.v 0 ≡ Gives c.in_ok-v.v) (c.spot-at.ensures.spot x) (c.in_ok-v.ensures 0 x) in
    rw (e.1, e.2) (gives_stops s conv _ c.in_ok-v.v given (reads (Err s) c.store.new.progress c.in_ok-progress.progress c.spot-at.result (λ p s g n. m.store p s (place_of a.place) c.in_ok-v.v n g) r.program.now r.context.now [] a.line r.heap.now r.locals.now r.next_thread (c.in_err-store.ensures) c.spot-at.ensures.program c.spot-at.ensures.spot c.in_ok-progress.ensures x y finite))

pub returns : goal.returns
returns c x y finite =
    let a = c.args in
    let r = a.caller.now in
    let h = heap_at y r.heap.now in
    let at_ = spot (context_at x r.context.now) [] a.line in
    let conv = m.convert_to at_ a.ty a.v 0 in
    let given = subst (λ t. m.convert_to t a.ty a.v 0 ≡ Gives c.in_ok-v.v) (c.spot-at.ensures.spot x) (c.in_ok-v.ensures 0 x) in
    gives_lands (Follows c.store.new.progress) conv _ c.in_ok-v.v given (reads (Ok tt) c.store.new.progress c.in_ok-progress.progress c.spot-at.result (λ p s g n. m.store p s (place_of a.place) c.in_ok-v.v n g) r.program.now r.context.now [] a.line r.heap.now r.locals.now r.next_thread (c.in_ok-store.ensures) c.spot-at.ensures.program c.spot-at.ensures.spot c.in_ok-progress.ensures x y finite)

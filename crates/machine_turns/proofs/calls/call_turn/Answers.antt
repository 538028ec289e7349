use Rattle.std.proofs.Common.{[], subst}
use Rattle.std.proofs.lemmas.Result.{err_from_is_err_and}
use Rattle.method.specs.Expressions.{eval_all}
use Rattle.method.specs.Actions as m
use Rattle.method.specs.Actions.{spot}
use Rattle.method.specs.Machine.{received}
use Rattle.machine_values.specs.Answers.{Stops}
use Rattle.machine_values.specs.Spots.{heap_at, context_at}
use Rattle.machine_values.proofs.Outcomes.{stops_after}
use Rattle.machine_objects.specs.Runs.{Lands}
use Rattle.machine_objects.proofs.Landing.{gives_stops}
use Rattle.machine_turns.specs.Turns.{Turned, running, entering, place_given}
use Rattle.machine_turns.proofs.Turning.{gives_lands, called}
use Rattle.machine_turns.proofs.Calling.{called_with, call_after}
use Rattle.machine_turns.proofs.calls.call_turn.Goals as goal

pub returns-in_err-entered : goal.returns-in_err-entered
returns-in_err-entered c x y finite all code below =
    let a = c.args in
    let r = a.here.now in
    let h = heap_at y r.heap.now in
    let at_ = spot (context_at x r.context.now) [] a.line in
    let f = running x r all in
    let place = received r.program.now a.to.now at_ 0 (m.starting h r.locals.now (m.Fresh r.next_thread)) in
    let values = eval_all r.program.now at_ h r.locals.now a.es.now 0 in
    let vs = c.in_ok-args.args.items in
    let to = place_given c.in_ok-place.place in
    let fn = c.in-Some.function.now in
    let after_it = call_after r.program.now at_ a.number fn vs h a.ty to f code below c.in-Some.ensures.some in
    let e = err_from_is_err_and c.from_residual-in_err-entered.result c.from_residual-in_err-entered.ensures.1 in
    let s = c.in_err-entered.field-0.0 in
    let stop = rw c.deref.ensures.value at (c.in_err-entered.ensures x y) in
    rw (e.1, e.2) (gives_stops s place _ to (c.in_ok-place.ensures x y finite) (gives_stops s values _ vs (c.in_ok-args.ensures x y finite)
    (subst (Stops s) after_it (stops_after s (entering r.program.now at_ a.number fn vs h) _ stop))))

pub returns : goal.returns
returns c x y finite all code below =
    let a = c.args in
    let r = a.here.now in
    let h = heap_at y r.heap.now in
    let at_ = spot (context_at x r.context.now) [] a.line in
    let f = running x r all in
    let place = received r.program.now a.to.now at_ 0 (m.starting h r.locals.now (m.Fresh r.next_thread)) in
    let values = eval_all r.program.now at_ h r.locals.now a.es.now 0 in
    let vs = c.in_ok-args.args.items in
    let to = place_given c.in_ok-place.place in
    let fn = c.in-Some.function.now in
    let after_it = call_after r.program.now at_ a.number fn vs h a.ty to f code below c.in-Some.ensures.some in
    let b = c.in_ok-entered.entered in
    let entry = rw c.deref.ensures.value at (c.in_ok-entered.ensures x y) in
    let made = Turned c.called.result f code below h in
    gives_lands made place _ to (c.in_ok-place.ensures x y finite) (gives_lands made values _ vs (c.in_ok-args.ensures x y finite)
    (subst (Lands made) after_it (gives_lands made (entering r.program.now at_ a.number fn vs h) (called_with r.program.now at_ a.number fn vs h a.ty to f code below) _ entry
    (called c.called.result f code below h a.line c.receipt.result b y _ c.called.ensures (c.receipt.ensures r.program.now code)))))

use Rattle.std.proofs.Common.{[], ◌++◌, ap, sym, Ok, Err}
use Rattle.std.proofs.lemmas.Result.{err_from_is_err_and}
use Rattle.method.specs.Actions as m
use Rattle.method.specs.Actions.{spot}
use Rattle.machine_values.specs.Spots.{heap_at, context_at}
use Rattle.machine_values.proofs.Outcomes.{stops_after}
use Rattle.machine_turns.specs.Frames.{ahead}
use Rattle.machine_turns.specs.Turns.{running}
use Rattle.machine_turns.proofs.Turning.{acted, reads}
use Rattle.machine_turns.proofs.turn.wrap_turn.Goals as goal

pub returns-in_err-wrap_object : goal.returns-in_err-wrap_object
returns-in_err-wrap_object c x y finite all code below =
    let a = c.args in
    let r = a.here.now in
    let s = c.in_err-wrap_object.field-0.0 in
    let e = err_from_is_err_and c.from_residual-in_err-wrap_object.result c.from_residual-in_err-wrap_object.ensures.1 in
    rw (e.1, e.2) (stops_after s (m.wrap_object r.program.now (spot (context_at x r.context.now) [] a.line) a.ty a.o 0 (m.starting (heap_at y r.heap.now) r.locals.now (m.Fresh r.next_thread))) _ (reads (Err s) c.wrap_object.new.progress c.in_ok-progress.progress c.spot-at.result (λ p s g n. m.wrap_object p s a.ty a.o n g) r.program.now r.context.now [] a.line r.heap.now r.locals.now r.next_thread (c.in_err-wrap_object.ensures) c.spot-at.ensures.program c.spot-at.ensures.spot c.in_ok-progress.ensures x y finite))

pub returns : goal.returns
returns c x y finite all code below =
    let a = c.args in
    let r = a.here.now in
    let h = heap_at y r.heap.now in
    acted r.program.now c.acted.result (running x r all) code below h a.line c.new.result c.wrap_object.new.progress c.acted.ensures code (ap (λ z. ahead z ++ code) (sym c.new.ensures.items)) (m.wrap_object r.program.now (spot (context_at x r.context.now) [] a.line) a.ty a.o 0 (m.starting (heap_at y r.heap.now) r.locals.now (m.Fresh r.next_thread)))
    (reads (Ok tt) c.wrap_object.new.progress c.in_ok-progress.progress c.spot-at.result (λ p s g n. m.wrap_object p s a.ty a.o n g) r.program.now r.context.now [] a.line r.heap.now r.locals.now r.next_thread (c.in_ok-wrap_object.ensures) c.spot-at.ensures.program c.spot-at.ensures.spot c.in_ok-progress.ensures x y finite)

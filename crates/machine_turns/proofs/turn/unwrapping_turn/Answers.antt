use Rattle.std.proofs.Common.{[], ◌∷◌, ◌++◌, map, ap, subst, ◌∙◌, Ok, Err}
use Rattle.std.proofs.lemmas.Result.{err_from_is_err_and}
use Rattle.object_types.specs.Values.{referent}
use Rattle.method.specs.Expressions.{eval}
use Rattle.method.specs.Actions as m
use Rattle.method.specs.Actions.{spot}
use Rattle.method.specs.Machine.{Run, WrapAgain}
use Rattle.machine_values.specs.Answers.{Stops}
use Rattle.machine_values.specs.Spots.{heap_at, context_at}
use Rattle.machine_values.proofs.Outcomes.{stops_after}
use Rattle.machine_objects.specs.Runs.{Follows, Lands}
use Rattle.machine_objects.proofs.Landing.{gives_stops}
use Rattle.machine_turns.specs.Turns.{Turned, running}
use Rattle.machine_turns.proofs.Ahead.{only_item, body_on_item}
use Rattle.machine_turns.proofs.Turning.{gives_lands, acted, reads}
use Rattle.machine_turns.proofs.turn.unwrapping_turn.Goals as goal

pub returns-in_err-value : goal.returns-in_err-value
returns-in_err-value c x y finite all code below =
    let a = c.args in
    let r = a.here.now in
    let e = err_from_is_err_and c.from_residual.result c.from_residual.ensures.1 in
    rw (e.1, e.2) (stops_after c.in_err-value.field-0.0 (eval r.program.now (spot (context_at x r.context.now) [] a.line) (heap_at y r.heap.now) r.locals.now a.e.now 0) _ (c.in_err-value.ensures x y finite))

pub returns-in_err-unwrap_object : goal.returns-in_err-unwrap_object
returns-in_err-unwrap_object c x y finite all code below =
    let a = c.args in
    let r = a.here.now in
    let v = c.in_ok-value.field-0 in
    let s = c.in_err-unwrap_object.field-0.0 in
    let e = err_from_is_err_and c.from_residual-in_err-unwrap_object.result c.from_residual-in_err-unwrap_object.ensures.1 in
    rw (e.1, e.2) (gives_stops s (eval r.program.now (spot (context_at x r.context.now) [] a.line) (heap_at y r.heap.now) r.locals.now a.e.now 0) _ v (c.in_ok-value.ensures x y finite) (stops_after s (m.unwrap_object r.program.now (spot (context_at x r.context.now) [] a.line) (referent v) 0 (m.starting (heap_at y r.heap.now) r.locals.now (m.Fresh r.next_thread))) _
    (subst (λ o. Stops s (m.unwrap_object r.program.now (spot (context_at x r.context.now) [] a.line) o 0 (m.starting (heap_at y r.heap.now) r.locals.now (m.Fresh r.next_thread)))) c.referent-o.ensures (reads (Err s) c.unwrap_object.new.progress c.in_ok-progress.progress c.spot-at.result (λ p s g n. m.unwrap_object p s c.referent-o.result n g) r.program.now r.context.now [] a.line r.heap.now r.locals.now r.next_thread (c.in_err-unwrap_object.ensures) c.spot-at.ensures.program c.spot-at.ensures.spot c.in_ok-progress.ensures x y finite))))

pub returns : goal.returns
returns c x y finite all code below =
    let a = c.args in
    let r = a.here.now in
    let h = heap_at y r.heap.now in
    let v = c.in_ok-value.field-0 in
    let item = WrapAgain a.line a.ty (referent v) in
    let one = only_item c.new-code.result.items c.push.new.self.items _ c.new-code.ensures.items c.in_ok-push.ensures.items ∙ ap (λ o. WrapAgain a.line a.ty o ∷ []) c.referent-o.ensures in
    gives_lands (Turned c.acted.result (running x r all) code below h) (eval r.program.now (spot (context_at x r.context.now) [] a.line) (heap_at y r.heap.now) r.locals.now a.e.now 0) _ v (c.in_ok-value.ensures x y finite)
    (acted r.program.now c.acted.result (running x r all) code below h a.line c.push_body.new.code c.unwrap_object.new.progress c.acted.ensures (map Run a.body.now ++ item ∷ code) (body_on_item c.push.new.self.items c.push_body.new.code.items (map Run a.body.now) item code c.in_ok-push_body.ensures.ok one) (m.unwrap_object r.program.now (spot (context_at x r.context.now) [] a.line) (referent v) 0 (m.starting (heap_at y r.heap.now) r.locals.now (m.Fresh r.next_thread)))
    (subst (λ o. Lands (Follows c.unwrap_object.new.progress) (m.unwrap_object r.program.now (spot (context_at x r.context.now) [] a.line) o 0 (m.starting (heap_at y r.heap.now) r.locals.now (m.Fresh r.next_thread)))) c.referent-o.ensures (reads (Ok tt) c.unwrap_object.new.progress c.in_ok-progress.progress c.spot-at.result (λ p s g n. m.unwrap_object p s c.referent-o.result n g) r.program.now r.context.now [] a.line r.heap.now r.locals.now r.next_thread (c.in_ok-unwrap_object.ensures) c.spot-at.ensures.program c.spot-at.ensures.spot c.in_ok-progress.ensures x y finite)))

use Rattle.std.proofs.Common.{Bool, [], ◌++◌, map, if◌then◌else◌, ap, sym, ◌∙◌}
use Rattle.std.proofs.lemmas.Result.{err_from_is_err_and}
use Rattle.object_types.specs.declared.values.Value.{Value}
use Rattle.object_types.specs.Values.{truth}
use Rattle.method.specs.Expressions.{eval}
use Rattle.method.specs.Actions.{spot}
use Rattle.method.specs.Machine.{Run}
use Rattle.machine_values.specs.Spots.{heap_at, context_at}
use Rattle.machine_values.proofs.Outcomes.{stops_after}
use Rattle.machine_turns.specs.Turns.{running}
use Rattle.machine_turns.proofs.Turning.{moved, value_moved}
use Rattle.machine_turns.proofs.turn.if_turn.Goals as goal

pub returns-in_err-v : goal.returns-in_err-v
returns-in_err-v c x y finite all code below =
    let r = c.args.here.now in
    let e = err_from_is_err_and c.from_residual.result c.from_residual.ensures.1 in
    rw (e.1, e.2) (stops_after c.in_err-v.field-0.0 (eval r.program.now (spot (context_at x r.context.now) [] c.args.line) (heap_at y r.heap.now) r.locals.now c.args.test.now 0) _ (c.in_err-v.ensures x y finite))

pub returns-then-is_true : goal.returns-then-is_true
returns-then-is_true c x y finite all code below =
    let a = c.args in
    let r = a.here.now in
    let h = heap_at y r.heap.now in
    let v = c.in_ok-v.v in
    value_moved r.program.now c.moved.result (running x r all) code below h a.line c.in_ok-body_code.field-0 c.moved.ensures (eval r.program.now (spot (context_at x r.context.now) [] a.line) h r.locals.now a.test.now 0) (λ (v : Value). map Run (if truth v then a.then_body.now else a.else_body.now) ++ code) v (c.in_ok-v.ensures x y finite)
    (ap (λ (b : Bool). map Run (if b then a.then_body.now else a.else_body.now) ++ code) (sym c.is_true.ensures ∙ c.if-is_true.true) ∙ ap (λ z. z ++ code) (sym c.in_ok-body_code.ensures.ok))

pub returns : goal.returns
returns c x y finite all code below =
    let a = c.args in
    let r = a.here.now in
    let h = heap_at y r.heap.now in
    let v = c.in_ok-v.v in
    value_moved r.program.now c.moved-2.result (running x r all) code below h a.line c.in_ok-body_code-2.field-0 c.moved-2.ensures (eval r.program.now (spot (context_at x r.context.now) [] a.line) h r.locals.now a.test.now 0) (λ (v : Value). map Run (if truth v then a.then_body.now else a.else_body.now) ++ code) v (c.in_ok-v.ensures x y finite)
    (ap (λ (b : Bool). map Run (if b then a.then_body.now else a.else_body.now) ++ code) (sym c.is_true.ensures ∙ c.if-is_true.false) ∙ ap (λ z. z ++ code) (sym c.in_ok-body_code-2.ensures.ok))

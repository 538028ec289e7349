use Rattle.std.proofs.Common.{Bool, [], ◌∷◌, ◌++◌, map, if◌then◌else◌, ap, sym, ◌∙◌}
use Rattle.std.proofs.lemmas.Result.{err_from_is_err_and}
use Rattle.object_types.specs.declared.values.Value.{Value}
use Rattle.object_types.specs.Values.{truth}
use Rattle.method.specs.declared.program.CheckKind.TheVariants.{LoopInv}
use Rattle.method.specs.Expressions.{eval, scene}
use Rattle.method.specs.Actions.{spot}
use Rattle.method.specs.Machine.{Run}
use Rattle.machine_values.specs.Spots.{heap_at, context_at}
use Rattle.machine_values.specs.Testing.{spec_tests}
use Rattle.machine_values.proofs.Outcomes.{stops_after}
use Rattle.machine_values.proofs.Verdicts.{checks_stop}
use Rattle.machine_turns.specs.Frames.{ahead}
use Rattle.machine_turns.specs.Turns.{Turned, running}
use Rattle.machine_turns.proofs.Ahead.{only_item, body_on_item}
use Rattle.machine_turns.proofs.Turning.{passed_stops, passed_lands, moved, value_moved}
use Rattle.machine_turns.proofs.turn.while_turn.Goals as goal

pub returns-in_err-check_invariants : goal.returns-in_err-check_invariants
returns-in_err-check_invariants c x y finite all code below =
    let a = c.args in
    let r = a.here.now in
    let e = err_from_is_err_and c.from_residual.result c.from_residual.ensures.1 in
    rw (e.1, e.2) (checks_stop (spot (context_at x r.context.now) [] a.line) LoopInv _ c.in_err-check_invariants.field-0.0 (spec_tests r.program.now a.invariants.now (scene (context_at x r.context.now) (heap_at y r.heap.now) r.locals.now)) 0 (c.in_err-check_invariants.ensures x y))

pub returns-in_err-v : goal.returns-in_err-v
returns-in_err-v c x y finite all code below =
    let a = c.args in
    let r = a.here.now in
    let e = err_from_is_err_and c.from_residual-in_err-v.result c.from_residual-in_err-v.ensures.1 in
    let s = c.in_err-v.field-0.0 in
    rw (e.1, e.2) (passed_stops (spot (context_at x r.context.now) [] a.line) LoopInv _ (spec_tests r.program.now a.invariants.now (scene (context_at x r.context.now) (heap_at y r.heap.now) r.locals.now)) 0 (c.in_ok-check_invariants.ensures x y) s (stops_after s (eval r.program.now (spot (context_at x r.context.now) [] a.line) (heap_at y r.heap.now) r.locals.now a.test.now 0) _ (c.in_err-v.ensures x y finite)))

pub returns-then-not-is_true : goal.returns-then-not-is_true
returns-then-not-is_true c x y finite all code below =
    let a = c.args in
    let r = a.here.now in
    let h = heap_at y r.heap.now in
    let v = c.in_ok-v.v in
    passed_lands (spot (context_at x r.context.now) [] a.line) LoopInv _ (spec_tests r.program.now a.invariants.now (scene (context_at x r.context.now) (heap_at y r.heap.now) r.locals.now)) 0 (c.in_ok-check_invariants.ensures x y) (Turned _ (running x r all) code below h) (value_moved r.program.now c.moved.result (running x r all) code below h a.line c.new-code.result c.moved.ensures (eval r.program.now (spot (context_at x r.context.now) [] a.line) h r.locals.now a.test.now 0) (λ (v : Value). if truth v then map Run a.body.now ++ Run a.s.now ∷ code else code) v (c.in_ok-v.ensures x y finite)
    (ap (λ (b : Bool). if b then map Run a.body.now ++ Run a.s.now ∷ code else code) (sym c.is_true.ensures ∙ c.if-not-is_true.true) ∙ ap (λ z. ahead z ++ code) (sym c.new-code.ensures.items)))

pub returns : goal.returns
returns c x y finite all code below =
    let a = c.args in
    let r = a.here.now in
    let h = heap_at y r.heap.now in
    let v = c.in_ok-v.v in
    passed_lands (spot (context_at x r.context.now) [] a.line) LoopInv _ (spec_tests r.program.now a.invariants.now (scene (context_at x r.context.now) (heap_at y r.heap.now) r.locals.now)) 0 (c.in_ok-check_invariants.ensures x y) (Turned _ (running x r all) code below h) (value_moved r.program.now c.moved-2.result (running x r all) code below h a.line c.push_body.new.code c.moved-2.ensures (eval r.program.now (spot (context_at x r.context.now) [] a.line) h r.locals.now a.test.now 0) (λ (v : Value). if truth v then map Run a.body.now ++ Run a.s.now ∷ code else code) v (c.in_ok-v.ensures x y finite)
    (ap (λ (b : Bool). if b then map Run a.body.now ++ Run a.s.now ∷ code else code) (sym c.is_true.ensures ∙ c.if-not-is_true.false) ∙ body_on_item c.push.new.self.items c.push_body.new.code.items (map Run a.body.now) (Run a.s.now) code c.in_ok-push_body.ensures.ok (only_item c.new-code.result.items c.push.new.self.items _ c.new-code.ensures.items c.in_ok-push.ensures.items)))

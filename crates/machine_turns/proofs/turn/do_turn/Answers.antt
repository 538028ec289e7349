use Rattle.std.proofs.Common.{[], ◌∷◌, ◌++◌, map}
use Rattle.std.proofs.lemmas.Result.{err_from_is_err_and}
use Rattle.method.specs.declared.program.CheckKind.TheVariants.{LoopInv}
use Rattle.method.specs.Expressions.{scene}
use Rattle.method.specs.Actions.{spot}
use Rattle.method.specs.Machine.{Run}
use Rattle.machine_values.specs.Spots.{heap_at, context_at}
use Rattle.machine_values.specs.Testing.{spec_tests}
use Rattle.machine_values.proofs.Verdicts.{checks_stop}
use Rattle.machine_turns.specs.Frames.{left_of}
use Rattle.machine_turns.specs.Turns.{Turned, running}
use Rattle.machine_turns.proofs.Ahead.{only_item, body_on_item}
use Rattle.machine_turns.proofs.Turning.{passed_lands, moved}
use Rattle.machine_turns.proofs.turn.do_turn.Goals as goal

pub returns-in_err-check_invariants : goal.returns-in_err-check_invariants
returns-in_err-check_invariants c x y finite all code below =
    let a = c.args in
    let r = a.here.now in
    let e = err_from_is_err_and c.from_residual.result c.from_residual.ensures.1 in
    rw (e.1, e.2) (checks_stop (spot (context_at x r.context.now) [] a.line) LoopInv _ c.in_err-check_invariants.field-0.0 (spec_tests r.program.now a.invariants.now (scene (context_at x r.context.now) (heap_at y r.heap.now) r.locals.now)) 0 (c.in_err-check_invariants.ensures x y))

pub returns : goal.returns
returns c x y finite all code below =
    let a = c.args in
    let r = a.here.now in
    let h = heap_at y r.heap.now in
    passed_lands (spot (context_at x r.context.now) [] a.line) LoopInv _ (spec_tests r.program.now a.invariants.now (scene (context_at x r.context.now) (heap_at y r.heap.now) r.locals.now)) 0 (c.in_ok-check_invariants.ensures x y) (Turned _ (running x r all) code below h) (moved r.program.now c.moved.result (running x r all) code below h a.line c.push_body.new.code c.moved.ensures (map Run a.body.now ++ left_of a.test ∷ code)
    (body_on_item c.push.new.self.items c.push_body.new.code.items (map Run a.body.now) (left_of a.test) code c.in_ok-push_body.ensures.ok (only_item c.new-code.result.items c.push.new.self.items _ c.new-code.ensures.items c.in_ok-push.ensures.items)))

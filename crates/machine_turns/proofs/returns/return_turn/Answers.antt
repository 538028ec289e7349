use Rattle.std.proofs.Common.{[]}
use Rattle.std.proofs.lemmas.Result.{err_from_is_err_and}
use Rattle.method.specs.declared.program.CheckKind.TheVariants.{Ensures}
use Rattle.method.specs.Expressions.{return_scene}
use Rattle.method.specs.Actions.{spot}
use Rattle.method.specs.Machine.{ensured, resume}
use Rattle.machine_values.specs.Spots.{heap_at, context_at}
use Rattle.machine_values.proofs.Verdicts.{checks_stop}
use Rattle.machine_turns.specs.Scenes.{function_at}
use Rattle.machine_turns.specs.Turns.{TurnsTo, running}
use Rattle.machine_turns.proofs.Turning.{passed_comes}
use Rattle.machine_turns.proofs.returns.return_turn.Goals as goal

pub returns-in_err-check_ensures : goal.returns-in_err-check_ensures
returns-in_err-check_ensures c x y finite all code below are =
    let a = c.args in
    let r = a.here.now in
    let k = context_at x r.context.now in
    let h = heap_at y r.heap.now in
    let e = err_from_is_err_and c.from_residual.result c.from_residual.ensures.1 in
    rw (e.1, e.2) (checks_stop (spot k [] a.line) Ensures _ c.in_err-check_ensures.field-0.0 (ensured r.program.now (function_at r.program.now k) (return_scene k h a.v)) 0 (c.in_err-check_ensures.ensures x y))

pub returns : goal.returns
returns c x y finite all code below are =
    let a = c.args in
    let r = a.here.now in
    let k = context_at x r.context.now in
    let h = heap_at y r.heap.now in
    passed_comes (spot k [] a.line) Ensures (resume r.program.now a.line a.v below h) (ensured r.program.now (function_at r.program.now k) (return_scene k h a.v)) 0 (c.in_ok-check_ensures.ensures x y) (TurnsTo c.resume.result (running x r all) code below h) (c.resume.ensures x y finite all code below are)

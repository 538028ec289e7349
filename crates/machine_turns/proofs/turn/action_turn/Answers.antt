use Rattle.std.proofs.Common.{◌++◌, ap, sym, Ok, Err}
use Rattle.std.proofs.lemmas.Result.{err_from_is_err_and}
use Rattle.method.specs.Actions as m
use Rattle.method.specs.Actions.{spot, fitting, action_fits, run_action}
use Rattle.machine_values.specs.Spots.{heap_at, context_at}
use Rattle.machine_values.proofs.Outcomes.{stops_or_after}
use Rattle.machine_actions.specs.RunsOut.{ActionRunsOut}
use Rattle.machine_turns.specs.Frames.{ahead}
use Rattle.machine_turns.specs.Turns.{running}
use Rattle.machine_turns.proofs.Turning.{acted, reads, reads_or}
use Rattle.machine_turns.proofs.turn.action_turn.Goals as goal

pub returns-in_err-act : goal.returns-in_err-act
unfolding m.act
returns-in_err-act c x y finite all code below =
    let a = c.args in
    let r = a.here.now in
    let s = c.in_err-act.field-0.0 in
    let e = err_from_is_err_and c.from_residual-in_err-act.result c.from_residual-in_err-act.ensures.1 in
    rw (e.1, e.2) (stops_or_after _ s (m.act r.program.now (context_at x r.context.now) a.choices.now (m.Fresh r.next_thread) a.line a.action.now 0 (heap_at y r.heap.now) r.locals.now) _ (reads_or (Err s) c.act.new.progress c.in_ok-progress.progress c.spot-at.result (λ p s g n. fitting (action_fits p s.context.function a.action.now s.choices) (run_action p s a.action.now n g)) r.program.now r.context.now a.choices.now a.line r.heap.now r.locals.now r.next_thread (λ p s g n. ActionRunsOut p s a.action.now n g) (c.in_err-act.ensures) c.spot-at.ensures.program c.spot-at.ensures.spot c.in_ok-progress.ensures x y finite))

pub returns : goal.returns
unfolding m.act
returns c x y finite all code below =
    let a = c.args in
    let r = a.here.now in
    let h = heap_at y r.heap.now in
    acted r.program.now c.acted.result (running x r all) code below h a.line c.new.result c.act.new.progress c.acted.ensures code (ap (λ z. ahead z ++ code) (sym c.new.ensures.items)) (m.act r.program.now (context_at x r.context.now) a.choices.now (m.Fresh r.next_thread) a.line a.action.now 0 (heap_at y r.heap.now) r.locals.now)
    (reads (Ok tt) c.act.new.progress c.in_ok-progress.progress c.spot-at.result (λ p s g n. fitting (action_fits p s.context.function a.action.now s.choices) (run_action p s a.action.now n g)) r.program.now r.context.now a.choices.now a.line r.heap.now r.locals.now r.next_thread (c.in_ok-act.ensures) c.spot-at.ensures.program c.spot-at.ensures.spot c.in_ok-progress.ensures x y finite)

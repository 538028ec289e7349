use Rattle.std.proofs.Common.{[], ◌∷◌, sym, subst}
use Rattle.method.specs.Actions.{Fresh}
use Rattle.method.specs.Machine as m
use Rattle.machine_values.specs.Spots.{heap_at}
use Rattle.machine_turns.specs.RunsOut.{TakenRunsOut}
use Rattle.machine_turns.specs.Turns.{TurnsTo, TurnsOr, running}
use Rattle.machine_turns.proofs.Statements.{at_if, at_unwrapping}
use Rattle.machine_turns.proofs.items.plain_turn.Goals as goal

pub returns-in-If : goal.returns-in-If
returns-in-If c x y finite all code below are =
    let r = c.args.here.now in
    let h = heap_at y r.heap.now in
    let f = running x r all in
    let made = rw (c.deref.ensures.value, c.deref-in-If.ensures.value) at (c.if_turn.ensures x y finite all code below) in
    subst (λ s. TurnsOr (TakenRunsOut r.next_thread [] (m.Run s) r.program.now f h) c.if_turn.result f code below h (m.turn_of r.program.now (Fresh r.next_thread) [] f (m.Run s ∷ code) below h)) (sym c.in-If.is)
    (subst (TurnsTo c.if_turn.result f code below h) (sym (at_if r.program.now r.next_thread c.in-If.line f code below h c.in-If.field-1 c.in-If.test c.in-If.a c.in-If.b)) made)

pub returns-in-Unwrapping : goal.returns-in-Unwrapping
returns-in-Unwrapping c x y finite all code below are =
    let r = c.args.here.now in
    let h = heap_at y r.heap.now in
    let f = running x r all in
    let made = rw c.deref-in-Unwrapping.ensures.value at (c.unwrapping_turn.ensures x y finite all code below) in
    subst (λ s. TurnsOr (TakenRunsOut r.next_thread [] (m.Run s) r.program.now f h) c.unwrapping_turn.result f code below h (m.turn_of r.program.now (Fresh r.next_thread) [] f (m.Run s ∷ code) below h)) (sym c.in-Unwrapping.is)
    (subst (TurnsTo c.unwrapping_turn.result f code below h) (sym (at_unwrapping r.program.now r.next_thread c.in-Unwrapping.line f code below h c.in-Unwrapping.ty c.in-Unwrapping.field-2 c.in-Unwrapping.e c.in-Unwrapping.body)) made)

pub returns-in-Call : goal.returns-in-Call
returns-in-Call c x y finite all code below are =
    let r = c.args.here.now in
    let h = heap_at y r.heap.now in
    let f = running x r all in
    let made = rw c.deref-in-Call.ensures.value at (c.call_turn.ensures x y finite all code below) in
    subst (λ s. TurnsOr (TakenRunsOut r.next_thread [] (m.Run s) r.program.now f h) c.call_turn.result f code below h (m.turn_of r.program.now (Fresh r.next_thread) [] f (m.Run s ∷ code) below h)) (sym c.in-Call.is)
    (made)

use Rattle.std.proofs.Common.{◌+◌, ◌≤◌, map, drop, position, Ok, Err, ap, sym, subst, ◌∙◌}
use Rattle.std.proofs.lemmas.Result.{err_from_is_err_and}
use Rattle.object_types.specs.Sets.{some}
use Rattle.machine_values.proofs.Outcomes.{runs_out_too}
use Rattle.method.specs.Machine as m
use Rattle.machine_turns.specs.Turns.{AreFrames}
use Rattle.ref_machine.specs.States.{thread_of}
use Rattle.ref_machine.specs.Plans.{turn_in}
use Rattle.ref_machine.specs.RunsOut.{StepRunsOut, at_item, at_last_thread, at_twins}
use Rattle.ref_machine.proofs.Threads.{has, place_at, rest_whole, next_same, twice_at}
use Rattle.ref_machine.proofs.Stepping.{threads_stand, no_thread, turns_stop, support, finite, turn_out, turned_in, planned}
use Rattle.ref_machine.proofs.step.work_out.Goals as goal

pub returns-in_default-clause-plan : goal.returns-in_default-clause-plan
returns-in_default-clause-plan c s is =
    let a = c.args in
    no_thread a.program.now s a.state.now a.number a.choices.now is (sym (c.in_default.ensures ∙ ap (position (has a.number)) c.deref.ensures.value))

pub returns-in_err-heap-clause-plan : goal.returns-in_err-heap-clause-plan
returns-in_err-heap-clause-plan c s is =
    let a = c.args in
    let state = a.state.now in
    let cs = state.threads.items in
    let p = a.program.now in
    let t = a.number in
    let i = c.in-Some.place in
    let old = c.index.result.now in
    let fs = m.frames_of t s.threads in
    let at_ = sym (c.in-Some.ensures ∙ ap (position (has t)) c.deref.ensures.value) in
    let later = ap (λ z. some (has t) (drop (i + 1) z)) (sym c.deref-2.ensures.value) ∙ ap (some (has t)) (sym (rest_whole c.deref-2.result.now (i + 1))) ∙ sym c.has_number.ensures ∙ c.if-has_number.false in
    let place = place_at t cs s.threads i old (threads_stand s state is) at_ c.index.ensures later in
    let are = subst (AreFrames fs) (sym c.deref-4.ensures.value) place.1.are in
    let next = c.in-Some-next_number.ensures.some ∙ ap (λ z. m.next_number (map thread_of z)) c.deref-3.ensures.value in
    let z = c.in_err-heap.field-0.0 in
    let e = err_from_is_err_and c.from_residual.result c.from_residual.ensures.1 in
    let event : m.Event = record { thread = t; choices = a.choices.now } in
    let out = turn_out p s state t a.choices.now is fs in
    rw (e.1, e.2)
    (runs_out_too out (StepRunsOut p s event) z (turn_in p s t a.choices.now) at_item
    (turns_stop out fs z s.heap (turn_in p s t a.choices.now)
    (turned_in p s state t a.choices.now is (Err z) c.in-Some-next_number.next next (c.in_err-heap.ensures (support p s state t a.choices.now is) (finite p s state t a.choices.now is) fs are))))

pub returns-then-has_number-clause-plan : goal.returns-then-has_number-clause-plan
returns-then-has_number-clause-plan c s is =
    let a = c.args in
    let cs = a.state.now.threads.items in
    let t = a.number in
    let i = c.in-Some.place in
    let at_ = sym (c.in-Some.ensures ∙ ap (position (has t)) c.deref.ensures.value) in
    let later = ap (λ z. some (has t) (drop (i + 1) z)) (sym c.deref-2.ensures.value) ∙ ap (some (has t)) (sym (rest_whole c.deref-2.result.now (i + 1))) ∙ sym c.has_number.ensures ∙ c.if-has_number.true in
    at_twins (twice_at t cs s.threads i (threads_stand s a.state.now is) at_ later)

pub returns-in_default-next_number-clause-plan : goal.returns-in_default-next_number-clause-plan
returns-in_default-next_number-clause-plan c s is =
    let cs = c.args.state.now.threads.items in
    let same = sym (next_same s.threads cs (threads_stand s c.args.state.now is) ∙ ap (λ z. m.next_number (map thread_of z)) (sym c.deref-3.ensures.value)) in
    at_last_thread (subst (λ n. 4294967296 ≤ n) same c.in_default-next_number.ensures.none)

pub returns-clause-plan : goal.returns-clause-plan
returns-clause-plan c s is =
    let a = c.args in
    let state = a.state.now in
    let cs = state.threads.items in
    let p = a.program.now in
    let t = a.number in
    let i = c.in-Some.place in
    let old = c.index.result.now in
    let fs = m.frames_of t s.threads in
    let at_ = sym (c.in-Some.ensures ∙ ap (position (has t)) c.deref.ensures.value) in
    let later = ap (λ z. some (has t) (drop (i + 1) z)) (sym c.deref-2.ensures.value) ∙ ap (some (has t)) (sym (rest_whole c.deref-2.result.now (i + 1))) ∙ sym c.has_number.ensures ∙ c.if-has_number.false in
    let place = place_at t cs s.threads i old (threads_stand s state is) at_ c.index.ensures later in
    let are = subst (AreFrames fs) (sym c.deref-4.ensures.value) place.1.are in
    let next = c.in-Some-next_number.ensures.some ∙ ap (λ z. m.next_number (map thread_of z)) c.deref-3.ensures.value in
    let turn = c.in_ok-heap.field-0 in
    planned p s state t a.choices.now is (turn_out p s state t a.choices.now is fs) turn i old c.in_ok-threads.threads place.0 place.1 c.in_ok-threads.ensures.ok
    (turned_in p s state t a.choices.now is (Ok turn) c.in-Some-next_number.next next (c.in_ok-heap.ensures (support p s state t a.choices.now is) (finite p s state t a.choices.now is) fs are))

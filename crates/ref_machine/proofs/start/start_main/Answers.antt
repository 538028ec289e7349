use Rattle.std.proofs.Common.{◌≡◌, [], ◌∷◌, ◌++◌, map, Err, refl, ap, subst, ◌∙◌}
use Rattle.std.proofs.lemmas.Result.{err_from_is_err_and}
use Rattle.object_types.specs.References.{thread}
use Rattle.object_types.specs.Lookups.{heap_of, reference_of}
use Rattle.method.specs.Actions.{callee}
use Rattle.machine_values.specs.Answers.{Finds, Passes}
use Rattle.machine_turns.specs.Frames.{frames_of}
use Rattle.ref_machine.specs.declared.state.Thread.{Thread}
use Rattle.ref_machine.specs.declared.state.State.{State}
use Rattle.ref_machine.specs.States.{thread_of}
use Rattle.ref_machine.specs.Starting.{start_verdict}
use Rattle.ref_machine.proofs.Starting.{checks_stop_start, entry_stops_start, started}
use Rattle.ref_machine.proofs.start.start_main.Goals as goal

pub returns-in_err-check_requires-clause-starts : goal.returns-in_err-check_requires-clause-starts
returns-in_err-check_requires-clause-starts c =
    let a = c.args in
    let p = a.program.now in
    let f = a.function.now in
    let x = callee p p.main f (thread 1) (heap_of a.heap) a.args.now in
    let here = c.in_ok-env.ensures.ok (heap_of a.heap) in
    let z = c.in_err-check_requires.field-0.0 in
    let e = err_from_is_err_and c.from_residual-in_err-check_requires.result c.from_residual-in_err-check_requires.ensures.1 in
    let stop = subst (λ s. Finds (Err z) (start_verdict p f.requires_.items s)) here (rw c.deref.ensures.value at c.in_err-check_requires.ensures) in
    rw (e.1, e.2) (checks_stop_start p f x z stop)

pub returns-in_err-context-clause-starts : goal.returns-in_err-context-clause-starts
returns-in_err-context-clause-starts c =
    let a = c.args in
    let p = a.program.now in
    let f = a.function.now in
    let x = callee p p.main f (thread 1) (heap_of a.heap) a.args.now in
    let here = c.in_ok-env.ensures.ok (heap_of a.heap) in
    let pass = subst (λ s. start_verdict p f.requires_.items s ≡ Passes) here (rw c.deref.ensures.value at c.in_ok-check_requires.ensures) in
    let z = c.in_err-context.field-0.0 in
    let e = err_from_is_err_and c.from_residual-in_err-context.result c.from_residual-in_err-context.ensures.1 in
    rw (e.1, e.2) (entry_stops_start p f x z pass (c.in_err-context.ensures (map reference_of a.heap)))

pub returns-clause-starts : goal.returns-clause-starts
returns-clause-starts c =
    let a = c.args in
    let p = a.program.now in
    let f = a.function.now in
    let x = callee p p.main f (thread 1) (heap_of a.heap) a.args.now in
    let here = c.in_ok-env.ensures.ok (heap_of a.heap) in
    let pass = subst (λ s. start_verdict p f.requires_.items s ≡ Passes) here (rw c.deref.ensures.value at c.in_ok-check_requires.ensures) in
    let k = c.in_ok-context.context in
    let frame = c.in_ok-frame.frame in
    let one : Thread = record { number = 1; frames = c.push.new.self } in
    let state : State = record { heap = a.heap; threads = c.push-2.new.self } in
    let threads = ap (map thread_of) (c.in_ok-push-2.ensures.items ∙ ap (λ z. z ++ one ∷ []) c.new-threads.ensures.items) ∙ (λ i. record { number = 1; frames = frames_of ((c.in_ok-push.ensures.items ∙ ap (λ z. z ++ frame ∷ []) c.new-frames.ensures.items) i) } ∷ []) in
    started p f x (map reference_of a.heap) k frame state a.heap pass (c.in_ok-context.ensures (map reference_of a.heap)) c.requires (c.in_ok-frame.ensures.ok []) refl refl threads

use Rattle.std.proofs.Common.{List, [], ◌∷◌, ap, sym, subst, ◌∙◌}
use Rattle.object_types.specs.declared.values.Value.{Value}
use Rattle.method.specs.Actions.{Fresh}
use Rattle.method.specs.Machine as m
use Rattle.machine_values.specs.Spots.{heap_at, context_at}
use Rattle.machine_turns.specs.Frames.{left_of, ahead, frame_at}
use Rattle.machine_turns.specs.RunsOut.{TakenRunsOut, CodeRunsOut, ThreadRunsOut}
use Rattle.machine_turns.specs.Turns.{TurnsTo, TurnsOr, TurnsAll, behind}
use Rattle.machine_turns.proofs.Ahead.{ahead_more}
use Rattle.machine_turns.proofs.Frames.{on_top, no_items}
use Rattle.machine_turns.proofs.items.turn.Goals as goal

pub returns : goal.returns
returns c y finite fs are =
    let a = c.args in
    let h = heap_at y a.heap.now in
    let frame = c.in-Some.frame.now in
    let top = on_top fs a.frames.now c.in-Some.below.now frame are c.in-Some.ensures.cases.0 in
    let b = frame_at top.list frame in
    let item = c.in-Some-split_last.item.now in
    let r = c.item_turn.result in
    let e = ap ahead (sym c.deref-2.ensures.value ∙ c.in-Some-split_last.ensures.cases.0) ∙ ahead_more c.in-Some-split_last.field-0-1.now item in
    let rest = ahead c.in-Some-split_last.field-0-1.now in
    let fact = subst (λ (l : List Value). let f : m.Activation = record { context = context_at top.list frame.context; locals = l; code = ahead frame.code.items } in TurnsOr (TakenRunsOut a.next_thread a.choices.now (left_of item) a.program.now f h) r f rest top.rest h (m.turn_of a.program.now (Fresh a.next_thread) a.choices.now f (left_of item ∷ rest) top.rest h)) c.deref.ensures.value (c.item_turn.ensures top.list y finite (ahead frame.code.items) rest top.rest top.below) in
    subst (λ bs. TurnsAll (ThreadRunsOut a.program.now (Fresh a.next_thread) a.choices.now bs h) r bs h (m.thread_turn a.program.now (Fresh a.next_thread) a.choices.now bs h)) (sym top.is)
    (subst (λ z. TurnsOr (CodeRunsOut a.program.now (Fresh a.next_thread) a.choices.now b z h) r b (behind z) top.rest h (m.turn_of a.program.now (Fresh a.next_thread) a.choices.now b z top.rest h)) (sym e) fact)

pub returns-in_default-split_last : goal.returns-in_default-split_last
returns-in_default-split_last c y finite fs are =
    let a = c.args in
    let h = heap_at y a.heap.now in
    let frame = c.in-Some.frame.now in
    let top = on_top fs a.frames.now c.in-Some.below.now frame are c.in-Some.ensures.cases.0 in
    let b = frame_at top.list frame in
    let r = c.end_turn.result in
    let e = ap ahead (sym c.deref-2.ensures.value) ∙ no_items c.deref-2.result.now c.in_default-split_last.ensures.cases in
    let fact = rw c.deref.ensures.value at (c.end_turn.ensures top.list y finite (ahead frame.code.items) [] top.rest top.below) in
    subst (λ bs. TurnsAll (ThreadRunsOut a.program.now (Fresh a.next_thread) a.choices.now bs h) r bs h (m.thread_turn a.program.now (Fresh a.next_thread) a.choices.now bs h)) (sym top.is)
    (subst (λ z. TurnsOr (CodeRunsOut a.program.now (Fresh a.next_thread) a.choices.now b z h) r b (behind z) top.rest h (m.turn_of a.program.now (Fresh a.next_thread) a.choices.now b z top.rest h)) (sym e)
    (subst (λ vs. TurnsTo r b [] top.rest h (m.turn_of a.program.now (Fresh a.next_thread) vs b [] top.rest h)) (sym c.in_ok-no_choices.ensures.ok) fact))

use Rattle.std.proofs.Common.{[], ◌∷◌, refl, ap, sym, subst, ◌∙◌}
use Rattle.std.proofs.lemmas.Result.{err_from_is_err_and}
use Rattle.method.specs.Actions.{spot}
use Rattle.method.specs.Machine as m
use Rattle.machine_values.specs.Answers.{Stops}
use Rattle.machine_values.specs.Spots.{heap_at}
use Rattle.machine_values.proofs.Outcomes.{stops_after}
use Rattle.machine_objects.specs.Runs.{Lands, place_of}
use Rattle.machine_turns.specs.Frames.{left_of, frame_at}
use Rattle.machine_turns.specs.Turns.{Turned, running, storing}
use Rattle.machine_turns.proofs.Frames.{on_top, front_item, resume_stores, resume_plain, plain_item}
use Rattle.machine_turns.proofs.Turning.{returned, stored}
use Rattle.machine_turns.proofs.returns.resume.Goals as goal

pub returns-in_err-progress-in-Receive : goal.returns-in_err-progress-in-Receive
returns-in_err-progress-in-Receive c x y finite all code below are =
    let a = c.args in
    let r = a.here.now in
    let h = heap_at y r.heap.now in
    let f = running x r all in
    let top = on_top below a.below.now _ c.in-Some.caller.now are c.in-Some.ensures.cases.0 in
    let b = frame_at top.list c.in-Some.caller.now in
    let got = front_item c.in-Some.caller.now.code.items _ c.in-Some-split_last.item.now (m.Receive c.in-Receive.called (place_of c.in-Receive.place) c.in-Receive.ty) (sym c.deref.ensures.value ∙ c.in-Some-split_last.ensures.cases.0) (ap left_of c.in-Receive.is) in
    let stores = resume_stores r.program.now a.line a.v b top.rest h c.in-Receive.called c.in-Receive.place c.in-Receive.ty got in
    let kept = storing r.program.now (spot b.context [] c.in-Receive.called) h b.locals 0 c.in-Receive.place c.in-Receive.ty a.v in
    let s = c.in_err-progress-in-Receive.field-0.0 in
    let e = err_from_is_err_and c.from_residual.result c.from_residual.ensures.1 in
    let stop = rw c.deref-in-Receive.ensures.value at (c.in_err-progress-in-Receive.ensures top.list y finite) in
    rw (e.1, e.2) (subst (λ bs. Stops s (m.resume r.program.now a.line a.v bs h)) (sym top.is) (subst (Stops s) (sym stores) (stops_after s kept _ stop)))

pub returns-in_ok-progress-in-Receive : goal.returns-in_ok-progress-in-Receive
returns-in_ok-progress-in-Receive c x y finite all code below are =
    let a = c.args in
    let r = a.here.now in
    let h = heap_at y r.heap.now in
    let f = running x r all in
    let top = on_top below a.below.now _ c.in-Some.caller.now are c.in-Some.ensures.cases.0 in
    let b = frame_at top.list c.in-Some.caller.now in
    let got = front_item c.in-Some.caller.now.code.items _ c.in-Some-split_last.item.now (m.Receive c.in-Receive.called (place_of c.in-Receive.place) c.in-Receive.ty) (sym c.deref.ensures.value ∙ c.in-Some-split_last.ensures.cases.0) (ap left_of c.in-Receive.is) in
    let stores = resume_stores r.program.now a.line a.v b top.rest h c.in-Receive.called c.in-Receive.place c.in-Receive.ty got in
    let kept = storing r.program.now (spot b.context [] c.in-Receive.called) h b.locals 0 c.in-Receive.place c.in-Receive.ty a.v in
    let t = c.stored.result in
    let land = rw c.deref-in-Receive.ensures.value at (c.in_ok-progress-in-Receive.ensures top.list y finite) in
    subst (λ bs. Lands (Turned t f code bs h) (m.resume r.program.now a.line a.v bs h)) (sym top.is)
    (subst (Lands (Turned t f code (b ∷ top.rest) h)) (sym stores) (stored r.program.now t f code b top.rest h a.line c.in_ok-progress-in-Receive.progress c.stored.ensures kept land))

pub returns-in-Run : goal.returns-in-Run
returns-in-Run c x y finite all code below are =
    let a = c.args in
    let r = a.here.now in
    let h = heap_at y r.heap.now in
    let f = running x r all in
    let top = on_top below a.below.now _ c.in-Some.caller.now are c.in-Some.ensures.cases.0 in
    let b = frame_at top.list c.in-Some.caller.now in
    let t = c.returned-in-Run.result in
    let item = c.in-Some-split_last.item.now in
    let got = front_item c.in-Some.caller.now.code.items _ item (left_of item) (sym c.deref.ensures.value ∙ c.in-Some-split_last.ensures.cases.0) refl in
    let plain = resume_plain r.program.now a.line a.v b (left_of item) _ top.rest h (plain_item item c.in-Run.is) got in
    subst (λ bs. Lands (Turned t f code bs h) (m.resume r.program.now a.line a.v bs h)) (sym top.is)
    (subst (Lands (Turned t f code (b ∷ top.rest) h)) (sym plain) (returned t f code (b ∷ top.rest) h a.line c.returned-in-Run.ensures))

use Rattle.std.proofs.Common.{◌++◌, map, get_or, Some, slice_get, slice_set, refl, ap, sym, ◌∙◌, ◌≡◌}
use Rattle.std.proofs.lemmas.Result.{err_from_is_err_and}
use Rattle.std.proofs.lemmas.Option.{slice_get-get_or}
use Rattle.ref_machine.specs.declared.state.Thread.{Thread}
use Rattle.ref_machine.specs.States.{thread_of}
use Rattle.ref_machine.specs.Plans.{heap_or}
use Rattle.ref_machine.proofs.Threads.{put_same}
use Rattle.ref_machine.proofs.step.commit.Goals as goal

pub returns-in-Some-clause-ok : goal.returns-in-Some-clause-ok
returns-in-Some-clause-ok c =
    let a = c.args in
    let old = c.index_mut.result.now in
    let cs = a.state.now.threads.items in
    let d : Thread = record { number = old.number; frames = c.settle.new.frames } in
    record {
      heap = sym (ap (heap_or a.state.now.heap) c.in-Some.is);
      old = old;
      is = slice_get-get_or cs a.plan.place old c.requires ∙ ap Some (sym (c.index_mut.ensures.value ∙ ap (λ z. get_or z a.plan.place old) c.reserve.ensures.items));
      new = d;
      number = refl;
      frames = c.in_ok-settle.ensures.ok;
      threads = c.append_reserved.ensures ∙ ap (λ z. slice_set z a.plan.place d ++ a.plan.threads.items) c.reserve.ensures.items;
    }

pub returns-in_default-clause-ok : goal.returns-in_default-clause-ok
returns-in_default-clause-ok c =
    let a = c.args in
    let old = c.index_mut.result.now in
    let cs = a.state.now.threads.items in
    let d : Thread = record { number = old.number; frames = c.settle.new.frames } in
    record {
      heap = sym (ap (heap_or a.state.now.heap) c.in_default.is);
      old = old;
      is = slice_get-get_or cs a.plan.place old c.requires ∙ ap Some (sym (c.index_mut.ensures.value ∙ ap (λ z. get_or z a.plan.place old) c.reserve.ensures.items));
      new = d;
      number = refl;
      frames = c.in_ok-settle.ensures.ok;
      threads = c.append_reserved.ensures ∙ ap (λ z. slice_set z a.plan.place d ++ a.plan.threads.items) c.reserve.ensures.items;
    }

pub returns-in_err-settle-clause-err : goal.returns-in_err-settle-clause-err
returns-in_err-settle-clause-err c =
    let a = c.args in
    let old = c.index_mut.result.now in
    let cs = a.state.now.threads.items in
    let d : Thread = record { number = old.number; frames = c.settle.new.frames } in
    let e = err_from_is_err_and c.from_residual-in_err-settle.result c.from_residual-in_err-settle.ensures.1 in
    let is : slice_get cs a.plan.place ≡ Some old = slice_get-get_or cs a.plan.place old c.requires ∙ ap Some (sym (c.index_mut.ensures.value ∙ ap (λ z. get_or z a.plan.place old) c.reserve.ensures.items)) in
    rw e.1 (record {
      heap = refl;
      threads = ap (λ z. map thread_of (slice_set z a.plan.place d)) c.reserve.ensures.items ∙ put_same cs a.plan.place old d is (λ i. record { number = old.number; frames = c.in_err-settle.ensures.err i });
    })

use Rattle.std.proofs.Common.{◌&&◌, ◌≤◌, List, length, true, Ok, Err, refl, ap, sym, subst, arith, length-drop}
use Rattle.check_labels.specs.declared.labels.ProgramLabel.{ProgramLabel}
use Rattle.check_labels.specs.Labels.{labels_of}
use Rattle.conditions.specs.Conditions.{item_conditions}
use Rattle.condition_meaning.specs.Languages.{language_of}
use Rattle.vcc_verify.specs.Runs.{ConditionsRun, ItemsRun, at_start}
use Rattle.vcc_verify.proofs.Cuts.{exits}
use Rattle.vcc_verify.proofs.Rounds.{left_all, enough, next_aligned, count_is, item_cut, line_cut, one_item, none_remain}
use Rattle.vcc_verify.proofs.items.write_items.Goals as goal

pub loop-i-init : goal.loop-i-init
loop-i-init g c = record {
  left = λ before text stands. left_all c.args.theory.program.now before c.args.cert.now text _ c.args.written _ stands;
  aligned = c.requires.labels;
  place = omega arith;
  room = c.requires.room;
  store_never_falls = omega arith;
  sink_never_falls = omega arith;
  reads_stay = refl;
}

pub write_item-requires-clause-labels : goal.write_item-requires-clause-labels
write_item-requires-clause-labels g c =
    subst (λ (ls : List ProgramLabel). length (item_conditions c.args.theory.program.now c.item_at-item.result) ≤ length ls) (sym c.labels_from-rest.ensures)
    (enough c.args.theory.program.now c.args.labels.now c.loop-i.place c.loop-i.i c.item_at-item.result c.item_at-item.ensures c.loop-i.invariant.aligned)

pub returns-in_err-end-clause-run : goal.returns-in_err-end-clause-run
returns-in_err-end-clause-run g c = λ before text stands.
    let p = c.args.theory.program.now in
    let left = c.loop-i.invariant.left before text stands in
    exits c.from_residual.result _ (λ r. ItemsRun p p.items.items true before (g.S.Store.contents c.write_item.new.store) c.args.cert.now text (g.O.Sink.written c.args.out.now) (g.O.Sink.written c.loop-i.out) r) c.from_residual.ensures.1
    (item_cut p c.args.labels.now c.loop-i.place c.loop-i.i c.item_at-item.result c.item_at-item.ensures c.loop-i.invariant.aligned before c.args.cert.now text _ _ _ _ _ left (g.S.Store.contents c.write_item.new.store) c.in_err-end.field-0.0
    (subst (λ (ls : List ProgramLabel). ConditionsRun (language_of p) (item_conditions p c.item_at-item.result) (labels_of ls) (at_start c.loop-i.bytes) before (g.S.Store.contents c.write_item.new.store) c.args.cert.now left.so_far (Err c.in_err-end.field-0.0)) c.labels_from-rest.ensures (c.in_err-end.ensures.run before left.so_far left.stands)))

pub returns-in_err-put_item-clause-run : goal.returns-in_err-put_item-clause-run
returns-in_err-put_item-clause-run g c = λ before text stands.
    let p = c.args.theory.program.now in
    let left = c.loop-i.invariant.left before text stands in
    exits c.from_residual-in_err-put_item.result _ (λ r. ItemsRun p p.items.items true before (g.S.Store.contents c.write_item.new.store) c.args.cert.now text (g.O.Sink.written c.args.out.now) (g.O.Sink.written c.put_item.new.out) r) c.from_residual-in_err-put_item.ensures.1
    (line_cut p c.args.labels.now c.loop-i.place c.loop-i.i c.item_at-item.result c.item_at-item.ensures c.loop-i.invariant.aligned before c.args.cert.now text _ _ _ _ _ left (g.S.Store.contents c.write_item.new.store) c.in_ok-end.end
    (subst (λ (ls : List ProgramLabel). ConditionsRun (language_of p) (item_conditions p c.item_at-item.result) (labels_of ls) (at_start c.loop-i.bytes) before (g.S.Store.contents c.write_item.new.store) c.args.cert.now left.so_far (Ok c.in_ok-end.end)) c.labels_from-rest.ensures (c.in_ok-end.ensures.run before left.so_far left.stands))
    _ c.in_err-put_item.field-0.0 c.in_err-put_item.ensures.err)

pub overflow_add-place : goal.overflow_add-place
overflow_add-place g c =
    let p = c.args.theory.program.now in
    let many = count_is p c.item_at-item.result _ c.loop-i.bytes (g.S.Store.contents c.write_item.new.store) c.args.cert.now c.in_ok-end.end (g.S.Store.contents c.loop-i.store) c.loop-i.invariant.room c.in_ok-end.ensures.run in
    let above = enough p c.args.labels.now c.loop-i.place c.loop-i.i c.item_at-item.result c.item_at-item.ensures c.loop-i.invariant.aligned in
    let long = length-drop c.loop-i.place c.args.labels.now in
    omega (arith, many, above, long, c.loop-i.invariant.place)

pub loop-i-preserved : goal.loop-i-preserved
loop-i-preserved g c =
    let p = c.args.theory.program.now in
    let many = count_is p c.item_at-item.result _ c.loop-i.bytes (g.S.Store.contents c.write_item.new.store) c.args.cert.now c.in_ok-end.end (g.S.Store.contents c.loop-i.store) c.loop-i.invariant.room c.in_ok-end.ensures.run in
    let above = enough p c.args.labels.now c.loop-i.place c.loop-i.i c.item_at-item.result c.item_at-item.ensures c.loop-i.invariant.aligned in
    let long = length-drop c.loop-i.place c.args.labels.now in
    record {
      left = λ before text stands.
          let left = c.loop-i.invariant.left before text stands in
          one_item p c.args.labels.now c.loop-i.place c.loop-i.i c.item_at-item.result c.item_at-item.ensures c.loop-i.invariant.aligned before c.args.cert.now text _ _ _ _ _ left (g.S.Store.contents c.write_item.new.store) c.in_ok-end.end
          (subst (λ (ls : List ProgramLabel). ConditionsRun (language_of p) (item_conditions p c.item_at-item.result) (labels_of ls) (at_start c.loop-i.bytes) before (g.S.Store.contents c.write_item.new.store) c.args.cert.now left.so_far (Ok c.in_ok-end.end)) c.labels_from-rest.ensures (c.in_ok-end.ensures.run before left.so_far left.stands))
          (g.O.Sink.written c.put_item.new.out) _ c.in_ok-put_item.ensures.ok (ap (λ b. c.loop-i.all && b) c.is_closed-all.ensures);
      aligned = next_aligned p c.args.labels.now c.loop-i.place c.loop-i.i c.item_at-item.result c.item_at-item.ensures c.loop-i.invariant.aligned c.in_ok-end.end.conditions many;
      place = omega (arith, many, above, long, c.loop-i.invariant.place);
      room = c.in_ok-end.ensures.room;
      store_never_falls = omega (arith, c.loop-i.invariant.store_never_falls, c.in_ok-end.ensures.never_falls);
      sink_never_falls = omega (arith, c.loop-i.invariant.sink_never_falls, c.in_ok-put_item.ensures.never_falls);
      reads_stay = cc (c.loop-i.invariant.reads_stay, c.in_ok-end.ensures.reads_stay);
    }

pub returns-clause-run : goal.returns-clause-run
returns-clause-run g c = λ before text stands.
    none_remain c.args.theory.program.now before c.args.cert.now text _ _ _ _ _ c.loop-i.i (omega arith) (c.loop-i.invariant.left before text stands)

use Rattle.std.proofs.Common.{◌+◌, ◌≤◌, refl, ap, sym, subst, arith}
use Rattle.conditions.specs.Conditions.{item_conditions}
use Rattle.condition_meaning.specs.Languages.{language_of}
use Rattle.check_labels.specs.Labels.{labels_of}
use Rattle.vcc_verify.specs.declared.fault.VerifyFault.TheVariants as f
use Rattle.vcc_verify.specs.declared.items.ItemEnd.{ItemEnd}
use Rattle.vcc_verify.specs.Runs.{ConditionsRun, at_start}
use Rattle.vcc_verify.proofs.Cuts.{exits}
use Rattle.vcc_verify.proofs.Turns.{begins, refuses, none_given, none_left, cut_here, goes_on, first_answer, never_begins}
use Rattle.vcc_verify.proofs.items.write_item.Goals as goal

pub returns-in_err-conditions-clause-run : goal.returns-in_err-conditions-clause-run
returns-in_err-conditions-clause-run g c = λ before text stands.
    exits c.from_residual.result f.OutOfMemory (λ r. ConditionsRun (language_of c.args.theory.program.now) (item_conditions c.args.theory.program.now c.args.item) (labels_of c.args.labels.now) (at_start c.args.written) before (g.S.Store.contents c.args.store.now) c.args.cert.now text r) c.from_residual.ensures.1
    (never_begins (language_of c.args.theory.program.now) (item_conditions c.args.theory.program.now c.args.item) c.args.labels.now (at_start c.args.written) before c.args.cert.now text _ stands)

pub loop-label-init : goal.loop-label-init
loop-label-init g c = record {
  running = λ before text stands. begins (language_of c.args.theory.program.now) (item_conditions c.args.theory.program.now c.args.item) c.args.labels.now (at_start c.args.written) before c.args.cert.now text _ _ _ c.start-end.ensures c.in_ok-conditions.ensures stands c.requires.labels;
  count = ap (λ (e : ItemEnd). e.conditions) c.start-end.ensures;
  room = subst (λ (e : ItemEnd). e.written ≤ 67108860) (sym c.start-end.ensures) c.requires.room;
  never_falls = omega arith;
  reads_stay = refl;
}

pub returns-in_err-given-clause-run : goal.returns-in_err-given-clause-run
returns-in_err-given-clause-run g c = λ before text stands.
    exits c.from_residual-in_err-given.result f.OutOfMemory (λ r. ConditionsRun (language_of c.args.theory.program.now) (item_conditions c.args.theory.program.now c.args.item) (labels_of c.args.labels.now) (at_start c.args.written) before (g.S.Store.contents c.loop-label.store) c.args.cert.now text r) c.from_residual-in_err-given.ensures.1
    (refuses (language_of c.args.theory.program.now) (item_conditions c.args.theory.program.now c.args.item) c.args.labels.now (at_start c.args.written) before c.args.cert.now text _ _ _ _ (c.loop-label.invariant.running before text stands))

pub returns-in_default-clause-run : goal.returns-in_default-clause-run
returns-in_default-clause-run g c = λ before text stands.
    let r = c.loop-label.invariant.running before text stands in
    none_given (language_of c.args.theory.program.now) (item_conditions c.args.theory.program.now c.args.item) c.args.labels.now (at_start c.args.written) before c.args.cert.now text _ _ _ _ r c.give.new.self c.in_ok-given.given c.in_default.not-Some (c.in_ok-given.ensures r.left r.remain)

pub returns-in_err-finding-clause-run : goal.returns-in_err-finding-clause-run
returns-in_err-finding-clause-run g c = λ before text stands.
    exits c.from_residual-in_err-finding.result f.OutOfMemory (λ r. ConditionsRun (language_of c.args.theory.program.now) (item_conditions c.args.theory.program.now c.args.item) (labels_of c.args.labels.now) (at_start c.args.written) before (g.S.Store.contents c.loop-label.store) c.args.cert.now text r) c.from_residual-in_err-finding.ensures.1
    (refuses (language_of c.args.theory.program.now) (item_conditions c.args.theory.program.now c.args.item) c.args.labels.now (at_start c.args.written) before c.args.cert.now text _ _ _ _ (c.loop-label.invariant.running before text stands))

pub returns-in_err-bytes-clause-run : goal.returns-in_err-bytes-clause-run
returns-in_err-bytes-clause-run g c = λ before text stands.
    let r = c.loop-label.invariant.running before text stands in
    let first = first_answer c.give.new.self c.in_ok-given.given c.in-Some.condition r.left c.in-Some.is (c.in_ok-given.ensures r.left r.remain) in
    exits c.from_residual-in_err-bytes.result _ (λ x. ConditionsRun (language_of c.args.theory.program.now) (item_conditions c.args.theory.program.now c.args.item) (labels_of c.args.labels.now) (at_start c.args.written) before (g.S.Store.contents c.write_finding.new.store) c.args.cert.now text x) c.from_residual-in_err-bytes.ensures.1
    (cut_here (language_of c.args.theory.program.now) (item_conditions c.args.theory.program.now c.args.item) c.args.labels.now (at_start c.args.written) before c.args.cert.now text _ _ _ _ r c.give.new.self c.in-Some.condition first c.in_ok-finding.finding
    (c.in_ok-finding.ensures.finds first.condition first.stands) (g.S.Store.contents c.write_finding.new.store) c.in_err-bytes.field-0.0 (c.in_err-bytes.ensures.after before r.so_far r.stands))

pub loop-label-preserved : goal.loop-label-preserved
loop-label-preserved g c = record {
  running = λ before text stands.
      let r = c.loop-label.invariant.running before text stands in
      let first = first_answer c.give.new.self c.in_ok-given.given c.in-Some.condition r.left c.in-Some.is (c.in_ok-given.ensures r.left r.remain) in
      goes_on (language_of c.args.theory.program.now) (item_conditions c.args.theory.program.now c.args.item) c.args.labels.now (at_start c.args.written) before c.args.cert.now text _ _ _ _ r c.give.new.self c.in-Some.condition first c.in_ok-finding.finding
      (c.in_ok-finding.ensures.finds first.condition first.stands) _ (g.S.Store.contents c.write_finding.new.store) _ c.loop-label-test.true refl c.first_of-end.ensures c.in_ok-bytes.ensures.long c.in_ok-bytes.ensures.room
      (c.in_ok-bytes.ensures.after before r.so_far r.stands);
  count = ap (λ n. n + 1) c.loop-label.invariant.count;
  room = c.in_ok-bytes.ensures.room;
  never_falls = omega (arith, c.loop-label.invariant.never_falls, c.in_ok-bytes.ensures.never_falls);
  reads_stay = cc (c.loop-label.invariant.reads_stay, c.in_ok-bytes.ensures.reads_stay);
}

pub returns-clause-run : goal.returns-clause-run
returns-clause-run g c = λ before text stands.
    none_left (language_of c.args.theory.program.now) (item_conditions c.args.theory.program.now c.args.item) c.args.labels.now (at_start c.args.written) before c.args.cert.now text _ _ _ _ (c.loop-label.invariant.running before text stands) (omega (arith, c.loop-label-test.false))

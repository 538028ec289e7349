use Rattle.vcc_verify.specs.Outcomes.{Verifies}
use Rattle.vcc_verify.proofs.Cuts.{exits, store_leaves, append_holds}
use Rattle.vcc_verify.proofs.Endings.{no_begin, cut_run, cut_end, cut_closing, whole}
use Rattle.vcc_verify.proofs.verify.verify_by.Goals as goal

pub returns-in_err-written-clause-run : goal.returns-in_err-written-clause-run
returns-in_err-written-clause-run g c =
    exits c.from_residual.result _ (λ r. Verifies c.args.theory.program.now c.args.cert.now (g.S.Store.contents c.args.store.now) (g.S.Store.contents c.begin.new.store) (g.O.Sink.written c.args.out.now) (g.O.Sink.written c.args.out.now) r) c.from_residual.ensures.1
    (no_begin c.args.theory.program.now c.args.labels.now c.requires.labels c.requires.few _ c.args.cert.now _ (g.S.Store.contents c.begin.new.store) c.in_err-written.field-0.0 c.in_err-written.ensures.begins)

pub returns-in_err-all-clause-run : goal.returns-in_err-all-clause-run
returns-in_err-all-clause-run g c =
    exits c.from_residual-in_err-all.result _ (λ r. Verifies c.args.theory.program.now c.args.cert.now (g.S.Store.contents c.args.store.now) (g.S.Store.contents c.write_items.new.store) (g.O.Sink.written c.args.out.now) (g.O.Sink.written c.write_items.new.out) r) c.from_residual-in_err-all.ensures.1
    (cut_run c.args.theory.program.now c.args.labels.now c.requires.labels c.requires.few _ c.args.cert.now _ _ _ c.in_err-all.field-0.0 (c.in_err-all.ensures.run _ _ c.in_ok-written.ensures.begins))

pub returns-in_err-append_all-clause-run : goal.returns-in_err-append_all-clause-run
returns-in_err-append_all-clause-run g c =
    let run = c.in_ok-all.ensures.run _ _ c.in_ok-written.ensures.begins in
    exits c.from_residual-in_err-append_all.result _ (λ r. Verifies c.args.theory.program.now c.args.cert.now (g.S.Store.contents c.args.store.now) (g.S.Store.contents c.append_all.new.store) (g.O.Sink.written c.args.out.now) (g.O.Sink.written c.write_items.new.out) r) c.from_residual-in_err-append_all.ensures.1
    (cut_end c.args.theory.program.now c.args.labels.now c.requires.labels c.requires.few _ c.args.cert.now _ _ _ c.in_ok-all.all run _ c.in_err-append_all.field-0.0
    (store_leaves c.in_err-append_all.field-0.0 _ (g.S.Store.contents c.write_items.new.store) _ _ _ _ run.after c.in_err-append_all.ensures.err c.in_err-append_all.ensures.missing))

pub returns-in_err-put_closing-clause-run : goal.returns-in_err-put_closing-clause-run
returns-in_err-put_closing-clause-run g c =
    let run = c.in_ok-all.ensures.run _ _ c.in_ok-written.ensures.begins in
    exits c.from_residual-in_err-put_closing.result _ (λ r. Verifies c.args.theory.program.now c.args.cert.now (g.S.Store.contents c.args.store.now) (g.S.Store.contents c.append_all.new.store) (g.O.Sink.written c.args.out.now) (g.O.Sink.written c.put_closing.new.out) r) c.from_residual-in_err-put_closing.ensures.1
    (cut_closing c.args.theory.program.now c.args.labels.now c.requires.labels c.requires.few _ c.args.cert.now _ _ _ c.in_ok-all.all run _
    (append_holds _ (g.S.Store.contents c.write_items.new.store) _ _ _ _ run.after c.in_ok-append_all.ensures.ok) _ c.in_err-put_closing.field-0.0 c.in_err-put_closing.ensures.err)

pub returns-clause-run : goal.returns-clause-run
returns-clause-run g c =
    let run = c.in_ok-all.ensures.run _ _ c.in_ok-written.ensures.begins in
    whole c.args.theory.program.now c.args.labels.now c.requires.labels c.requires.few _ c.args.cert.now _ _ _ c.in_ok-all.all run _
    (append_holds _ (g.S.Store.contents c.write_items.new.store) _ _ _ _ run.after c.in_ok-append_all.ensures.ok) _ c.in_ok-put_closing.ensures.ok

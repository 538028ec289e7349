use Rattle.std.proofs.Common.{codes}
use Rattle.vcc_base.proofs.Outcomes.{on_err}
use Rattle.vcc_base.proofs.Printing.{front_first}
use Rattle.schedule_replay.proofs.Texts.{front_behind, writes_more}
use Rattle.vcc_io.specs.Lines.{label_line}
use Rattle.vcc_io.proofs.report.put_no.Goals as goal

pub returns-in_err-put_all-clause-err : goal.returns-in_err-put_all-clause-err
returns-in_err-put_all-clause-err g c = on_err c.from_residual.result _ (front_first _ _ (codes "no: ") (label_line c.args.failing) c.in_err-put_all.ensures.err)

pub returns-clause-ok : goal.returns-clause-ok
returns-clause-ok g c =
    writes_more c.put_label.result _ (g.O.Sink.written c.put_all.new.out) _ (codes "no: ") (label_line c.args.failing) c.in_ok-put_all.ensures.ok c.put_label.ensures.ok

pub returns-clause-err : goal.returns-clause-err
returns-clause-err g c =
    front_behind c.put_label.result _ (g.O.Sink.written c.put_all.new.out) _ (codes "no: ") (label_line c.args.failing) c.in_ok-put_all.ensures.ok c.put_label.ensures.err

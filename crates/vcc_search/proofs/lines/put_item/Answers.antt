use Rattle.std.proofs.Common.{Option, sym, subst}
use Rattle.check_labels.specs.declared.labels.ProgramLabel.{ProgramLabel}
use Rattle.schedule_replay.specs.Printing.{Front}
use Rattle.vcc_search.specs.Reports.{item_line, label_in}
use Rattle.vcc_search.proofs.lines.put_item.Goals as goal

pub returns-in-None-clause-err : goal.returns-in-None-clause-err
returns-in-None-clause-err g c =
    subst (λ (o : Option ProgramLabel). Front c.put_verified.result (g.O.Sink.written c.args.out.now) (g.O.Sink.written c.put_verified.new.out) (item_line c.args.program.now c.args.item (label_in o))) (sym c.in-None.is) c.put_verified.ensures.err

pub returns-in-Some-clause-err : goal.returns-in-Some-clause-err
returns-in-Some-clause-err g c =
    subst (λ (o : Option ProgramLabel). Front c.put_open.result (g.O.Sink.written c.args.out.now) (g.O.Sink.written c.put_open.new.out) (item_line c.args.program.now c.args.item (label_in o))) (sym c.in-Some.is) c.put_open.ensures.err

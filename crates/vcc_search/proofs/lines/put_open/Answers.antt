use Rattle.std.proofs.Common.{refl}
use Rattle.check_labels.specs.Names.{item_name}
use Rattle.vcc_base.proofs.Outcomes.{on_err}
use Rattle.vcc_base.proofs.Printing.{front_first, is_front}
use Rattle.schedule_replay.proofs.Texts.{front_behind, front_is, writes_is, writes_more}
use Rattle.vcc_search.proofs.LineTexts.{label_end, open_head, open_line}
use Rattle.vcc_search.proofs.lines.put_open.Goals as goal

pub returns-in_err-put_line-clause-err : goal.returns-in_err-put_line-clause-err
returns-in_err-put_line-clause-err g c =
    on_err c.from_residual.result _ (is_front _ _ _ _
    (open_line c.args.program.now c.args.item c.args.label c.word_of.result.now c.item_name.result.now (item_name c.args.program.now c.args.label.item) c.word_of.ensures c.item_name.ensures refl)
    (front_first _ _ (open_head c.word_of.result.now c.item_name.result.now) (label_end (item_name c.args.program.now c.args.label.item) c.args.label) c.in_err-put_line.ensures.err))

pub returns-clause-ok : goal.returns-clause-ok
returns-clause-ok g c =
    writes_is c.put_label.result _ _ _ _
    (open_line c.args.program.now c.args.item c.args.label c.word_of.result.now c.item_name.result.now c.item_name-2.result.now c.word_of.ensures c.item_name.ensures c.item_name-2.ensures)
    (writes_more c.put_label.result _ (g.O.Sink.written c.put_line.new.out) _ (open_head c.word_of.result.now c.item_name.result.now) (label_end c.item_name-2.result.now c.args.label) c.in_ok-put_line.ensures.ok c.put_label.ensures.ok)

pub returns-clause-err : goal.returns-clause-err
returns-clause-err g c =
    front_is c.put_label.result _ _ _ _
    (open_line c.args.program.now c.args.item c.args.label c.word_of.result.now c.item_name.result.now c.item_name-2.result.now c.word_of.ensures c.item_name.ensures c.item_name-2.ensures)
    (front_behind c.put_label.result _ (g.O.Sink.written c.put_line.new.out) _ (open_head c.word_of.result.now c.item_name.result.now) (label_end c.item_name-2.result.now c.args.label) c.in_ok-put_line.ensures.ok c.put_label.ensures.err)

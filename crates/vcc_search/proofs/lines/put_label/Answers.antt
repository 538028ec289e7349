use Rattle.schedule_replay.proofs.Texts.{front_is, writes_is}
use Rattle.vcc_search.proofs.LineTexts.{label_is}
use Rattle.vcc_search.proofs.lines.put_label.Goals as goal

pub returns-clause-ok : goal.returns-clause-ok
returns-clause-ok g c =
    writes_is c.put_line.result _ _ _ _ (label_is c.args.name.now c.kind_name.result.now c.args.label c.kind_name.ensures) c.put_line.ensures.ok

pub returns-clause-err : goal.returns-clause-err
returns-clause-err g c =
    front_is c.put_line.result _ _ _ _ (label_is c.args.name.now c.kind_name.result.now c.args.label c.kind_name.ensures) c.put_line.ensures.err

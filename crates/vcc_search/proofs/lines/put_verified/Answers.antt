use Rattle.schedule_replay.proofs.Texts.{front_is}
use Rattle.vcc_search.proofs.LineTexts.{verified_line}
use Rattle.vcc_search.proofs.lines.put_verified.Goals as goal

pub returns-clause-err : goal.returns-clause-err
returns-clause-err g c =
    front_is c.put_line.result _ _ _ _ (verified_line c.args.program.now c.args.item c.word_of.result.now c.item_name.result.now c.word_of.ensures c.item_name.ensures) c.put_line.ensures.err

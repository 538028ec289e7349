use Rattle.schedule_replay.proofs.Printed.{used_is}
use Rattle.schedule_replay.proofs.Texts.{front_is}
use Rattle.schedule_replay.proofs.records.put_used.Goals as goal

pub returns-clause-err : goal.returns-clause-err
returns-clause-err g c =
    front_is c.put_record.result _ _ _ _ (used_is c.args.program.now c.args.h.now c.args.o c.view.result.mode c.is_absent.result c.if-is_absent.false c.is_absent.ensures c.view.ensures.mode) c.put_record.ensures.err

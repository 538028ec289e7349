use Rattle.vcc_base.proofs.Outcomes.{on_err}
use Rattle.vcc_base.proofs.Printing.{then_written, front_first, front_more}
use Rattle.object_types.specs.Lookups.{heap_of}
use Rattle.schedule_replay.specs.Records.{records_text}
use Rattle.schedule_replay.specs.ReplayText.{clean_text}
use Rattle.schedule_replay.proofs.replay.put_end.Goals as goal

pub returns-in_err-put_clean-clause-err : goal.returns-in_err-put_clean-clause-err
returns-in_err-put_clean-clause-err g c = on_err c.from_residual.result _ (front_first _ _ (clean_text c.args.steps) (records_text c.args.program.now (heap_of c.args.h.now)) c.in_err-put_clean.ensures.err)

pub returns-in_err-put_records-clause-err : goal.returns-in_err-put_records-clause-err
returns-in_err-put_records-clause-err g c =
    on_err c.from_residual-in_err-put_records.result _ (front_more _ _ _ (clean_text c.args.steps) (records_text c.args.program.now (heap_of c.args.h.now)) c.in_ok-put_clean.ensures.ok c.in_err-put_records.ensures.err)

pub returns-clause-ok : goal.returns-clause-ok
returns-clause-ok g c = then_written _ _ _ (clean_text c.args.steps) (records_text c.args.program.now (heap_of c.args.h.now)) c.in_ok-put_clean.ensures.ok c.in_ok-put_records.ensures.ok

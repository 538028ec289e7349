use Rattle.vcc_io.proofs.Replaying.{stops}
use Rattle.vcc_io.proofs.run.print_replay.Goals as goal

pub returns-in-Err : goal.returns-in-Err
returns-in-Err g c = stops _ c.in-Err.fault _ _ _ _ _ _ _ c.report_stop.result c.in-Err.ensures.answer c.in-Err.ensures.exhausted c.in-Err.ensures.failed c.in-Err.ensures.never_falls c.report_stop.ensures

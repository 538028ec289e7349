use Rattle.std.proofs.Common.{inr, subst}
use Rattle.vcc_io.specs.Replays.{IsNoSchedule}
use Rattle.vcc_io.proofs.Replaying.{no_read_fault}
use Rattle.vcc_io.proofs.run.read_events.Goals as goal

pub returns-clause-answer : goal.returns-clause-answer
returns-clause-answer g c = λ m told.
    inr (c.in-Ok.bytes.items, c.in-Ok.ensures.bytes m told, subst (λ b. IsNoSchedule b c.refusal_of.result) c.deref.ensures.value (c.refusal_of.ensures c.deref.result.now c.in-Err-read_schedule.ensures.reads))

pub returns-clause-fault : goal.returns-clause-fault
returns-clause-fault g c = λ is. absurd (no_read_fault c.deref.result.now c.refusal_of.result (c.refusal_of.ensures c.deref.result.now c.in-Err-read_schedule.ensures.reads) is)

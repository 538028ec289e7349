use Rattle.cert_lines.proofs.Readings.{not_ended}
use Rattle.cert_lines.proofs.lines.end.Goals as goal

pub returns-in-Some : goal.returns-in-Some
returns-in-Some c = record { reads = rw c.in-Some.is (not_ended c.in-Some.field-0.now) }

use Rattle.vcc_io.proofs.Sessions.{verdict_judged}
use Rattle.vcc_io.proofs.certificate.verdict_of.Goals as goal

pub returns-in-Some-Ok : goal.returns-in-Some-Ok
returns-in-Some-Ok c = λ t s lemmas blocks counted judged under.
    verdict_judged t s lemmas blocks c.args.trial c.in-Some-Ok.field-0 c.in-Some-Ok.trial c.into_outcome.result c.in-Some-Ok.is c.in-Some-Ok.field-0-is c.into_outcome.ensures counted under

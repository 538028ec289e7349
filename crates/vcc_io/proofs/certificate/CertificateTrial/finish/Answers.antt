use Rattle.vcc_io.proofs.Sessions.{text_tried, text_faulty}
use Rattle.vcc_io.proofs.certificate.CertificateTrial.finish.Goals as goal

pub returns-in-Ok : goal.returns-in-Ok
returns-in-Ok c = λ t bytes tried. text_tried t bytes c.args.self c.verdict_of.result c.in-Ok.ensures (c.verdict_of.ensures t) tried

pub returns : goal.returns
returns c = λ t bytes tried. c.refusal_of.ensures bytes (text_faulty t bytes c.args.self c.in-Err.fault c.in-Err.ensures tried)

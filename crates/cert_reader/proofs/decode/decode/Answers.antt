use Rattle.cert_reader.proofs.Decoded.{is_found, is_only}
use Rattle.cert_reader.proofs.decode.decode.Goals as goal

pub returns-clause-text : goal.returns-clause-text
returns-clause-text c = is_found c.args.bytes.now c.certificate.result c.certificate.ensures.answers

pub returns-clause-only : goal.returns-clause-only
returns-clause-only c = is_only c.args.bytes.now c.certificate.result c.certificate.ensures.answers

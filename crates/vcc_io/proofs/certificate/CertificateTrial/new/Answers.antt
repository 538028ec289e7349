use Rattle.std.proofs.Common.{refl}
use Rattle.vcc_io.proofs.Sessions.{taken_none}
use Rattle.vcc_io.proofs.certificate.CertificateTrial.new.Goals as goal

pub returns-clause-tried : goal.returns-clause-tried
returns-clause-tried c = λ t. taken_none t _ c.new-reader.ensures c.new-lemmas.ensures.items refl refl

use Rattle.upgrade_laws.proofs.Certificates.{upgrade_is_certificate}
use Rattle.upgrade_laws.proofs.laws.upgrade_is_certificate.Goals as goal

pub returns : goal.returns
returns c = upgrade_is_certificate

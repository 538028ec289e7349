-- What decoding a certificate answers.
use Rattle.std.specs.Prelude.{◌≡◌, Result, Ok, Err}
use Rattle.cert_format.specs.declared.certificate.Certificate.{Certificate}
use Rattle.cert_format.specs.declared.fault.CertFault.{CertFault}
use Rattle.cert_format.specs.declared.fault.CertFault.TheVariants as f
use Rattle.cert_format.specs.Text.{Proofs, seen}

-- what the definition says, unless memory ran out
abbrev pub Decodes : Result Certificate CertFault → Result Proofs CertFault → Type 0
Decodes (Ok c) read = read ≡ Ok (seen c)
Decodes (Err f.OutOfMemory) read = Unit {0}
Decodes (Err e) read = read ≡ Err e

-- this certificate, unless memory ran out; and no fault
abbrev pub IsOrMemory : Proofs → Result Certificate CertFault → Type 0
IsOrMemory proofs (Ok c) = proofs ≡ seen c
IsOrMemory proofs (Err f.OutOfMemory) = Unit {0}
IsOrMemory proofs (Err e) = ⊥

-- What a certificate is read as, and what it is refused for.
use Rattle.std.specs.Prelude.{◌≡◌, ◌⊎◌, ℕ, List, Result, Err}
use Rattle.cert_format.specs.Text.{IsCertText, Proofs}
use Rattle.cert_reader.specs.Keeping.{decoded}
use Rattle.cert_format.specs.declared.fault.CertFault.{CertFault}
use Rattle.cert_format.specs.declared.fault.CertFault.TheVariants as c
use Rattle.vcc_base.specs.Maps.{Map}
use Rattle.vcc_base.specs.declared.limit.Limit.TheVariants.{CertBytes}
use Rattle.vcc_io.specs.declared.refusal.LineFault.{LineFault}
use Rattle.vcc_io.specs.declared.refusal.LineFault.TheVariants.{BadLine, BadNumber, CutShort, Trailing, CountOver}
use Rattle.vcc_io.specs.declared.refusal.Refusal.{Refusal}
use Rattle.vcc_io.specs.declared.refusal.Refusal.TheVariants.{BadCertificate, OutOfMemory}
use Rattle.vcc_io.specs.Held.{HoldsWithin, IsUnread}

-- the certificate's fault that is wrong with this line in this way
abbrev pub cert_fault : ℕ → LineFault → CertFault
cert_fault n BadLine = c.BadLine n
cert_fault n BadNumber = c.BadNumber n
cert_fault n CutShort = c.CutShort n
cert_fault n Trailing = c.Trailing n
cert_fault n CountOver = c.CountOver n

-- a read answers this fault, where it is no want of memory
abbrev pub IsFirstFault : CertFault → Result Proofs CertFault → Type 0
IsFirstFault c.OutOfMemory read = Unit {0}
IsFirstFault fault read = read ≡ Err fault

-- the first fault of bytes that are no certificate; or memory is wanted
abbrev pub IsNoCertificate : List ℕ → Refusal → Type 0
IsNoCertificate bytes (BadCertificate n fault) = decoded bytes ≡ Err (cert_fault n fault)
IsNoCertificate bytes OutOfMemory = Unit {0}
IsNoCertificate bytes _ = ⊥

-- the name holds the text of this certificate
pub record HoldsCertificate (m : Map) (name : List ℕ) (proofs : Proofs) : Type 0 where
  pub bytes : List ℕ
  pub held : HoldsWithin m name CertBytes bytes
  pub text : IsCertText bytes proofs

-- the certificate's read refuses, or its bytes do
abbrev pub IsCertificateStop : Map → List ℕ → Refusal → Type 0
IsCertificateStop m name refusal = IsUnread m name CertBytes refusal ⊎ ((bytes : List ℕ) × HoldsWithin m name CertBytes bytes × IsNoCertificate bytes refusal)

-- What a certificate of version 1 is read as, and what another is refused for. Own.
use Rattle.std.specs.Prelude.{◌≡◌, ◌⊎◌, ℕ, List, ◌++◌, codes}
use Rattle.cert_format.specs.Text.{Proofs, IsCertText, IsCertificate}
use Rattle.vcc_base.specs.Maps.{Map}
use Rattle.vcc_base.specs.declared.limit.Limit.TheVariants.{CertBytes}
use Rattle.vcc_io.specs.declared.refusal.Refusal.{Refusal}
use Rattle.vcc_io.specs.declared.refusal.Refusal.TheVariants.{BadCertificate}
use Rattle.vcc_io.specs.declared.refusal.LineFault.TheVariants.{BadLine}
use Rattle.vcc_io.specs.Certificates.{HoldsCertificate, IsCertificateStop, IsNoCertificate}
use Rattle.vcc_io.specs.Held.{HoldsWithin}

-- ---- bytes

-- the first line is that of version 2
abbrev pub BeginsSecond : List ℕ → Type 0
BeginsSecond bytes = (rest : List ℕ) × (bytes ≡ codes "vcc-cert 2\n" ++ rest)

-- the bytes are refused: they are of version 2, whose first line is bad here, or no certificate
abbrev pub IsNoFirstVersion : List ℕ → Refusal → Type 0
IsNoFirstVersion bytes refusal = (BeginsSecond bytes × (refusal ≡ BadCertificate 1 BadLine)) ⊎ IsNoCertificate bytes refusal

-- a certificate of version 1
pub record IsFirst (proofs : Proofs) : Type 0 where
  pub fits : IsCertificate proofs
  pub version : proofs.version ≡ 1

-- the bytes are the text of this certificate of version 1
pub record IsFirstText (bytes : List ℕ) (proofs : Proofs) : Type 0 where
  pub text : IsCertText bytes proofs
  pub version : proofs.version ≡ 1

-- ---- a name

-- The name holds a text whose first line is that of version 2. There is nothing to write anew, and that line is bad.
pub record HoldsSecondVersion (m : Map) (name : List ℕ) : Type 0 where
  pub rest : List ℕ
  pub held : HoldsWithin m name CertBytes (codes "vcc-cert 2\n" ++ rest)

-- the certificate's read refuses, or its bytes do, or they are of version 2
abbrev pub IsFirstVersionStop : Map → List ℕ → Refusal → Type 0
IsFirstVersionStop m name refusal = IsCertificateStop m name refusal ⊎ (HoldsSecondVersion m name × (refusal ≡ BadCertificate 1 BadLine))

-- the name holds a certificate of version 1
pub record HoldsFirstVersion (m : Map) (name : List ℕ) (proofs : Proofs) : Type 0 where
  pub holds : HoldsCertificate m name proofs
  pub version : proofs.version ≡ 1

-- A certificate that is written anew: what is made of it. Own.
use Rattle.std.specs.Prelude.{◌≡◌, ℕ, ◌≤◌, List, length}
use Rattle.method.specs.declared.program.Program.{Program}
use Rattle.conditions.specs.Conditions.{conditions}
use Rattle.cert_format.specs.Text.{Proofs, IsCertificate}
use Rattle.certificate_upgrade.specs.Lemmas.{AreFew}
use Rattle.certificate_upgrade.specs.Upgrade.{upgraded}
use Rattle.vcc_base.specs.Maps.{Map}
use Rattle.vcc_base.specs.Limits.{number_of}
use Rattle.vcc_base.specs.declared.limit.Limit.TheVariants.{CertBytes}
use Rattle.vcc_io.specs.FirstVersions.{HoldsFirstVersion, IsFirst}
use Rattle.vcc_cli.specs.declared.upgrade.Anew.{Anew}
use Rattle.vcc_cli.specs.Upgrades.{upgraded_text}

-- The certificate of the program is written anew: its text, no longer than it may be, and how many lemmas it has.
pub record IsAnew (p : Program) (proofs : Proofs) (new : Anew) : Type 0 where
  pub few : AreFew (upgraded p proofs).lemmas
  pub fits : IsCertificate (upgraded p proofs)
  pub text : new.text.items ≡ upgraded_text p proofs
  pub short : length (upgraded_text p proofs) ≤ number_of CertBytes
  pub many : new.lemmas ≡ length (upgraded p proofs).lemmas

-- The name holds a certificate of version 1 with one block for each condition of the program, and this is made of it.
pub record HoldsAnew (m : Map) (name : List ℕ) (p : Program) (new : Anew) : Type 0 where
  pub proofs : Proofs
  pub cert : HoldsFirstVersion m name proofs
  pub agree : length proofs.blocks ≡ length (conditions p)
  pub first : IsFirst proofs
  pub anew : IsAnew p proofs new

-- What an upgrade of a certificate prints, what it leaves in the store, and its status. Own.
use Rattle.std.specs.Prelude.{◌≡◌, ◌≢◌, ◌⊎◌, ◌↔◌, ℕ, ◌<◌, ◌≤◌, List, length, Option, Some, Result, Ok, Err, slice_get}
use Rattle.vcc_base.specs.Maps.{Map, IfTold, NowHolds}
use Rattle.vcc_base.specs.Limits.{number_of}
use Rattle.vcc_base.specs.declared.limit.Limit.TheVariants.{Conditions, CertBytes, Terms}
use Rattle.vcc_base.specs.declared.store.StoreFault.{StoreFault}
use Rattle.vcc_base.specs.declared.store.StoreFault.TheVariants as store
use Rattle.method.specs.declared.program.Program.{Program}
use Rattle.terms.specs.Formula.{Formula}
use Rattle.conditions.specs.Conditions.{conditions}
use Rattle.condition_meaning.specs.Languages.{language_of}
use Rattle.cert_format.specs.Derivations.{Derivation}
use Rattle.cert_format.specs.Text.{Proofs, IsCertText, lines_of, text_of}
use Rattle.refutation_check.specs.Follows.{Follows}
use Rattle.certificate_upgrade.specs.Lemmas.{AreFew}
use Rattle.certificate_upgrade.specs.Upgrade.{formulas_of, upgraded}
use Rattle.vcc_verify.specs.Outcomes.{LeavesFront}
use Rattle.vcc_words.specs.Words.{IsUpgrade}
use Rattle.vcc_io.specs.declared.refusal.Refusal.{Refusal}
use Rattle.vcc_io.specs.declared.refusal.Refusal.TheVariants.{Count, Limit, OutOfMemory}
use Rattle.vcc_io.specs.Held.{HoldsProgram}
use Rattle.vcc_io.specs.FirstVersions.{HoldsFirstVersion, IsFirstVersionStop}
use Rattle.vcc_io.specs.Faults.{IsReadFault, ReadCounts}
use Rattle.vcc_io.specs.Lines.{Written, IsReported, IsReportedLine, upgrade_line, write_fault_line}
use Rattle.vcc_cli.specs.Searches.{IsVerifyStop, Stored}

-- ---- its blocks

-- the certificate has another number of blocks than the program has conditions
pub record IsMiscountedFor (p : Program) (proofs : Proofs) (refusal : Refusal) : Type 0 where
  pub differ : length proofs.blocks ≢ length (conditions p)
  pub is : refusal ≡ Count (record { blocks = length proofs.blocks; conditions = length (conditions p) })

-- ---- what is made

-- the text of the certificate written anew
abbrev pub upgraded_text : Program → Proofs → List ℕ
upgraded_text p proofs = text_of (lines_of (upgraded p proofs))

-- its lemmas have more terms than a condition may need; or its text is longer than a certificate may be; or memory is wanted
abbrev pub IsUnmade : Program → Proofs → Refusal → Type 0
IsUnmade p proofs (Limit Terms) = AreFew (upgraded p proofs).lemmas → ⊥
IsUnmade p proofs (Limit CertBytes) = AreFew (upgraded p proofs).lemmas × (number_of CertBytes < length (upgraded_text p proofs))
IsUnmade p proofs OutOfMemory = Unit {0}
IsUnmade p proofs _ = ⊥

-- ---- in the order of refusals

-- the certificate with this name is refused for the program, or what it would become is
abbrev pub IsUpgradeStopOf : Map → List ℕ → Program → Refusal → Type 0
IsUpgradeStopOf m cert_name p refusal =
    IsFirstVersionStop m cert_name refusal ⊎ ((proofs : Proofs) × HoldsFirstVersion m cert_name proofs × (IsMiscountedFor p proofs refusal ⊎ ((length proofs.blocks ≡ length (conditions p)) × IsUnmade p proofs refusal)))

-- Nothing is written: the source is read and typed, its conditions are counted, then the certificate is read, its blocks are counted, and it is written anew; the first that refuses decides.
abbrev pub IsUpgradeStop : Map → List ℕ → List ℕ → Refusal → Type 0
IsUpgradeStop m source_name cert_name refusal =
    IsVerifyStop m source_name refusal ⊎ ((p : Program) × HoldsProgram m source_name p × (length (conditions p) ≤ number_of Conditions) × IsUpgradeStopOf m cert_name p refusal)

-- nothing is written, and why is reported; it is a read fault only where a read failed; the store holds what it held
pub record IsStoppedUpgrade (m : Map) (source_name cert_name : List ℕ) (reads : ReadCounts) (s : Stored) (w : Written) (status : ℕ) : Type 0 where
  pub refusal : Refusal
  pub stops : IsUpgradeStop m source_name cert_name refusal
  pub fault : IsReadFault {X = Program} (Err refusal) → reads.reads_before < reads.reads_after
  pub reported : IsReported (Err refusal) w status
  pub kept : s.after ≡ s.before

-- ---- the writing

-- What the new name holds behind the writing of a text: all of it; or it is as it was before it was created, or holds a front. A name that was created isn't missing.
abbrev pub LeavesText : Result (Unit {0}) StoreFault → Stored → List ℕ → List ℕ → Type 0
LeavesText (Ok _) s name text = NowHolds s.before s.after name text
LeavesText (Err store.Missing) s name text = IfTold s.before (λ m. ⊥)
LeavesText (Err store.Failed) s name text = LeavesFront s.before s.after name text × (s.faults_before < s.faults_after)
LeavesText (Err store.OutOfMemory) s name text = LeavesFront s.before s.after name text

-- what is printed behind the writing, and the status
abbrev pub IsWriteEnding : Result (Unit {0}) StoreFault → List ℕ → ℕ → Written → ℕ → Type 0
IsWriteEnding (Ok _) new_name lemmas w status = IsReportedLine (upgrade_line lemmas) 0 w status
IsWriteEnding (Err store.Missing) new_name lemmas w status = IsReportedLine (write_fault_line new_name) 7 w status
IsWriteEnding (Err store.Failed) new_name lemmas w status = IsReportedLine (write_fault_line new_name) 7 w status
IsWriteEnding (Err store.OutOfMemory) new_name lemmas w status = IsReported (Err OutOfMemory) w status

-- The names hold a program, and a certificate of version 1 with one block for each of its conditions; that is written anew under the new name, and how many lemmas it has is reported.
pub record IsRewritten (m : Map) (source_name cert_name new_name : List ℕ) (s : Stored) (w : Written) (status : ℕ) : Type 0 where
  pub program : Program
  pub proofs : Proofs
  pub source : HoldsProgram m source_name program
  pub cert : HoldsFirstVersion m cert_name proofs
  pub agree : length proofs.blocks ≡ length (conditions program)
  pub few : AreFew (upgraded program proofs).lemmas
  pub text : IsCertText (upgraded_text program proofs) (upgraded program proofs)
  pub short : length (upgraded_text program proofs) ≤ number_of CertBytes
  pub written : Result (Unit {0}) StoreFault
  pub leaves : LeavesText written s new_name (upgraded_text program proofs)
  pub ending : IsWriteEnding written new_name (length (upgraded program proofs).lemmas) w status

-- ---- an upgrade

-- the upgrade of these three names
abbrev pub IsUpgradeOfNames : Map → List ℕ → List ℕ → List ℕ → ReadCounts → Stored → Written → ℕ → Type 0
IsUpgradeOfNames m source_name cert_name new_name reads s w status =
    IsStoppedUpgrade m source_name cert_name reads s w status ⊎ IsRewritten m source_name cert_name new_name s w status

-- The words are an upgrade, and what it leaves and prints and its status are those of its names.
pub record IsUpgradeOf (m : Map) (words : List (List ℕ)) (reads : ReadCounts) (s : Stored) (w : Written) (status : ℕ) : Type 0 where
  pub source_name : List ℕ
  pub cert_name : List ℕ
  pub new_name : List ℕ
  pub command : IsUpgrade words source_name cert_name new_name
  pub answered : IsUpgradeOfNames m source_name cert_name new_name reads s w status

-- ---- what it shows

-- each condition follows by its block of the one certificate exactly where it follows by its block of the other
abbrev pub ShowTheSame : Program → Proofs → Proofs → Type 0
ShowTheSame p old new =
    (i : ℕ) (f : Formula) (block other : Derivation) → slice_get (formulas_of p) i ≡ Some f → slice_get old.blocks i ≡ Some block → slice_get new.blocks i ≡ Some other
    → Follows (language_of p) old.lemmas f block ↔ Follows (language_of p) new.lemmas f other

-- What an upgrade that ends with status 0 leaves: the new name holds the text of a certificate, that of the other name written anew, and both show the same of the source.
pub record LeavesUpgrade (m : Map) (now : Option Map) (source_name cert_name new_name : List ℕ) : Type 0 where
  pub program : Program
  pub proofs : Proofs
  pub source : HoldsProgram m source_name program
  pub cert : HoldsFirstVersion m cert_name proofs
  pub text : IsCertText (upgraded_text program proofs) (upgraded program proofs)
  pub leaves : NowHolds (Some m) now new_name (upgraded_text program proofs)
  pub same : ShowTheSame program proofs (upgraded program proofs)

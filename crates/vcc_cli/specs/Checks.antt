-- What a check of two names answers and prints, and its status.
use Rattle.std.specs.Prelude.{◌≡◌, ◌≢◌, ◌⊎◌, ℕ, ◌<◌, ◌≤◌, List, length, Result, Ok, Err}
use Rattle.method.specs.declared.program.Program.{Program}
use Rattle.conditions.specs.Conditions.{conditions}
use Rattle.cert_format.specs.Derivations.{Derivation}
use Rattle.cert_format.specs.Text.{Proofs}
use Rattle.vcc_judge.specs.declared.verdict.Verdict.TheVariants as v
use Rattle.vcc_judge.specs.declared.verdict.JudgeFault.TheVariants as j
use Rattle.vcc_judge.specs.Verdicts.{IsJudged}
use Rattle.vcc_base.specs.Maps.{Map}
use Rattle.vcc_base.specs.Limits.{number_of}
use Rattle.vcc_base.specs.declared.limit.Limit.TheVariants.{Conditions, Terms}
use Rattle.vcc_io.specs.declared.refusal.Refusal.{Refusal}
use Rattle.vcc_io.specs.declared.refusal.Refusal.TheVariants.{Count, Wide, Limit, OutOfMemory}
use Rattle.vcc_io.specs.declared.verdict.Verdict.{Verdict}
use Rattle.vcc_io.specs.declared.verdict.Verdict.TheVariants.{Yes, No}
use Rattle.vcc_io.specs.Certificates.{HoldsCertificate, IsCertificateStop}
use Rattle.vcc_io.specs.Faults.{IsReadFault, ReadCounts}
use Rattle.vcc_io.specs.Held.{HoldsProgram, IsSourceStop}
use Rattle.vcc_io.specs.Lines.{Written, IsReported}
use Rattle.check_labels.specs.Names.{item_name}

-- ---- a certificate's lemmas and blocks

-- what lemmas and blocks give for a program's conditions, one block for each
abbrev pub AreJudged : Program → List Derivation → List Derivation → Result Verdict Refusal → Type 0
AreJudged p lemmas blocks (Ok Yes) = IsJudged p lemmas blocks (Ok v.Yes)
AreJudged p lemmas blocks (Ok (No failing)) = (failing.name.now ≡ item_name p failing.label.item) × IsJudged p lemmas blocks (Ok (v.No failing.label))
AreJudged p lemmas blocks (Err (Wide w)) = IsJudged p lemmas blocks (Err (j.Wide w))
AreJudged p lemmas blocks (Err (Limit Terms)) = IsJudged p lemmas blocks (Err j.Terms)
AreJudged p lemmas blocks (Err OutOfMemory) = Unit {0}
AreJudged p lemmas blocks (Err _) = ⊥

-- a certificate has another number of blocks than the program has conditions
pub record IsMiscounted (p : Program) (proofs : Proofs) (answer : Result Verdict Refusal) : Type 0 where
  pub differ : length proofs.blocks ≢ length (conditions p)
  pub is : answer ≡ Err (Count (record { blocks = length proofs.blocks; conditions = length (conditions p) }))

-- it has as many, and they are judged, behind the lemmas
pub record IsCounted (p : Program) (proofs : Proofs) (answer : Result Verdict Refusal) : Type 0 where
  pub agree : length proofs.blocks ≡ length (conditions p)
  pub judged : AreJudged p proofs.lemmas proofs.blocks answer

-- ---- in the order of refusals

-- a refusal, for this reason
pub record Refuses (Why : Refusal → Type 0) (answer : Result Verdict Refusal) : Type 0 where
  pub refusal : Refusal
  pub is : answer ≡ Err refusal
  pub why : Why refusal

-- the certificate with this name is refused, or its blocks are counted, and judged
abbrev pub IsCertificateAnswer : Map → List ℕ → Program → Result Verdict Refusal → Type 0
IsCertificateAnswer m name p answer = Refuses (IsCertificateStop m name) answer ⊎ ((proofs : Proofs) × HoldsCertificate m name proofs × (IsMiscounted p proofs answer ⊎ IsCounted p proofs answer))

-- the program has too many conditions; or few enough, and the certificate decides; or memory is wanted
abbrev pub IsProgramAnswer : Map → List ℕ → Program → Result Verdict Refusal → Type 0
IsProgramAnswer m name p answer =
    ((number_of Conditions < length (conditions p)) × (answer ≡ Err (Limit Conditions))) ⊎ ((length (conditions p) ≤ number_of Conditions) × IsCertificateAnswer m name p answer) ⊎ (answer ≡ Err OutOfMemory)

-- The answer of a check of these two names: the source is read and typed, its conditions are counted, the certificate is read and its blocks counted, and then its lemmas and its blocks are judged in order; the first that refuses decides.
abbrev pub IsCheckAnswer : Map → List ℕ → List ℕ → Result Verdict Refusal → Type 0
IsCheckAnswer m source_name cert_name answer = Refuses (IsSourceStop m source_name) answer ⊎ ((p : Program) × HoldsProgram m source_name p × IsProgramAnswer m cert_name p answer)

-- ---- what is printed

-- The answer of a check of these two names is reported; it is a read fault only where a read failed.
pub record IsChecked (m : Map) (source_name cert_name : List ℕ) (reads : ReadCounts) (written : Written) (status : ℕ) : Type 0 where
  pub answer : Result Verdict Refusal
  pub answers : IsCheckAnswer m source_name cert_name answer
  pub fault : IsReadFault answer → reads.reads_before < reads.reads_after
  pub reported : IsReported answer written status

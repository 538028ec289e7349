-- What a verify of a source prints, what it leaves in the store, and its status.
use Rattle.std.specs.Prelude.{◌≡◌, ◌⊎◌, ℕ, ◌<◌, List, Bool, true, false, Option, Result, Ok, Err, IsErrOf}
use Rattle.vcc_base.specs.Maps.{Map}
use Rattle.vcc_base.specs.declared.limit.Limit.TheVariants.{CertBytes}
use Rattle.vcc_base.specs.declared.store.StoreFault.TheVariants as store
use Rattle.vcc_base.specs.declared.sink.SinkFault.TheVariants as sink
use Rattle.method.specs.declared.program.Program.{Program}
use Rattle.vcc_verify.specs.declared.fault.VerifyFault.{VerifyFault}
use Rattle.vcc_verify.specs.declared.fault.VerifyFault.TheVariants as verify
use Rattle.vcc_verify.specs.Outcomes.{Verifies}
use Rattle.vcc_words.specs.Words.{IsVerify}
use Rattle.vcc_io.specs.declared.refusal.Refusal.{Refusal}
use Rattle.vcc_io.specs.declared.refusal.Refusal.TheVariants.{Limit, OutOfMemory}
use Rattle.vcc_io.specs.Source.{IsManyOrMemory}
use Rattle.vcc_io.specs.Held.{HoldsProgram, IsSourceStop}
use Rattle.vcc_io.specs.Faults.{IsReadFault, ReadCounts}
use Rattle.vcc_io.specs.Lines.{Written, IsReported, IsReportedLine, write_fault_line}

-- what a store held before and holds after, where it tells it, and how many of its writes failed before and after
pub record Stored : Type 0 where
  pub before : Option Map
  pub after : Option Map
  pub faults_before : ℕ
  pub faults_after : ℕ

-- these counts, and what is held
abbrev pub stored : ℕ → ℕ → Option Map → Option Map → Stored
stored m n old new = record { before = old; after = new; faults_before = m; faults_after = n }

-- ---- before the search

-- No search begins: the source is read and typed, then its conditions are counted; the first that refuses decides.
abbrev pub IsVerifyStop : Map → List ℕ → Refusal → Type 0
IsVerifyStop m source_name refusal = IsSourceStop m source_name refusal ⊎ ((p : Program) × HoldsProgram m source_name p × IsManyOrMemory p refusal)

-- no search of this source begins, and why is reported; it is a read fault only where a read failed; the store holds what it held
pub record IsStoppedVerify (m : Map) (source_name : List ℕ) (reads : ReadCounts) (s : Stored) (w : Written) (status : ℕ) : Type 0 where
  pub refusal : Refusal
  pub stops : IsVerifyStop m source_name refusal
  pub fault : IsReadFault {X = Program} (Err refusal) → reads.reads_before < reads.reads_after
  pub reported : IsReported (Err refusal) w status
  pub kept : s.after ≡ s.before

-- ---- the search

-- What stands behind the lines of a search, and the status: nothing where it came to its end; else why it didn't. A sink that took no more gets nothing.
abbrev pub IsEnding : List ℕ → Result Bool VerifyFault → Written → ℕ → Type 0
IsEnding cert_name (Ok true) w status = (status ≡ 0) × (w.after ≡ w.before)
IsEnding cert_name (Ok false) w status = (status ≡ 1) × (w.after ≡ w.before)
IsEnding cert_name (Err verify.CertBytes) w status = IsReported (Err (Limit CertBytes)) w status
IsEnding cert_name (Err (verify.Store store.OutOfMemory)) w status = IsReported (Err OutOfMemory) w status
IsEnding cert_name (Err (verify.Store store.Failed)) w status = IsReportedLine (write_fault_line cert_name) 7 w status
IsEnding cert_name (Err (verify.Store store.Missing)) w status = IsReportedLine (write_fault_line cert_name) 7 w status
IsEnding cert_name (Err (verify.Sink sink.Failed)) w status = (status ≡ 7) × (w.after ≡ w.before)
IsEnding cert_name (Err (verify.Sink sink.OutOfMemory)) w status = (status ≡ 8) × (w.after ≡ w.before)
IsEnding cert_name (Err verify.OutOfMemory) w status = IsReported (Err OutOfMemory) w status

-- The name holds a program, and the search over its conditions leaves its blocks and prints its lines; a write fault is answered only where a write failed.
pub record IsSearched (m : Map) (source_name cert_name : List ℕ) (s : Stored) (w : Written) (status : ℕ) : Type 0 where
  pub program : Program
  pub source : HoldsProgram m source_name program
  pub result : Result Bool VerifyFault
  pub middle : Option (List ℕ)
  pub verifies : Verifies program cert_name s.before s.after w.before middle result
  pub store_fault : IsErrOf result (verify.Store store.Failed) → s.faults_before < s.faults_after
  pub sink_fault : IsErrOf result (verify.Sink sink.Failed) → w.faults_before < w.faults_after
  pub ending : IsEnding cert_name result (record w { before = middle }) status

-- ---- a verify

-- the verify of these two names
abbrev pub IsVerifyOfNames : Map → List ℕ → List ℕ → ReadCounts → Stored → Written → ℕ → Type 0
IsVerifyOfNames m source_name cert_name reads s w status =
    IsStoppedVerify m source_name reads s w status ⊎ IsSearched m source_name cert_name s w status

-- The words are a verify, and what it leaves and prints and its status are those of its names.
pub record IsVerifyOf (m : Map) (words : List (List ℕ)) (reads : ReadCounts) (s : Stored) (w : Written) (status : ℕ) : Type 0 where
  pub source_name : List ℕ
  pub cert_name : List ℕ
  pub leaves : ℕ
  pub rounds : ℕ
  pub command : IsVerify words source_name cert_name leaves rounds
  pub answered : IsVerifyOfNames m source_name cert_name reads s w status

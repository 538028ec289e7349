-- What a gen prints, and its status. Own.
use Rattle.std.specs.Prelude.{◌≡◌, ◌⊎◌, ℕ, ◌<◌, List, [], length, codes, Bool, Option, Some, Result, Ok, Err}
use Rattle.generated_source.specs.Sources.{generated}
use Rattle.method.specs.declared.program.Program.{Program}
use Rattle.c_types.specs.Typed.{IsProgramOf}
use Rattle.vcc_base.specs.Limits.{number_of}
use Rattle.vcc_base.specs.Maps.{Map, NowWritten}
use Rattle.vcc_base.specs.Memory.{look_up}
use Rattle.vcc_base.specs.declared.limit.Limit.TheVariants.{SourceBytes, CertBytes}
use Rattle.vcc_verify.specs.Outcomes.{Verifies}
use Rattle.vcc_verify.specs.declared.fault.VerifyFault.{VerifyFault}
use Rattle.vcc_verify.specs.declared.fault.VerifyFault.TheVariants as verify
use Rattle.vcc_words.specs.Words.{IsGen}
use Rattle.vcc_io.specs.declared.refusal.Refusal.{Refusal}
use Rattle.vcc_io.specs.declared.refusal.Refusal.TheVariants.{Limit}
use Rattle.vcc_io.specs.declared.verdict.Verdict.{Verdict}
use Rattle.vcc_io.specs.declared.verdict.Verdict.TheVariants.{Yes, No}
use Rattle.vcc_io.specs.Source.{IsManyOrMemory, IsSourceRefusalOrMemory}
use Rattle.vcc_io.specs.Lines.{Written, IsReported, IsReportedLine, copies_line}
use Rattle.vcc_cli.specs.Accepts.{IsGenAccepted}
use Rattle.vcc_cli.specs.Checks.{IsProgramAnswer, Refuses}

-- ---- the search, in a store and a sink of its own

-- the name of the certificate there
abbrev pub cert_name : List ℕ
cert_name = codes "cert"

-- A verify of the program, whose store and sink hold nothing at first, comes to this result, and its store then holds this.
pub record IsSearch (p : Program) (left : Option Map) (result : Result Bool VerifyFault) : Type 0 where
  pub written : Option (List ℕ)
  pub verifies : Verifies p cert_name (Some (look_up [])) left (Some []) written result

-- it breaks off, since the certificate would be too long
abbrev pub IsTooLong : Program → Refusal → Type 0
IsTooLong p refusal = (refusal ≡ Limit CertBytes) × ((left : Option Map) × IsSearch p left (Err verify.CertBytes))

-- it comes to its end, whether each condition has a block or not
abbrev pub LeavesCertificate : Program → Map → Type 0
LeavesCertificate p left = (all : Bool) × IsSearch p (Some left) (Ok all)

-- ---- the answer

-- the source is refused, or it is longer than a source may be
abbrev pub IsCopiesStop : List ℕ → Refusal → Type 0
IsCopiesStop source refusal = IsSourceRefusalOrMemory source refusal ⊎ ((refusal ≡ Limit SourceBytes) × (number_of SourceBytes < length source))

-- the program's conditions are too many, or its certificate would be too long
abbrev pub IsSearchStop : Program → Refusal → Type 0
IsSearchStop p refusal = IsManyOrMemory p refusal ⊎ IsTooLong p refusal

-- what a program comes to: its search stops, or the certificate that the search leaves is judged as a check judges one
abbrev pub IsSearchAnswer : Program → Result Verdict Refusal → Type 0
IsSearchAnswer p answer = Refuses (IsSearchStop p) answer ⊎ ((left : Map) × LeavesCertificate p left × IsProgramAnswer left cert_name p answer)

-- The source is read and typed, its certificate is searched, and that is judged; the first that refuses decides.
abbrev pub IsGenAnswer : List ℕ → Result Verdict Refusal → Type 0
IsGenAnswer source answer = Refuses (IsCopiesStop source) answer ⊎ ((p : Program) × IsProgramOf source p × IsSearchAnswer p answer)

-- ---- what is printed

-- the line of a verdict or of a refusal is written, with its status, or a front of it
abbrev pub IsReportedGen : ℕ → Result Verdict Refusal → Written → ℕ → Type 0
IsReportedGen copies (Ok Yes) w status = IsReportedLine (copies_line copies (codes "verified, yes")) 0 w status
IsReportedGen copies (Ok (No failing)) w status = IsReportedLine (copies_line copies (codes "not verified, no")) 1 w status
IsReportedGen copies (Err refusal) w status = IsReported (Err refusal) w status

-- ---- a gen

-- The answer of the source of so many copies is reported.
pub record IsGenOfNumber (copies : ℕ) (w : Written) (status : ℕ) : Type 0 where
  pub answer : Result Verdict Refusal
  pub answers : IsGenAnswer (generated copies) answer
  pub reported : IsReportedGen copies answer w status

-- What a gen shows: at status 0 its line says yes, there is a certificate by which the source of so many copies is accepted, and the source is safe; at status 1 its line says no.
pub record ShowsCopies (copies : ℕ) (w : Written) (status : ℕ) : Type 0 where
  pub at_yes : status ≡ 0 → NowWritten w.before w.after (copies_line copies (codes "verified, yes")) × IsGenAccepted copies
  pub at_no : status ≡ 1 → NowWritten w.before w.after (copies_line copies (codes "not verified, no"))

-- The words are a gen, and what it prints and its status are those of its number.
pub record IsGenOf (words : List (List ℕ)) (w : Written) (status : ℕ) : Type 0 where
  pub copies : ℕ
  pub command : IsGen words copies
  pub answered : IsGenOfNumber copies w status

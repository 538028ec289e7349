-- The lines that are printed; which is that of an answer, and its status.
use Rattle.std.specs.Prelude.{◌≡◌, ◌⊎◌, ℕ, ◌+◌, ◌*◌, ℤ, ◌<◌, List, [], ◌∷◌, ◌++◌, Option, Result, Ok, Err, codes, decimal}
use Rattle.std.specs.Fmt.{signed_decimal}
use Rattle.c_syntax.specs.declared.token.Span.{Span}
use Rattle.typing_spec.specs.Rules.{number}
use Rattle.typing_expressions.specs.Views.{rule}
use Rattle.vcc_base.specs.Maps.{NowWritten, FrontWritten}
use Rattle.vcc_base.specs.Limits.{number_of, name_of}
use Rattle.vcc_search.specs.Reports.{label_text}
use Rattle.vcc_io.specs.declared.verdict.Failing.{Failing}
use Rattle.vcc_io.specs.declared.verdict.Verdict.{Verdict}
use Rattle.vcc_io.specs.declared.verdict.Verdict.TheVariants.{Yes, No}
use Rattle.vcc_io.specs.declared.refusal.BlockCount.{BlockCount}
use Rattle.vcc_io.specs.declared.refusal.Refusal.{Refusal}
use Rattle.vcc_io.specs.declared.refusal.Refusal.TheVariants.{Usage, BadByte, BadNumber, OpenComment, Unexpected, UnknownForm, BreaksRule, BadCertificate, Count, BadSchedule, BadArgs, Wide, Exhausted, Limit, Missing, ReadFault, OutOfMemory}
use Rattle.vcc_io.specs.declared.refusal.LineFault.{LineFault}
use Rattle.vcc_io.specs.declared.refusal.LineFault.TheVariants as line_fault

-- a line of this text
abbrev pub line : List ℕ → List ℕ
line text = text ++ 10 ∷ []

-- a fault of a source: its line and its column, what it is a fault of, and its number; or a typing rule that is broken there, by its number
abbrev pub source_line : Span → List ℕ → ℕ → List ℕ
source_line place stage n =
    codes "source " ++ (decimal place.line ++ (codes ":" ++ (decimal place.column ++ (codes ": " ++ (stage ++ (codes " " ++ line (decimal n)))))))

-- the name of what is wrong with a line of a certificate or of a schedule
abbrev pub fault_name : LineFault → List ℕ
fault_name line_fault.BadLine = codes "BadLine"
fault_name line_fault.BadNumber = codes "BadNumber"
fault_name line_fault.CutShort = codes "CutShort"
fault_name line_fault.Trailing = codes "Trailing"
fault_name line_fault.CountOver = codes "CountOver"

-- a fault of a schedule: its line, and what is wrong with it
abbrev pub schedule_line : ℕ → LineFault → List ℕ
schedule_line n fault = codes "schedule line " ++ (decimal n ++ (codes ": " ++ line (fault_name fault)))

-- a fault of a certificate
abbrev pub cert_line : ℕ → LineFault → List ℕ
cert_line n fault = codes "certificate line " ++ (decimal n ++ (codes ": " ++ line (fault_name fault)))

-- a certificate with another number of blocks than the source has conditions
abbrev pub count_line : BlockCount → List ℕ
count_line c = codes "certificate: conditions " ++ (decimal c.blocks ++ (codes ", source has " ++ line (decimal c.conditions)))

-- a check whose condition doesn't follow: its item's name, its ordinal there, its kind and its line
abbrev pub label_line : Failing → List ℕ
label_line f = line (label_text f.name.now f.label.ordinal f.label.kind f.label.line)

-- the line of a check of which this is the first such check
abbrev pub no_line : Failing → List ℕ
no_line f = codes "no: " ++ label_line f

-- a value that would leave 128 bits: the operands of its operation
abbrev pub wide_line : ℤ → ℤ → List ℕ
wide_line left right = codes "limit: Wide " ++ (signed_decimal left ++ (codes " " ++ line (signed_decimal right)))

-- a write that the store didn't take
abbrev pub write_fault_line : List ℕ → List ℕ
write_fault_line name = codes "write fault: " ++ line name

-- how many lemmas the new certificate has
abbrev pub upgrade_line : ℕ → List ℕ
upgrade_line lemmas = codes "upgraded: " ++ (decimal lemmas ++ line (codes " lemmas"))

-- so many copies, of three types and five functions each, the main function, and what is shown of them
abbrev pub copies_line : ℕ → List ℕ → List ℕ
copies_line copies outcome =
    codes "gen " ++ (decimal copies ++ (codes ": " ++ (decimal (3 * copies) ++ (codes " types, " ++ (decimal (5 * copies + 1) ++ (codes " functions, " ++ line outcome))))))

-- the line of an answer
abbrev pub line_of : Result Verdict Refusal → List ℕ
line_of (Ok Yes) = line (codes "yes")
line_of (Ok (No failing)) = no_line failing
line_of (Err Usage) = line (codes "usage: vcc check SOURCE CERT, verify SOURCE CERT [--leaves N] [--rounds N], run SOURCE SCHEDULE, gen N, upgrade SOURCE CERT NEW")
line_of (Err (BadByte place)) = source_line place (codes "token") 1
line_of (Err (BadNumber place)) = source_line place (codes "token") 2
line_of (Err (OpenComment place)) = source_line place (codes "token") 3
line_of (Err (Unexpected place)) = source_line place (codes "syntax") 1
line_of (Err (UnknownForm place)) = source_line place (codes "syntax") 2
line_of (Err (BreaksRule broken)) = source_line broken.span (codes "rule") (number (rule broken.rule))
line_of (Err (BadCertificate n fault)) = cert_line n fault
line_of (Err (Count c)) = count_line c
line_of (Err (BadSchedule n fault)) = schedule_line n fault
line_of (Err BadArgs) = line (codes "schedule: BadArgs")
line_of (Err (Wide w)) = wide_line w.a w.b
line_of (Err Exhausted) = line (codes "limit: Serials 4294967295")
line_of (Err (Limit limit)) = codes "limit: " ++ (name_of limit ++ (codes " " ++ line (decimal (number_of limit))))
line_of (Err (Missing name)) = codes "missing: " ++ line name.now
line_of (Err (ReadFault name)) = codes "read fault: " ++ line name.now
line_of (Err OutOfMemory) = line (codes "out of memory")

-- the status of an answer
abbrev pub status_of : Result Verdict Refusal → ℕ
status_of (Ok Yes) = 0
status_of (Ok (No failing)) = 1
status_of (Err Usage) = 2
status_of (Err (BadByte place)) = 3
status_of (Err (BadNumber place)) = 3
status_of (Err (OpenComment place)) = 3
status_of (Err (Unexpected place)) = 3
status_of (Err (UnknownForm place)) = 3
status_of (Err (BreaksRule broken)) = 3
status_of (Err (BadCertificate n fault)) = 4
status_of (Err (Count c)) = 4
status_of (Err (BadSchedule n fault)) = 3
status_of (Err BadArgs) = 3
status_of (Err (Wide w)) = 5
status_of (Err Exhausted) = 5
status_of (Err (Limit limit)) = 5
status_of (Err (Missing name)) = 6
status_of (Err (ReadFault name)) = 6
status_of (Err OutOfMemory) = 8

-- how many writes failed before and after, and the bytes written before and after, where they are told
pub record Written : Type 0 where
  pub faults_before : ℕ
  pub faults_after : ℕ
  pub before : Option (List ℕ)
  pub after : Option (List ℕ)

-- these counts, and these bytes
abbrev pub wrote : ℕ → ℕ → Option (List ℕ) → Option (List ℕ) → Written
wrote m n old new = record { faults_before = m; faults_after = n; before = old; after = new }

-- This line is written, and this is the status; or a front of the line is written, and a write failed, with status 7, or memory was wanted, with status 8.
abbrev pub IsReportedLine : List ℕ → ℕ → Written → ℕ → Type 0
IsReportedLine text own w status =
    ((status ≡ own) × NowWritten w.before w.after text) ⊎ ((status ≡ 7) × (w.faults_before < w.faults_after) × FrontWritten w.before w.after text) ⊎ ((status ≡ 8) × FrontWritten w.before w.after text)

-- The answer's line is written, with the answer's status, or a front of it.
abbrev pub IsReported : Result Verdict Refusal → Written → ℕ → Type 0
IsReported answer w status = IsReportedLine (line_of answer) (status_of answer) w status

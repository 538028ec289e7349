-- What a reader of certificates keeps, and what it is behind a piece of the text. Own.
use Rattle.std.specs.Prelude.{◌≡◌, ℕ, ◌+◌, ◌-◌, Bool, ◌&&◌, ◌||◌, List, [], ◌∷◌, ◌++◌, length, take, drop, fold, flat_map, is_some, nat_lt, codes, Option, Some, None, Result, Ok, Err, ◌==◌, if◌then◌else◌}
use Rattle.terms.specs.declared.term.Term.{Term}
use Rattle.cert_format.specs.Derivations.{Derivation}
use Rattle.cert_format.specs.declared.certificate.Owner.{Owner}
use Rattle.cert_format.specs.declared.certificate.Owner.TheVariants.{OfLemma, OfCondition}
use Rattle.cert_format.specs.declared.certificate.Step.{Step}
use Rattle.cert_format.specs.declared.fault.LineFault.{LineFault}
use Rattle.cert_format.specs.declared.fault.LineFault.TheVariants as l
use Rattle.cert_format.specs.declared.fault.CertFault.{CertFault}
use Rattle.cert_format.specs.declared.fault.CertFault.TheVariants as f
use Rattle.cert_format.specs.declared.stage.Counts.{Counts}
use Rattle.cert_format.specs.declared.stage.Stage.{Stage}
use Rattle.cert_format.specs.declared.stage.Stage.TheVariants.{Version, LemmaCount, Lemmas, InDerivation, Conditions, Ended}
use Rattle.cert_lines.specs.Grammar.{Reading, ◌>>=◌, IsWithinLine, words_of, needs, version_line, count_line, head_line, term_line, step_line, end_line}
use Rattle.cert_format.specs.Text.{Line, Proofs}

-- ---- whole lines

-- what the whole lines so far have given
pub record Progress : Type 0 where
  -- the version; 0 before the first line
  pub version : ℕ
  pub lemma_count : ℕ
  -- the number in the line `conditions`, once it was read
  pub count : Option ℕ
  -- which line has to come next
  pub stage : Stage
  -- the terms and steps of the lemma or block that isn't whole yet
  pub terms : List Term
  pub steps : List Step
  -- the whole lemmas and blocks that weren't handed out
  pub lemmas : List Derivation
  pub blocks : List Derivation
  -- how many lines there were
  pub lines : ℕ

abbrev pub unread : Progress
unread = record { version = 0; lemma_count = 0; count = None; stage = Version; terms = []; steps = []; lemmas = []; blocks = []; lines = 0 }

-- the lemma or block is whole, and left others are still to begin
abbrev pub completed : Progress → Owner → ℕ → Progress
completed p (OfLemma _) left = record p { stage = Lemmas left; terms = []; steps = []; lemmas = p.lemmas ++ (record { terms = p.terms; steps = p.steps }) ∷ [] }
completed p (OfCondition _) left = record p { stage = Conditions left; terms = []; steps = []; blocks = p.blocks ++ (record { terms = p.terms; steps = p.steps }) ∷ [] }

-- lines of it are still to come, or it is whole
abbrev pub continued : Progress → Owner → ℕ → Counts → Progress
continued p owner left counts = if counts.terms == 0 && counts.steps == 0 then completed p owner left else record p { stage = InDerivation owner left counts }

abbrev pub with_term : Progress → Owner → ℕ → Counts → Term → Progress
with_term p owner left counts t = continued (record p { terms = p.terms ++ t ∷ [] }) owner left (record counts { terms = counts.terms - 1 })

abbrev pub with_step : Progress → Owner → ℕ → Counts → Step → Progress
with_step p owner left counts s = continued (record p { steps = p.steps ++ s ∷ [] }) owner left (record { terms = 0; steps = counts.steps - 1; literals = counts.literals - length s.clause })

-- the last step reaches the number of literals
abbrev pub reaches : Counts → Step → Bool
reaches counts s = nat_lt 1 counts.steps || length s.clause == counts.literals

-- how the stage goes on behind the first line
abbrev pub after_version : ℕ → Stage
after_version version = if version == 2 then LemmaCount else Lemmas 0

unfoldable pub take_version : Progress → Line → Reading Progress
take_version p line = version_line line >>= λ v. Ok (record p { version = v; stage = after_version v })

unfoldable pub take_lemma_count : Progress → Line → Reading Progress
take_lemma_count p line = count_line (codes "lemmas") line >>= λ m. Ok (record p { lemma_count = m; stage = Lemmas m })

unfoldable pub take_condition_count : Progress → Line → Reading Progress
take_condition_count p line = count_line (codes "conditions") line >>= λ n. Ok (record p { count = Some n; stage = Conditions n })

-- the first line of a lemma or block, behind which so many others are still to begin
unfoldable pub take_head : Progress → Owner → ℕ → Line → Reading Progress
take_head p owner left line = head_line owner line >>= λ counts. Ok (continued p owner left counts)

unfoldable pub take_term : Progress → Owner → ℕ → Counts → Line → Reading Progress
take_term p owner left counts line = term_line line >>= λ t. Ok (with_term p owner left counts t)

unfoldable pub take_step : Progress → Owner → ℕ → Counts → Line → Reading Progress
take_step p owner left counts line = step_line owner counts.literals line >>= λ s. needs (reaches counts s) l.BadLine >>= λ _. Ok (with_step p owner left counts s)

unfoldable pub take_end : Progress → Line → Reading Progress
take_end p line = end_line line >>= λ _. Ok (record p { stage = Ended })

-- a lemma begins, or all were read; lemmas are numbered from 0
abbrev pub in_lemmas : Progress → ℕ → Line → Reading Progress
in_lemmas p left line = if left == 0 then take_condition_count p line else take_head p (OfLemma (p.lemma_count - left)) (left - 1) line

-- terms come before steps
abbrev pub in_derivation : Progress → Owner → ℕ → Counts → Line → Reading Progress
in_derivation p owner left counts line = if counts.terms == 0 then take_step p owner left counts line else take_term p owner left counts line

-- a block begins, or all were read
abbrev pub in_conditions : Progress → ℕ → Line → Reading Progress
in_conditions p left line = if left == 0 then take_end p line else take_head p (OfCondition p.version) (left - 1) line

-- the line that has to come
abbrev pub next_line : Progress → Stage → Line → Reading Progress
next_line p Version line = take_version p line
next_line p LemmaCount line = take_lemma_count p line
next_line p (Lemmas left) line = in_lemmas p left line
next_line p (InDerivation owner left counts) line = in_derivation p owner left counts line
next_line p (Conditions left) line = in_conditions p left line
next_line p Ended line = Err l.Trailing

-- the lines are read in order, and counted
unfoldable pub take_line : Progress → Line → Reading Progress
take_line p line = next_line p p.stage line >>= λ q. Ok (record q { lines = q.lines + 1 })

-- the bytes of a line, without its LF
abbrev pub take_bytes : Progress → List ℕ → Reading Progress
take_bytes p bytes = take_line p (words_of bytes)

-- What a function left, and answered, is what reading gives; a fault changes nothing.
abbrev pub Leaves : Progress → Progress → Reading Progress → Reading (Unit {0}) → Type 0
Leaves old new read (Ok _) = read ≡ Ok new
Leaves old new read (Err l.OutOfMemory) = Unit {0}
Leaves old new read (Err e) = (read ≡ Err e) × (new ≡ old)

-- ---- bytes

-- what is kept of the bytes so far
pub record Scan : Type 0 where
  pub progress : Progress
  -- the line that isn't whole yet
  pub line : List ℕ
  -- how many bytes there were, up to the first fault
  pub bytes : ℕ
  pub fault : Option CertFault

abbrev pub start : Scan
start = record { progress = unread; line = []; bytes = 0; fault = None }

-- the fault on this line
abbrev pub on_line : LineFault → ℕ → CertFault
on_line l.BadLine n = f.BadLine n
on_line l.BadNumber n = f.BadNumber n
on_line l.CountOver n = f.CountOver n
on_line l.Trailing n = f.Trailing n
on_line l.OutOfMemory n = f.OutOfMemory

abbrev pub behind_line : Scan → Reading Progress → Scan
behind_line s (Ok p) = record { progress = p; line = []; bytes = s.bytes + 1; fault = None }
behind_line s (Err e) = record { progress = s.progress; line = []; bytes = s.bytes + 1; fault = Some (on_line e (s.progress.lines + 1)) }

abbrev pub next_byte : Scan → ℕ → Scan
next_byte s b = if b == 10 then behind_line s (take_line s.progress (words_of s.line)) else record s { line = s.line ++ b ∷ []; bytes = s.bytes + 1 }

-- nothing is read behind a fault
abbrev pub take_byte : Scan → ℕ → Scan
take_byte s b = if is_some s.fault then s else next_byte s b

-- what is kept behind the piece
unfoldable pub scan : Scan → List ℕ → Scan
scan s piece = fold take_byte s piece

-- a whole line of these bytes holds this fault, and it is the first
abbrev pub MeetsFault : List ℕ → CertFault → Type 0
MeetsFault bytes e = (scan start bytes).fault ≡ Some e

-- ---- what is answered

-- a line must come unless `end` was read, and behind it none may
abbrev pub missing : Stage → List ℕ → ℕ → Result (Unit {0}) CertFault
missing Ended [] n = Ok tt
missing Ended (_ ∷ _) n = Err (f.Trailing n)
missing _ line n = Err (f.CutShort n)

-- the answer to a piece
abbrev pub fed : Option CertFault → Result (Unit {0}) CertFault
fed None = Ok tt
fed (Some e) = Err e

abbrev pub finished : Option CertFault → Progress → List ℕ → Result (Unit {0}) CertFault
finished None p line = missing p.stage line (p.lines + 1)
finished (Some e) p line = Err e

-- the answer at the end of the text
abbrev pub answer : Scan → Result (Unit {0}) CertFault
answer s = finished s.fault s.progress s.line

abbrev pub proofs_of : Progress → Proofs
proofs_of p = record { version = p.version; lemmas = p.lemmas; blocks = p.blocks }

abbrev pub result_of : Result (Unit {0}) CertFault → Progress → Result Proofs CertFault
result_of (Ok _) p = Ok (proofs_of p)
result_of (Err e) p = Err e

-- the certificate whose text the bytes are, or the first fault
unfoldable pub decoded : List ℕ → Result Proofs CertFault
decoded bytes = let s = scan start bytes in result_of (answer s) s.progress

-- Unless it answers that memory ran out, a call leaves this.
abbrev pub Keeps : Result (Unit {0}) CertFault → Scan → Scan → Type 0
Keeps (Err f.OutOfMemory) new kept = new.fault ≡ Some f.OutOfMemory
Keeps _ new kept = new ≡ kept

-- what is kept behind more of a line, and behind its LF
abbrev pub with_bytes : Scan → List ℕ → Scan
with_bytes s front = record s { line = s.line ++ front; bytes = s.bytes + length front }

abbrev pub with_line : Scan → List ℕ → Scan
with_line s front = behind_line (with_bytes s front) (take_line s.progress (words_of (s.line ++ front)))

-- front is the first whole line, and rest stands behind its LF
abbrev pub SplitsLine : List ℕ → List ℕ → List ℕ → Type 0
SplitsLine bytes front rest = (bytes ≡ front ++ 10 ∷ rest) × IsWithinLine front

-- ---- handing out

abbrev pub without_lemma : Scan → Scan
without_lemma s = record s { progress = record s.progress { lemmas = drop 1 s.progress.lemmas } }

abbrev pub without_block : Scan → Scan
without_block s = record s { progress = record s.progress { blocks = drop 1 s.progress.blocks } }

-- what the owner of a reader may do before the end
pub data Use : Type 0 where
  Feed : List ℕ → Use
  NextLemma : Use
  NextBlock : Use

-- a reader, and the lemmas and blocks that it handed out
pub record Session : Type 0 where
  pub reader : Scan
  pub lemmas : List Derivation
  pub blocks : List Derivation

abbrev pub fresh : Session
fresh = record { reader = start; lemmas = []; blocks = [] }

abbrev pub use_once : Session → Use → Session
use_once s (Feed piece) = record s { reader = scan s.reader piece }
use_once s NextLemma = record s { reader = without_lemma s.reader; lemmas = s.lemmas ++ take 1 s.reader.progress.lemmas }
use_once s NextBlock = record s { reader = without_block s.reader; blocks = s.blocks ++ take 1 s.reader.progress.blocks }

abbrev pub use_all : Session → List Use → Session
use_all = fold use_once

-- a new reader, used so
abbrev pub session : List Use → Session
session = use_all fresh

-- those that were handed out, and those that are left
abbrev pub all_lemmas : Session → List Derivation
all_lemmas s = s.lemmas ++ s.reader.progress.lemmas

abbrev pub all_blocks : Session → List Derivation
all_blocks s = s.blocks ++ s.reader.progress.blocks

-- the pieces that were fed, put together
abbrev pub piece_of : Use → List ℕ
piece_of (Feed piece) = piece
piece_of _ = []

abbrev pub pieces : List Use → List ℕ
pieces = flat_map piece_of

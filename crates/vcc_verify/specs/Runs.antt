-- Runs over an item's conditions, and over items. Own.
use Rattle.std.specs.Prelude.{◌≡◌, ℕ, ◌+◌, ◌≤◌, List, ◌++◌, length, map, Bool, ◌&&◌, Option, Some, None, Result, Ok, Err, IfOk, OnOk}
use Rattle.method.specs.declared.program.Item.{Item}
use Rattle.method.specs.declared.program.Program.{Program}
use Rattle.method.specs.Labels as spec
use Rattle.terms.specs.Formula.{Formula}
use Rattle.term_meaning.specs.Meaning.{Language}
use Rattle.check_labels.specs.declared.labels.ProgramLabel.{ProgramLabel}
use Rattle.vcc_base.specs.Limits.{number_of}
use Rattle.vcc_base.specs.declared.limit.Limit.TheVariants.{CertBytes as Most}
use Rattle.vcc_base.specs.Maps.{Map, NowWritten, FrontWritten}
use Rattle.vcc_verify.specs.declared.fault.VerifyFault.{VerifyFault}
use Rattle.vcc_verify.specs.declared.fault.VerifyFault.TheVariants as f
use Rattle.vcc_verify.specs.declared.items.ItemEnd.{ItemEnd}
use Rattle.vcc_search.specs.Searches.{Finding, AllFind, ItemsFind, each_has_blocks}
use Rattle.vcc_verify.specs.Texts.{block_of, blocks_of, blocks_text}
use Rattle.vcc_search.specs.Reports.{first_open, item_lines, label_in, text_of_lines}
use Rattle.vcc_verify.specs.Outcomes.{SomeLines}
use Rattle.vcc_verify.specs.Writing.{After}

-- the first label, behind one finding more
abbrev pub first_after : Option ProgramLabel → Finding → ProgramLabel → Option ProgramLabel
first_after (Some l) o label = Some l
first_after None (Some block) label = None
first_after None None label = Some label

-- the one before, or else the other
abbrev pub first_or : Option spec.ProgramLabel → Option spec.ProgramLabel → Option spec.ProgramLabel
first_or None o = o
first_or (Some l) o = Some l

-- ---- an item's conditions

-- From what was so far, this is what there is behind these findings, whose labels come first among these: how many there are, the first that isn't, and how long the text is.
pub record IsEnd (start end : ItemEnd) (labels : List spec.ProgramLabel) (findings : List Finding) (text : List ℕ) : Type 0 where
  pub conditions : end.conditions ≡ start.conditions + length findings
  pub first : label_in end.first ≡ first_or (label_in start.first) (first_open labels findings)
  pub long : end.written ≡ length (text ++ blocks_text (map block_of findings))
  pub room : end.written + 4 ≤ number_of Most

-- a finding for each of these conditions, whose blocks are written behind the text, up to a fault
pub record ConditionsRun (l : Language) (conditions : List Formula) (labels : List spec.ProgramLabel) (start : ItemEnd) (before now : Option Map) (name text : List ℕ) (result : Result ItemEnd VerifyFault) : Type 0 where
  pub findings : List Finding
  pub find : AllFind l conditions findings
  pub after : After result before now name text (map block_of findings)
  pub end : IfOk result (λ e. IsEnd start e labels findings text)

-- so many bytes are written, and no condition is decided
abbrev pub at_start : ℕ → ItemEnd
at_start written = record { conditions = 0; first = None; written = written }

-- ---- items

-- What a fault leaves of these lines: first ones, or where the sink failed a front of them.
abbrev pub LinesCut : VerifyFault → Option (List ℕ) → Option (List ℕ) → List (List ℕ) → Type 0
LinesCut (f.Sink fault) old new lines = FrontWritten old new (text_of_lines lines)
LinesCut (f.Store fault) old new lines = SomeLines old new lines
LinesCut f.CertBytes old new lines = SomeLines old new lines
LinesCut f.OutOfMemory old new lines = SomeLines old new lines

-- what is printed: the lines, or what a fault leaves of them
abbrev pub LinesAfter : Result Bool VerifyFault → Option (List ℕ) → Option (List ℕ) → List (List ℕ) → Type 0
LinesAfter (Ok _) old new lines = NowWritten old new (text_of_lines lines)
LinesAfter (Err fault) old new lines = LinesCut fault old new lines

-- findings for the conditions of these items, whose blocks are written behind the text, and the items' lines printed, up to a fault
pub record ItemsRun (p : Program) (items : List Item) (earlier : Bool) (before now : Option Map) (name text : List ℕ) (old new : Option (List ℕ)) (result : Result Bool VerifyFault) : Type 0 where
  pub findings : List (List Finding)
  pub find : ItemsFind p items findings
  pub after : After result before now name text (blocks_of findings)
  pub lines : LinesAfter result old new (item_lines p items findings)
  pub all : IfOk result (λ all. all ≡ (earlier && each_has_blocks findings))
  pub room : OnOk result (length (text ++ blocks_text (blocks_of findings)) + 4 ≤ number_of Most)

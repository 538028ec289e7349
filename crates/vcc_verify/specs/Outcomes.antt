-- What a run leaves in the store and in the sink. Own.
use Rattle.std.specs.Prelude.{◌≡◌, ◌⊎◌, ◌↔◌, ℕ, ◌<◌, ◌≤◌, List, [], ◌∷◌, ◌++◌, length, take, Bool, IsTrue, Option, Result, Ok, Err}
use Rattle.method.specs.declared.program.Program.{Program}
use Rattle.cert_format.specs.Derivations.{Derivation}
use Rattle.cert_format.specs.Text.{IsCertText}
use Rattle.vcc_base.specs.Limits.{number_of}
use Rattle.vcc_base.specs.declared.limit.Limit.TheVariants.{CertBytes as Most}
use Rattle.vcc_base.specs.Maps.{Map, IfTold, NowHolds, FrontHeld, NowWritten, FrontWritten}
use Rattle.vcc_base.specs.declared.store.StoreFault.TheVariants.{Missing, Failed, OutOfMemory}
use Rattle.vcc_judge.specs.Verdicts.{IsVerified}
use Rattle.vcc_verify.specs.declared.fault.VerifyFault.{VerifyFault}
use Rattle.vcc_verify.specs.declared.fault.VerifyFault.TheVariants as f
use Rattle.vcc_search.specs.Searches.{Finding, ItemsFind, each_has_blocks}
use Rattle.vcc_verify.specs.Texts.{certificate_of, certificate_text, blocks_of, blocks_text, head_text, end_text}
use Rattle.vcc_search.specs.Reports.{item_lines, text_of_lines, report}

-- ---- the certificate

-- Behind this text some of the blocks are written, and with the next one and the last line the text would be longer than a certificate may be.
pub record Overflows (before now : Option Map) (name text : List ℕ) (blocks : List Derivation) : Type 0 where
  pub front : List Derivation
  pub next : Derivation
  pub rest : List Derivation
  pub split : blocks ≡ front ++ next ∷ rest
  pub holds : NowHolds before now name (text ++ blocks_text front)
  pub longer : number_of Most < length ((text ++ blocks_text (front ++ next ∷ [])) ++ end_text)

-- after a fault the name is as it was before it was created, or holds a front of the text
abbrev pub LeavesFront : Option Map → Option Map → List ℕ → List ℕ → Type 0
LeavesFront before now name text = (now ≡ before) ⊎ FrontHeld before now name [] text

-- What the name holds in the end: the whole text, which is no longer than a certificate may be; or a front of it. A name that was created isn't missing.
abbrev pub Leaves : Result Bool VerifyFault → Option Map → Option Map → List ℕ → List (List Finding) → Type 0
Leaves (Ok all) before now name gs = NowHolds before now name (certificate_text gs) × (length (certificate_text gs) ≤ number_of Most)
Leaves (Err f.CertBytes) before now name gs = Overflows before now name (head_text (length (blocks_of gs))) (blocks_of gs)
Leaves (Err (f.Store Missing)) before now name gs = IfTold before (λ m. ⊥)
Leaves (Err (f.Store Failed)) before now name gs = LeavesFront before now name (certificate_text gs)
Leaves (Err (f.Store OutOfMemory)) before now name gs = LeavesFront before now name (certificate_text gs)
Leaves (Err (f.Sink fault)) before now name gs = LeavesFront before now name (certificate_text gs)
Leaves (Err f.OutOfMemory) before now name gs = LeavesFront before now name (certificate_text gs)

-- ---- the report

-- some first lines were written, whole
abbrev pub SomeLines : Option (List ℕ) → Option (List ℕ) → List (List ℕ) → Type 0
SomeLines old new lines = (n : ℕ) × NowWritten old new (text_of_lines (take n lines))

-- What was printed in the end: the whole report; or first lines of it; or, where the sink failed, a front of it.
abbrev pub Prints : Result Bool VerifyFault → Option (List ℕ) → Option (List ℕ) → Program → List (List Finding) → Type 0
Prints (Ok all) old new p gs = NowWritten old new (report p gs)
Prints (Err (f.Sink fault)) old new p gs = FrontWritten old new (report p gs)
Prints (Err (f.Store fault)) old new p gs = SomeLines old new (item_lines p p.items.items gs)
Prints (Err f.CertBytes) old new p gs = SomeLines old new (item_lines p p.items.items gs)
Prints (Err f.OutOfMemory) old new p gs = SomeLines old new (item_lines p p.items.items gs)

-- ---- both

-- yes is answered exactly where a block was found for each condition, which is where each follows by its block
abbrev pub AnswersBy : Result Bool VerifyFault → Program → List (List Finding) → Type 0
AnswersBy (Ok all) p gs = (all ≡ each_has_blocks gs) × (IsTrue all ↔ IsVerified p [] (blocks_of gs))
AnswersBy (Err fault) p gs = Unit {0}

-- There are findings, one for each condition of the program, by which the text is a certificate; its text is what the name holds, the report on them is what was printed, and the answer says whether all were found.
pub record Verifies (p : Program) (name : List ℕ) (before now : Option Map) (old new : Option (List ℕ)) (result : Result Bool VerifyFault) : Type 0 where
  pub findings : List (List Finding)
  pub find : ItemsFind p p.items.items findings
  pub text : IsCertText (certificate_text findings) (certificate_of findings)
  pub leaves : Leaves result before now name findings
  pub prints : Prints result old new p findings
  pub answers : AnswersBy result p findings

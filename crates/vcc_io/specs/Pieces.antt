-- A certificate that is read in pieces and judged on the way. Own.
use Rattle.std.specs.Prelude.{◌≡◌, ◌≢◌, ℕ, ◌+◌, List, [], ◌∷◌, ◌++◌, length, Option, Some, None, Result, Ok, Err}
use Rattle.method.specs.declared.program.Program.{Program}
use Rattle.conditions.specs.Conditions.{conditions}
use Rattle.condition_meaning.specs.Languages.{language_of}
use Rattle.block_layout.specs.declared.space.Theory.{Theory}
use Rattle.cert_format.specs.Derivations.{Derivation}
use Rattle.cert_reader.specs.Keeping.{Scan, Use, session, pieces}
use Rattle.cert_format.specs.Text.{IsCertText, Proofs}
use Rattle.vcc_base.specs.Maps.{Map, IsPieceOf}
use Rattle.vcc_base.specs.declared.limit.Limit.TheVariants.{CertBytes}
use Rattle.vcc_judge.specs.declared.trial.Trial.{Trial}
use Rattle.vcc_judge.specs.declared.verdict.JudgeFault.{JudgeFault}
use Rattle.vcc_judge.specs.declared.verdict.Verdict.{Verdict}
use Rattle.vcc_judge.specs.Shows.{IsReady}
use Rattle.vcc_judge.specs.Trials.{IsTried}
use Rattle.vcc_judge.specs.Verdicts.{IsJudged, StopsAtLemma}
use Rattle.vcc_io.specs.declared.certificate.CertificateTrial.{CertificateTrial}
use Rattle.vcc_io.specs.declared.certificate.Outcome.{Outcome}
use Rattle.vcc_io.specs.Certificates.{HoldsCertificate}
use Rattle.vcc_io.specs.Held.{HoldsWithin}

-- the name holds bytes, and n of them, from the offset on, stand at the front of the piece; at least one, where there are some and the piece has room
pub record HoldsPiece (m : Map) (name : List ℕ) (offset n asked : ℕ) (piece : List ℕ) : Type 0 where
  pub bytes : List ℕ
  pub held : m name ≡ Some bytes
  pub is : IsPieceOf bytes offset n asked piece

-- the line `conditions` was read, and its number is that of the program's conditions
abbrev pub HasCount : Program → Scan → Type 0
HasCount p s = s.progress.count ≡ Some (length (conditions p))

-- What judging these lemmas and blocks has come to so far: a trial with their outcome, ready for the next block; or a lemma is the first that can't be judged.
abbrev pub Tries : Theory → List Derivation → List Derivation → Result Trial JudgeFault → Type 0
Tries t lemmas blocks (Ok trial) = IsReady t lemmas trial.room × IsTried t.program.now lemmas trial blocks
Tries t lemmas blocks (Err fault) = StopsAtLemma (language_of t.program.now) lemmas (Err fault)

-- These lemmas and blocks were judged: the line `conditions` has the program's number, and no lemma is left in the reader.
pub record IsTrialOf (t : Theory) (s : Scan) (lemmas blocks : List Derivation) (trial : Result Trial JudgeFault) : Type 0 where
  pub agrees : HasCount t.program.now s
  pub none : s.progress.lemmas ≡ []
  pub tries : Tries t lemmas blocks trial

-- These lemmas and blocks were judged; or nothing was yet, and then there is no block, if the line `conditions` has the program's number.
abbrev pub IsUnderWay : Theory → Scan → List Derivation → List Derivation → Option (Result Trial JudgeFault) → Type 0
IsUnderWay t s lemmas blocks None = HasCount t.program.now s → blocks ≡ []
IsUnderWay t s lemmas blocks (Some trial) = IsTrialOf t s lemmas blocks trial

-- The reader took these bytes; the lemmas that it handed out are kept, its blocks counted, and both were judged as far as that may be.
pub record HasTaken (t : Theory) (bytes : List ℕ) (c : CertificateTrial) : Type 0 where
  pub uses : List Use
  pub pieces_are : pieces uses ≡ bytes
  pub reader_is : c.reader ≡ (session uses).reader
  pub lemmas_are : c.lemmas.items ≡ (session uses).lemmas
  pub count : c.blocks ≡ length (session uses).blocks
  pub trial : IsUnderWay t c.reader (session uses).lemmas (session uses).blocks c.trial

-- The same, and no whole lemma is left in the reader; if the line `conditions` has the program's number, the lemmas were judged.
pub record HasBegun (t : Theory) (bytes : List ℕ) (c : CertificateTrial) : Type 0 where
  pub taken : HasTaken t bytes c
  pub none : c.reader.progress.lemmas ≡ []
  pub judged : c.trial ≡ None → HasCount t.program.now c.reader → ⊥

-- The same, and no whole block is left in the reader.
pub record HasTried (t : Theory) (bytes : List ℕ) (c : CertificateTrial) : Type 0 where
  pub begun : HasBegun t bytes c
  pub none : c.reader.progress.blocks ≡ []

-- so it is for some bytes
pub record HasBegunSome (t : Theory) (c : CertificateTrial) : Type 0 where
  pub bytes : List ℕ
  pub begun : HasBegun t bytes c

-- so it is for some bytes, and no whole block is left
pub record HasTriedSome (t : Theory) (c : CertificateTrial) : Type 0 where
  pub bytes : List ℕ
  pub tried : HasTried t bytes c

-- all bytes of the name were taken, where the store tells them
pub record HasTriedName (t : Theory) (contents : Option Map) (name : List ℕ) (c : CertificateTrial) : Type 0 where
  pub bytes : List ℕ
  pub tried : HasTried t bytes c
  pub held : (m : Map) → contents ≡ Some m → HoldsWithin m name CertBytes bytes

-- What a block that the reader hands out does: it is counted, and judged if the lemmas were.
pub record TakesBlock (t : Theory) (s : Scan) (block : Derivation) (old new : CertificateTrial) : Type 0 where
  pub reader : new.reader ≡ old.reader
  pub lemmas : new.lemmas.items ≡ old.lemmas.items
  pub count : new.blocks ≡ old.blocks + 1
  pub trial : (lemmas blocks : List Derivation) → (HasCount t.program.now s → old.trial ≡ None → ⊥) → IsUnderWay t s lemmas blocks old.trial → IsUnderWay t s lemmas (blocks ++ block ∷ []) new.trial
  pub none : new.trial ≡ None → old.trial ≡ None

-- The verdict of these lemmas and blocks: there is one exactly where the blocks are as many as the program's conditions.
abbrev pub IsOutcomeOf : Program → List Derivation → List Derivation → Option (Result Verdict JudgeFault) → Type 0
IsOutcomeOf p lemmas blocks None = length blocks ≢ length (conditions p)
IsOutcomeOf p lemmas blocks (Some outcome) = (length blocks ≡ length (conditions p)) × IsJudged p lemmas blocks outcome

-- so many blocks there are, and that is the verdict of these lemmas and blocks
pub record TookAll (p : Program) (tried : Outcome) (lemmas blocks : List Derivation) : Type 0 where
  pub count : tried.blocks ≡ length blocks
  pub outcome : IsOutcomeOf p lemmas blocks tried.verdict

-- the bytes are a certificate's text, and the outcome is that of its lemmas and blocks
pub record TriesText (p : Program) (bytes : List ℕ) (tried : Outcome) : Type 0 where
  pub proofs : Proofs
  pub text : IsCertText bytes proofs
  pub took : TookAll p tried proofs.lemmas proofs.blocks

-- the name holds a certificate, and the outcome is that of its lemmas and blocks
pub record HoldsTrial (m : Map) (name : List ℕ) (p : Program) (tried : Outcome) : Type 0 where
  pub proofs : Proofs
  pub holds : HoldsCertificate m name proofs
  pub took : TookAll p tried proofs.lemmas proofs.blocks

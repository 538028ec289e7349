-- It is no matter how the bytes are cut, nor when lemmas and blocks are handed out.
use Rattle.std.proofs.Common.{◌≡◌, ℕ, ◌+◌, ◌-◌, Bool, true, false, cond, ◌&&◌, eqb, List, [], ◌∷◌, ◌++◌, length, take, drop, codes, is_some, Option, Some, None, Result, Ok, Err, refl, sym, ap, ◌∙◌, append_assoc, take-append-drop}
use Rattle.std.proofs.lemmas.List.{append-nil}
use Rattle.cert_format.specs.Derivations.{Derivation}
use Rattle.cert_format.specs.declared.certificate.Owner.{Owner}
use Rattle.cert_format.specs.declared.certificate.Owner.TheVariants.{OfLemma, OfCondition}
use Rattle.cert_format.specs.declared.certificate.Step.{Step}
use Rattle.cert_format.specs.declared.fault.CertFault.{CertFault}
use Rattle.cert_format.specs.declared.fault.LineFault.TheVariants as l
use Rattle.cert_format.specs.declared.stage.Counts.{Counts}
use Rattle.cert_format.specs.declared.stage.Stage.{Stage}
use Rattle.cert_format.specs.declared.stage.Stage.TheVariants.{Version, LemmaCount, Lemmas, InDerivation, Conditions, Ended}
use Rattle.cert_lines.specs.Grammar as grammar
use Rattle.cert_lines.specs.Grammar.{Reading, ◌>>=◌, needs, words_of}
use Rattle.cert_reader.specs.Keeping.{Progress, Scan, Session, Use, start, fresh, completed, continued, with_term, with_step, reaches, after_version, take_version, take_lemma_count, take_condition_count, take_head, take_term, take_step, take_end, next_line, take_line, behind_line, next_byte, take_byte, scan, finished, answer, proofs_of, result_of, decoded, use_once, use_all, piece_of, pieces}
use Rattle.cert_reader.specs.Keeping.Use.{Feed, NextLemma, NextBlock}
use Rattle.cert_format.specs.Text.{Line, Proofs}
use Rattle.cert_reader.proofs.Pieces.{no_bytes, one_byte, two_pieces}

-- ---- with lemmas and blocks in front of those that weren't handed out

abbrev pub onto : List Derivation → List Derivation → Progress → Progress
onto ls bs p = record p { lemmas = ls ++ p.lemmas; blocks = bs ++ p.blocks }

abbrev pub fronted : List Derivation → List Derivation → Scan → Scan
fronted ls bs s = record s { progress = onto ls bs s.progress }

module _ (ls bs : List Derivation) where
  abbrev later : Reading Progress → Reading Progress
  later r = r >>= λ q. Ok (onto ls bs q)

  bind_later : {A : Type 0} (r : Reading A) (g h : A → Progress) → ((a : A) → g a ≡ onto ls bs (h a)) → (r >>= λ a. Ok (g a)) ≡ later (r >>= λ a. Ok (h a))
  bind_later (Ok a) g h same = ap (λ (q : Progress). Ok q) (same a)
  bind_later (Err e) g h same = refl

  cond_later : (b : Bool) (x y v w : Progress) → x ≡ onto ls bs v → y ≡ onto ls bs w → cond b x y ≡ onto ls bs (cond b v w)
  cond_later true x y v w e f = e
  cond_later false x y v w e f = f

  either_later : (b : Bool) (x y v w : Reading Progress) → x ≡ later v → y ≡ later w → cond b x y ≡ later (cond b v w)
  either_later true x y v w e f = e
  either_later false x y v w e f = f

  completed_later : (p : Progress) (owner : Owner) (left : ℕ) → completed (onto ls bs p) owner left ≡ onto ls bs (completed p owner left)
  completed_later p (OfLemma n) left = ap (λ (ds : List Derivation). record p { stage = Lemmas left; terms = []; steps = []; lemmas = ds; blocks = bs ++ p.blocks }) (append_assoc ls p.lemmas ((record { terms = p.terms; steps = p.steps }) ∷ []))
  completed_later p (OfCondition v) left = ap (λ (ds : List Derivation). record p { stage = Conditions left; terms = []; steps = []; lemmas = ls ++ p.lemmas; blocks = ds }) (append_assoc bs p.blocks ((record { terms = p.terms; steps = p.steps }) ∷ []))

  continued_later : (p : Progress) (owner : Owner) (left : ℕ) (c : Counts) → continued (onto ls bs p) owner left c ≡ onto ls bs (continued p owner left c)
  continued_later p owner left c = cond_later (eqb c.terms 0 && eqb c.steps 0) (completed (onto ls bs p) owner left) (record (onto ls bs p) { stage = InDerivation owner left c }) (completed p owner left) (record p { stage = InDerivation owner left c }) (completed_later p owner left) refl

  head_later : (p : Progress) (owner : Owner) (left : ℕ) (line : Line) → take_head (onto ls bs p) owner left line ≡ later (take_head p owner left line)
  unfolding take_head
  head_later p owner left line = bind_later (grammar.head_line owner line) (λ c. continued (onto ls bs p) owner left c) (λ c. continued p owner left c) (λ c. continued_later p owner left c)

  term_later : (p : Progress) (owner : Owner) (left : ℕ) (c : Counts) (line : Line) → take_term (onto ls bs p) owner left c line ≡ later (take_term p owner left c line)
  unfolding take_term
  term_later p owner left c line = bind_later (grammar.term_line line) (λ t. with_term (onto ls bs p) owner left c t) (λ t. with_term p owner left c t) (λ t. continued_later (record p { terms = p.terms ++ t ∷ [] }) owner left (record c { terms = c.terms - 1 }))

  step_by : (p : Progress) (owner : Owner) (left : ℕ) (c : Counts) (r : Reading Step) → (r >>= λ s. needs (reaches c s) l.BadLine >>= λ _. Ok (with_step (onto ls bs p) owner left c s)) ≡ later (r >>= λ s. needs (reaches c s) l.BadLine >>= λ _. Ok (with_step p owner left c s))
  step_by p owner left c (Err e) = refl
  step_by p owner left c (Ok s) = bind_later (needs (reaches c s) l.BadLine) (λ _. with_step (onto ls bs p) owner left c s) (λ _. with_step p owner left c s) (λ _. continued_later (record p { steps = p.steps ++ s ∷ [] }) owner left (record { terms = 0; steps = c.steps - 1; literals = c.literals - length s.clause }))

  step_later : (p : Progress) (owner : Owner) (left : ℕ) (c : Counts) (line : Line) → take_step (onto ls bs p) owner left c line ≡ later (take_step p owner left c line)
  unfolding take_step
  step_later p owner left c line = step_by p owner left c (grammar.step_line owner c.literals line)

  version_later : (p : Progress) (line : Line) → take_version (onto ls bs p) line ≡ later (take_version p line)
  unfolding take_version
  version_later p line = bind_later (grammar.version_line line) (λ v. record (onto ls bs p) { version = v; stage = after_version v }) (λ v. record p { version = v; stage = after_version v }) (λ v. refl)

  lemma_count_later : (p : Progress) (line : Line) → take_lemma_count (onto ls bs p) line ≡ later (take_lemma_count p line)
  unfolding take_lemma_count
  lemma_count_later p line = bind_later (grammar.count_line (codes "lemmas") line) (λ m. record (onto ls bs p) { lemma_count = m; stage = Lemmas m }) (λ m. record p { lemma_count = m; stage = Lemmas m }) (λ m. refl)

  condition_count_later : (p : Progress) (line : Line) → take_condition_count (onto ls bs p) line ≡ later (take_condition_count p line)
  unfolding take_condition_count
  condition_count_later p line = bind_later (grammar.count_line (codes "conditions") line) (λ n. record (onto ls bs p) { count = Some n; stage = Conditions n }) (λ n. record p { count = Some n; stage = Conditions n }) (λ n. refl)

  end_later : (p : Progress) (line : Line) → take_end (onto ls bs p) line ≡ later (take_end p line)
  unfolding take_end
  end_later p line = bind_later (grammar.end_line line) (λ _. record (onto ls bs p) { stage = Ended }) (λ _. record p { stage = Ended }) (λ _. refl)

  next_later : (p : Progress) (stage : Stage) (line : Line) → next_line (onto ls bs p) stage line ≡ later (next_line p stage line)
  next_later p Version line = version_later p line
  next_later p LemmaCount line = lemma_count_later p line
  next_later p (Lemmas left) line = either_later (eqb left 0) (take_condition_count (onto ls bs p) line) (take_head (onto ls bs p) (OfLemma (p.lemma_count - left)) (left - 1) line) (take_condition_count p line) (take_head p (OfLemma (p.lemma_count - left)) (left - 1) line) (condition_count_later p line) (head_later p (OfLemma (p.lemma_count - left)) (left - 1) line)
  next_later p (InDerivation owner left c) line = either_later (eqb c.terms 0) (take_step (onto ls bs p) owner left c line) (take_term (onto ls bs p) owner left c line) (take_step p owner left c line) (take_term p owner left c line) (step_later p owner left c line) (term_later p owner left c line)
  next_later p (Conditions left) line = either_later (eqb left 0) (take_end (onto ls bs p) line) (take_head (onto ls bs p) (OfCondition p.version) (left - 1) line) (take_end p line) (take_head p (OfCondition p.version) (left - 1) line) (end_later p line) (head_later p (OfCondition p.version) (left - 1) line)
  next_later p Ended line = refl

  counted_later : (r : Reading Progress) → (later r >>= λ q. Ok (record q { lines = q.lines + 1 })) ≡ later (r >>= λ q. Ok (record q { lines = q.lines + 1 }))
  counted_later (Ok q) = refl
  counted_later (Err e) = refl

  line_later : (p : Progress) (line : Line) → take_line (onto ls bs p) line ≡ later (take_line p line)
  unfolding take_line
  line_later p line = ap (λ (r : Reading Progress). r >>= λ q. Ok (record q { lines = q.lines + 1 })) (next_later p p.stage line) ∙ counted_later (next_line p p.stage line)

  -- ---- bytes

  behind_later : (s : Scan) (r : Reading Progress) → behind_line (fronted ls bs s) (later r) ≡ fronted ls bs (behind_line s r)
  behind_later s (Ok p) = refl
  behind_later s (Err e) = refl

  scan_cond : (b : Bool) (x y v w : Scan) → x ≡ fronted ls bs v → y ≡ fronted ls bs w → cond b x y ≡ fronted ls bs (cond b v w)
  scan_cond true x y v w e f = e
  scan_cond false x y v w e f = f

  byte_later : (s : Scan) (b : ℕ) → take_byte (fronted ls bs s) b ≡ fronted ls bs (take_byte s b)
  byte_later s b =
      let f : Scan = fronted ls bs s in
      let line : behind_line f (take_line (onto ls bs s.progress) (words_of s.line)) ≡ fronted ls bs (behind_line s (take_line s.progress (words_of s.line))) = ap (behind_line f) (line_later s.progress (words_of s.line)) ∙ behind_later s (take_line s.progress (words_of s.line)) in
      scan_cond (is_some s.fault) f (next_byte f b) s (next_byte s b) refl
      (scan_cond (eqb b 10) (behind_line f (take_line (onto ls bs s.progress) (words_of s.line))) (record f { line = s.line ++ b ∷ []; bytes = s.bytes + 1 }) (behind_line s (take_line s.progress (words_of s.line))) (record s { line = s.line ++ b ∷ []; bytes = s.bytes + 1 }) line refl)

  pub scan_later : (s : Scan) (piece : List ℕ) → scan (fronted ls bs s) piece ≡ fronted ls bs (scan s piece)
  scan_later s [] = no_bytes (fronted ls bs s) ∙ ap (fronted ls bs) (sym (no_bytes s))
  scan_later s (b ∷ piece) = one_byte (fronted ls bs s) b piece ∙ ap (λ (t : Scan). scan t piece) (byte_later s b) ∙ scan_later (take_byte s b) piece ∙ ap (fronted ls bs) (sym (one_byte s b piece))

-- ---- sessions

-- what was handed out, and what was not, is what is kept where nothing is handed out
abbrev AsWhole : Session → List ℕ → Type 0
AsWhole s bytes = fronted s.lemmas s.blocks s.reader ≡ scan start bytes

handed : (ds fs : List Derivation) → (ds ++ take 1 fs) ++ drop 1 fs ≡ ds ++ fs
handed ds fs = append_assoc ds (take 1 fs) (drop 1 fs) ∙ ap (λ (x : List Derivation). ds ++ x) (take-append-drop 1 fs)

used : (s : Session) (u : Use) (bytes : List ℕ) → AsWhole s bytes → AsWhole (use_once s u) (bytes ++ piece_of u)
used s (Feed piece) bytes e = sym (scan_later s.lemmas s.blocks s.reader piece) ∙ ap (λ (t : Scan). scan t piece) e ∙ sym (two_pieces start bytes piece)
used s NextLemma bytes e = ap (λ (ds : List Derivation). record s.reader { progress = record s.reader.progress { lemmas = ds; blocks = s.blocks ++ s.reader.progress.blocks } }) (handed s.lemmas s.reader.progress.lemmas) ∙ e ∙ ap (scan start) (sym (append-nil bytes))
used s NextBlock bytes e = ap (λ (ds : List Derivation). record s.reader { progress = record s.reader.progress { lemmas = s.lemmas ++ s.reader.progress.lemmas; blocks = ds } }) (handed s.blocks s.reader.progress.blocks) ∙ e ∙ ap (scan start) (sym (append-nil bytes))

all_used : (us : List Use) (s : Session) (bytes : List ℕ) → AsWhole s bytes → AsWhole (use_all s us) (bytes ++ pieces us)
all_used [] s bytes e = e ∙ ap (scan start) (sym (append-nil bytes))
all_used (u ∷ us) s bytes e = all_used us (use_once s u) (bytes ++ piece_of u) (used s u bytes e) ∙ ap (scan start) (append_assoc bytes (piece_of u) (pieces us))

whole : (us : List Use) → AsWhole (use_all fresh us) (pieces us)
whole us = all_used us fresh [] (sym (no_bytes start))

same_answer : (ls bs : List Derivation) (o : Option CertFault) (p : Progress) (line : List ℕ) → finished o (onto ls bs p) line ≡ finished o p line
same_answer ls bs None p line = refl
same_answer ls bs (Some e) p line = refl

pub session_answers : (us : List Use) → answer (use_all fresh us).reader ≡ answer (scan start (pieces us))
session_answers us =
    let s : Session = use_all fresh us in
    sym (same_answer s.lemmas s.blocks s.reader.fault s.reader.progress s.reader.line) ∙ ap answer (whole us)

result_proofs : (a : Result (Unit {0}) CertFault) (p : Progress) (c : Proofs) → result_of a p ≡ Ok c → proofs_of p ≡ c
result_proofs (Ok t) p c h = let same : proofs_of p ≡ c = cc in same
result_proofs (Err e) p c h = absurd cc

pub session_proofs : (us : List Use) (c : Proofs) → decoded (pieces us) ≡ Ok c → ((use_all fresh us).lemmas ++ (use_all fresh us).reader.progress.lemmas ≡ c.lemmas) × ((use_all fresh us).blocks ++ (use_all fresh us).reader.progress.blocks ≡ c.blocks)
unfolding decoded
session_proofs us c h =
    let t : Scan = scan start (pieces us) in
    let same : proofs_of t.progress ≡ c = result_proofs (answer t) t.progress c h in
    (ap (λ (s : Scan). s.progress.lemmas) (whole us) ∙ ap (λ (x : Proofs). x.lemmas) same, ap (λ (s : Scan). s.progress.blocks) (whole us) ∙ ap (λ (x : Proofs). x.blocks) same)

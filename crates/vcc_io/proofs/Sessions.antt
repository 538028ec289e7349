-- What the reader of a certificate takes and hands out, and the trial of its lemmas and blocks.
use Rattle.std.proofs.Common.{◌≡◌, inl, ℕ, ◌+◌, ◌<◌, ◌≤◌, Bool, true, false, cond, eqb, List, [], ◌∷◌, ◌++◌, length, take, drop, is_some, Option, Some, None, Result, Ok, Err, IfOk, refl, ap, sym, ◌∙◌, subst, arith, length-append}
use Rattle.std.proofs.lemmas.List.{append-nil}
use Rattle.std.proofs.lemmas.List.Concat.{flat_map-append}
use Rattle.std.proofs.lemmas.List.Sums.{fold-append}
use Rattle.std.proofs.lemmas.Result.{IfOk-weaker}
use Rattle.method.specs.declared.program.Program.{Program}
use Rattle.method.specs.Labels.{program_labels}
use Rattle.conditions.specs.Conditions.{conditions}
use Rattle.block_layout.specs.declared.space.Theory.{Theory}
use Rattle.check_labels.specs.declared.labels.ProgramLabel.{ProgramLabel}
use Rattle.check_labels.specs.Labels.{labels_of}
use Rattle.cert_format.specs.Derivations.{Derivation}
use Rattle.cert_lines.specs.Grammar.{Reading, words_of}
use Rattle.cert_reader.specs.Keeping.{Progress, Scan, Session, Use, start, fresh, scan, take_byte, next_byte, take_line, behind_line, answer, proofs_of, result_of, decoded, use_once, session, piece_of, pieces, without_block, without_lemma}
use Rattle.cert_reader.specs.Keeping.Use.{Feed, NextLemma, NextBlock}
use Rattle.cert_format.specs.Text.{Proofs}
use Rattle.cert_format.specs.declared.fault.CertFault.{CertFault}
use Rattle.cert_format.specs.declared.fault.CertFault.TheVariants as f
use Rattle.cert_reader.proofs.Pieces.{no_bytes, one_byte}
use Rattle.cert_reader.proofs.Sessions.{session_answers, session_proofs}
use Rattle.cert_reader.proofs.Texts.{decoded_text}
use Rattle.vcc_judge.specs.declared.trial.Trial.{Trial}
use Rattle.vcc_judge.specs.declared.verdict.JudgeFault.{JudgeFault}
use Rattle.vcc_judge.specs.declared.verdict.Verdict.{Verdict}
use Rattle.vcc_judge.specs.Shows.{IsReady, IsSomeReady}
use Rattle.vcc_judge.specs.Trials.{IsTried, MakesTrial}
use Rattle.vcc_judge.specs.Verdicts.{IsJudged}
use Rattle.vcc_judge.proofs.Trials.{tried_whole}
use Rattle.vcc_io.specs.declared.certificate.CertificateTrial.{CertificateTrial}
use Rattle.vcc_io.specs.Certificates.{IsFirstFault}
use Rattle.vcc_io.specs.Pieces.{HasBegun, HasCount, HasTaken, HasTried, IsOutcomeOf, IsUnderWay, TakesBlock, IsTrialOf, Tries, TriesText}
use Rattle.vcc_io.proofs.Counting.{one_per_held}
use Rattle.vcc_io.proofs.Counts.{count_stands, counts_blocks, lemmas_stand, none_before}

abbrev MaybeTrial : Type 0
MaybeTrial = Option (Result Trial JudgeFault)

-- ---- one use more

one_use : (us : List Use) (u : Use) → session (us ++ u ∷ []) ≡ use_once (session us) u
one_use us u = fold-append use_once fresh us (u ∷ [])

one_piece : (us : List Use) (u : Use) → pieces (us ++ u ∷ []) ≡ pieces us ++ piece_of u
one_piece us u = flat_map-append piece_of us (u ∷ []) ∙ ap (λ (t : List ℕ). pieces us ++ t) (append-nil (piece_of u))

-- a use that feeds nothing
same_pieces : (us : List Use) (u : Use) (bytes : List ℕ) → piece_of u ≡ [] → pieces us ≡ bytes → pieces (us ++ u ∷ []) ≡ bytes
same_pieces us u bytes none is = one_piece us u ∙ ap (λ (t : List ℕ). pieces us ++ t) none ∙ append-nil (pieces us) ∙ is

reader_more : (us : List Use) (u : Use) → (session (us ++ u ∷ [])).reader ≡ (use_once (session us) u).reader
reader_more us u = ap (λ (s : Session). s.reader) (one_use us u)

blocks_more : (us : List Use) (u : Use) → (session (us ++ u ∷ [])).blocks ≡ (use_once (session us) u).blocks
blocks_more us u = ap (λ (s : Session). s.blocks) (one_use us u)

lemmas_more : (us : List Use) (u : Use) → (session (us ++ u ∷ [])).lemmas ≡ (use_once (session us) u).lemmas
lemmas_more us u = ap (λ (s : Session). s.lemmas) (one_use us u)

abbrev with_reader : CertificateTrial → Scan → CertificateTrial
with_reader c now = record c { reader = now }

abbrev with_trial : CertificateTrial → Result Trial JudgeFault → CertificateTrial
with_trial c trial = record c { trial = Some trial }

same_trial : (t : Theory) (s : Scan) (ls ms bs ds : List Derivation) (o : MaybeTrial) → ls ≡ ms → bs ≡ ds → IsUnderWay t s ls bs o → IsUnderWay t s ms ds o
same_trial t s ls ms bs ds o lemmas blocks h =
    subst (λ (xs : List Derivation). IsUnderWay t s ms xs o) blocks (subst (λ (xs : List Derivation). IsUnderWay t s xs bs o) lemmas h)

-- ---- before the first piece, and behind one

pub taken_none : (t : Theory) (c : CertificateTrial) → c.reader ≡ start → c.lemmas.items ≡ [] → c.blocks ≡ 0 → c.trial ≡ None → HasTried t [] c
taken_none t c is none count fresh_trial = record {
  begun = record {
    taken = record { uses = []; pieces_are = refl; reader_is = is; lemmas_are = none; count = count; trial = subst (λ (o : MaybeTrial). IsUnderWay t c.reader [] [] o) (sym fresh_trial) (λ _. refl) };
    none = ap (λ (s : Scan). s.progress.lemmas) is;
    judged = λ _ counted. (let no_number : None ≡ Some (length (conditions t.program.now)) = sym (ap (λ (s : Scan). s.progress.count) is) ∙ counted in cc no_number);
  };
  none = ap (λ (s : Scan). s.progress.blocks) is;
}

-- a number that is read behind this piece stands before all blocks
by_count : (p : Program) (old now : Scan) (blocks : List Derivation) (o : Option ℕ) → old.progress.count ≡ o → ((n : ℕ) → old.progress.count ≡ Some n → now.progress.count ≡ Some n) → (old.progress.count ≡ None → blocks ≡ []) → (HasCount p old → ⊥) → HasCount p now → blocks ≡ []
by_count p old now blocks None e stands before other counted = before e
by_count p old now blocks (Some n) e stands before other counted = absurd (other (e ∙ sym (stands n e) ∙ counted))

trial_fed : (t : Theory) (old now : Scan) (lemmas blocks : List Derivation) (o : MaybeTrial) → ((n : ℕ) → old.progress.count ≡ Some n → now.progress.count ≡ Some n) → ((n : ℕ) → old.progress.count ≡ Some n → now.progress.lemmas ≡ old.progress.lemmas)
    → (old.progress.count ≡ None → blocks ≡ []) → (o ≡ None → HasCount t.program.now old → ⊥) → IsUnderWay t old lemmas blocks o → IsUnderWay t now lemmas blocks o
trial_fed t old now lemmas blocks None stands same before judged h = λ counted. by_count t.program.now old now blocks old.progress.count refl stands before (judged refl) counted
trial_fed t old now lemmas blocks (Some r) stands same before judged h =
    let n : ℕ = length (conditions t.program.now) in
    record { agrees = stands n h.agrees; none = same n h.agrees ∙ h.none; tries = h.tries }

piece_taken : (t : Theory) (bytes piece : List ℕ) (c : CertificateTrial) (now : Scan) → now ≡ scan c.reader piece → HasTried t bytes c → HasTaken t (bytes ++ piece) (with_reader c now)
piece_taken t bytes piece c now is tried =
    let begun : HasBegun t bytes c = tried.begun in
    let taken : HasTaken t bytes c = begun.taken in
    let us : List Use = taken.uses in
    let there : now ≡ scan (session us).reader piece = is ∙ ap (λ (s : Scan). scan s piece) taken.reader_is in
    record {
      uses = us ++ Feed piece ∷ [];
      pieces_are = one_piece us (Feed piece) ∙ ap (λ (bs : List ℕ). bs ++ piece) taken.pieces_are;
      reader_is = there ∙ sym (reader_more us (Feed piece));
      lemmas_are = taken.lemmas_are ∙ sym (lemmas_more us (Feed piece));
      count = taken.count ∙ ap (λ (ds : List Derivation). length ds) (sym (blocks_more us (Feed piece)));
      trial =
          same_trial t now (session us).lemmas _ (session us).blocks _ c.trial (sym (lemmas_more us (Feed piece))) (sym (blocks_more us (Feed piece)))
          (trial_fed t c.reader now (session us).lemmas (session us).blocks c.trial
          (λ n e. ap (λ (s : Scan). s.progress.count) there ∙ count_stands us piece n (ap (λ (s : Scan). s.progress.count) (sym taken.reader_is) ∙ e))
          (λ n e. ap (λ (s : Scan). s.progress.lemmas) there ∙ lemmas_stand us piece n (ap (λ (s : Scan). s.progress.count) (sym taken.reader_is) ∙ e) ∙ ap (λ (s : Scan). s.progress.lemmas) (sym taken.reader_is))
          (λ none. none_before us (ap (λ (s : Scan). s.progress.count) (sym taken.reader_is) ∙ none))
          begun.judged taken.trial);
    }

-- unless memory is wanted, the reader took the piece
pub feed_takes : {E : Type 0} (t : Theory) (bytes piece : List ℕ) (c : CertificateTrial) (now : Scan) (r : Result (Unit {0}) E) → IfOk r (λ _. now ≡ scan c.reader piece) → HasTried t bytes c → IfOk r (λ _. HasTaken t (bytes ++ piece) (with_reader c now))
feed_takes t bytes piece c now r is tried = IfOk-weaker r (λ _. now ≡ scan c.reader piece) (λ _. HasTaken t (bytes ++ piece) (with_reader c now)) (λ _ same. piece_taken t bytes piece c now same tried) is

-- ---- lemmas

none_first : (bs : List Derivation) → bs ≡ drop 1 bs → bs ≡ []
none_first [] e = refl
none_first (b ∷ bs) e = absurd (omega (arith, ap length e))

trial_lemma : (t : Theory) (old now : Scan) (ls ms bs : List Derivation) (lemma : Derivation) (o : MaybeTrial) → now.progress.count ≡ old.progress.count → old.progress.lemmas ≡ lemma ∷ now.progress.lemmas → IsUnderWay t old ls bs o → IsUnderWay t now ms bs o
trial_lemma t old now ls ms bs lemma None same front h = λ counted. h (sym same ∙ counted)
trial_lemma t old now ls ms bs lemma (Some r) same front h = absurd (let none : [] ≡ lemma ∷ now.progress.lemmas = sym h.none ∙ front in cc none)

-- a lemma was handed out, and kept
pub lemma_kept : (t : Theory) (bytes : List ℕ) (c new : CertificateTrial) (now : Scan) (lemma : Derivation) → now ≡ without_lemma c.reader → c.reader.progress.lemmas ≡ lemma ∷ now.progress.lemmas
    → new.reader ≡ now → new.lemmas.items ≡ c.lemmas.items ++ lemma ∷ [] → new.blocks ≡ c.blocks → new.trial ≡ c.trial → HasTaken t bytes c → HasTaken t bytes new
lemma_kept t bytes c new now lemma is front reader lemmas blocks trial taken =
    let us : List Use = taken.uses in
    let first : take 1 (session us).reader.progress.lemmas ≡ lemma ∷ [] = ap (λ (s : Scan). take 1 s.progress.lemmas) (sym taken.reader_is) ∙ ap (λ (ls : List Derivation). take 1 ls) front in
    record {
      uses = us ++ NextLemma ∷ [];
      pieces_are = same_pieces us NextLemma bytes refl taken.pieces_are;
      reader_is = reader ∙ is ∙ ap without_lemma taken.reader_is ∙ sym (reader_more us NextLemma);
      lemmas_are = lemmas ∙ ap (λ (ls : List Derivation). ls ++ lemma ∷ []) taken.lemmas_are ∙ ap (λ (ls : List Derivation). (session us).lemmas ++ ls) (sym first) ∙ sym (lemmas_more us NextLemma);
      count = blocks ∙ taken.count ∙ ap (λ (ds : List Derivation). length ds) (sym (blocks_more us NextLemma));
      trial =
          subst (λ (o : MaybeTrial). IsUnderWay t new.reader (session (us ++ NextLemma ∷ [])).lemmas (session (us ++ NextLemma ∷ [])).blocks o) (sym trial)
          (subst (λ (s : Scan). IsUnderWay t s (session (us ++ NextLemma ∷ [])).lemmas (session (us ++ NextLemma ∷ [])).blocks c.trial) (sym reader)
          (subst (λ (ds : List Derivation). IsUnderWay t now (session (us ++ NextLemma ∷ [])).lemmas ds c.trial) (sym (blocks_more us NextLemma))
          (trial_lemma t c.reader now (session us).lemmas (session (us ++ NextLemma ∷ [])).lemmas (session us).blocks lemma c.trial (ap (λ (s : Scan). s.progress.count) is) front taken.trial)));
    }

trial_stays : (t : Theory) (old now : Scan) (ls bs : List Derivation) (o : MaybeTrial) → now.progress.count ≡ old.progress.count → now.progress.lemmas ≡ [] → IsUnderWay t old ls bs o → IsUnderWay t now ls bs o
trial_stays t old now ls bs None same none h = λ counted. h (sym same ∙ counted)
trial_stays t old now ls bs (Some r) same none h = record { agrees = same ∙ h.agrees; none = none; tries = h.tries }

pub no_lemma_left : (c : CertificateTrial) (now : Scan) → now ≡ without_lemma c.reader → c.reader.progress.lemmas ≡ now.progress.lemmas → now.progress.lemmas ≡ []
no_lemma_left c now is same = sym same ∙ none_first c.reader.progress.lemmas (same ∙ ap (λ (s : Scan). s.progress.lemmas) is)

-- no whole lemma is left
pub lemmas_kept : (t : Theory) (bytes : List ℕ) (c : CertificateTrial) (now : Scan) → now ≡ without_lemma c.reader → c.reader.progress.lemmas ≡ now.progress.lemmas → HasTaken t bytes c → HasTaken t bytes (with_reader c now)
lemmas_kept t bytes c now is same taken =
    let us : List Use = taken.uses in
    let none : now.progress.lemmas ≡ [] = no_lemma_left c now is same in
    let first : take 1 (session us).reader.progress.lemmas ≡ [] = ap (λ (s : Scan). take 1 s.progress.lemmas) (sym taken.reader_is) ∙ ap (λ (ls : List Derivation). take 1 ls) (same ∙ none) in
    let lemmas : (session us).lemmas ≡ (session (us ++ NextLemma ∷ [])).lemmas = sym (append-nil (session us).lemmas) ∙ ap (λ (ls : List Derivation). (session us).lemmas ++ ls) (sym first) ∙ sym (lemmas_more us NextLemma) in
    record {
      uses = us ++ NextLemma ∷ [];
      pieces_are = same_pieces us NextLemma bytes refl taken.pieces_are;
      reader_is = is ∙ ap without_lemma taken.reader_is ∙ sym (reader_more us NextLemma);
      lemmas_are = taken.lemmas_are ∙ lemmas;
      count = taken.count ∙ ap (λ (ds : List Derivation). length ds) (sym (blocks_more us NextLemma));
      trial = same_trial t now (session us).lemmas _ (session us).blocks _ c.trial lemmas (sym (blocks_more us NextLemma)) (trial_stays t c.reader now (session us).lemmas (session us).blocks c.trial (ap (λ (s : Scan). s.progress.count) is) none taken.trial);
    }

-- ---- judging lemmas

-- they were judged before
pub judged_before : (t : Theory) (bytes : List ℕ) (c : CertificateTrial) → (c.trial ≡ None → ⊥) → c.reader.progress.lemmas ≡ [] → HasTaken t bytes c → HasBegun t bytes c
judged_before t bytes c some none taken = record { taken = taken; none = none; judged = λ absent _. some absent }

-- there isn't the number that they wait for
pub not_judged : (t : Theory) (bytes : List ℕ) (c : CertificateTrial) (labels : List ProgramLabel) → labels_of labels ≡ program_labels t.program.now → (c.reader.progress.count ≡ Some (length labels) → ⊥) → c.reader.progress.lemmas ≡ [] → HasTaken t bytes c → HasBegun t bytes c
not_judged t bytes c labels are other none taken =
    record { taken = taken; none = none; judged = λ _ counted. other (counted ∙ ap (λ (n : ℕ). Some n) (sym (one_per_held t.program.now labels are))) }

waits : (t : Theory) (s : Scan) (ls bs : List Derivation) (o : MaybeTrial) → o ≡ None → IsUnderWay t s ls bs o → HasCount t.program.now s → bs ≡ []
waits t s ls bs None e h = h
waits t s ls bs (Some r) e h = absurd cc

-- they are judged now
pub lemmas_judged : (t : Theory) (bytes : List ℕ) (c : CertificateTrial) (trial : Result Trial JudgeFault) (labels : List ProgramLabel) → labels_of labels ≡ program_labels t.program.now → c.trial ≡ None → c.reader.progress.count ≡ Some (length labels) → c.reader.progress.lemmas ≡ []
    → Tries t c.lemmas.items [] trial → HasTaken t bytes c → HasBegun t bytes (with_trial c trial)
lemmas_judged t bytes c trial labels are fresh_trial counted none tries taken =
    let us : List Use = taken.uses in
    let agrees : HasCount t.program.now c.reader = counted ∙ ap (λ (n : ℕ). Some n) (one_per_held t.program.now labels are) in
    let before : (session us).blocks ≡ [] = waits t c.reader (session us).lemmas (session us).blocks c.trial fresh_trial taken.trial agrees in
    record {
      taken = record {
        uses = us;
        pieces_are = taken.pieces_are;
        reader_is = taken.reader_is;
        lemmas_are = taken.lemmas_are;
        count = taken.count;
        trial = record { agrees = agrees; none = none; tries = subst (λ (bs : List Derivation). Tries t (session us).lemmas bs trial) (sym before) (subst (λ (ls : List Derivation). Tries t ls [] trial) taken.lemmas_are tries) };
      };
      none = none;
      judged = λ absent _. (let both : Some trial ≡ None = absent in cc both);
    }

-- a trial's start, by its answer
pub tries_none : (t : Theory) (lemmas : List Derivation) (trial : Trial) → MakesTrial t lemmas (Ok trial) → Tries t lemmas [] (Ok trial)
tries_none t lemmas trial made = (made.1, made.0)

-- ---- blocks

-- a block was handed out, and taken
pub block_taken : (t : Theory) (bytes : List ℕ) (c : CertificateTrial) (now : Scan) (new : CertificateTrial) (block : Derivation) → now ≡ without_block c.reader → c.reader.progress.blocks ≡ block ∷ now.progress.blocks → TakesBlock t now block (with_reader c now) new → HasBegun t bytes c → HasBegun t bytes new
block_taken t bytes c now new block is front takes begun =
    let taken : HasTaken t bytes c = begun.taken in
    let us : List Use = taken.uses in
    let before : List Derivation = (session us).blocks in
    let first : take 1 (session us).reader.progress.blocks ≡ block ∷ [] = ap (λ (s : Scan). take 1 s.progress.blocks) (sym taken.reader_is) ∙ ap (λ (bs : List Derivation). take 1 bs) front in
    let more : before ++ block ∷ [] ≡ (session (us ++ NextBlock ∷ [])).blocks = ap (λ (bs : List Derivation). before ++ bs) (sym first) ∙ sym (blocks_more us NextBlock) in
    let same : now.progress.count ≡ c.reader.progress.count = ap (λ (s : Scan). s.progress.count) is in
    let none : now.progress.lemmas ≡ [] = ap (λ (s : Scan). s.progress.lemmas) is ∙ begun.none in
    let long = length-append before (block ∷ []) in
    let counted = taken.count in
    let one = takes.count in
    let many : new.blocks ≡ length (before ++ block ∷ []) = omega arith in
    let still : c.trial ≡ None → HasCount t.program.now now → ⊥ = λ absent agrees. begun.judged absent (sym same ∙ agrees) in
    record {
      taken = record {
        uses = us ++ NextBlock ∷ [];
        pieces_are = same_pieces us NextBlock bytes refl taken.pieces_are;
        reader_is = takes.reader ∙ is ∙ ap without_block taken.reader_is ∙ sym (reader_more us NextBlock);
        lemmas_are = takes.lemmas ∙ taken.lemmas_are ∙ sym (lemmas_more us NextBlock);
        count = many ∙ ap (λ (ds : List Derivation). length ds) more;
        trial =
            same_trial t new.reader (session us).lemmas _ (before ++ block ∷ []) _ new.trial (sym (lemmas_more us NextBlock)) more
            (subst (λ (s : Scan). IsUnderWay t s (session us).lemmas (before ++ block ∷ []) new.trial) (sym takes.reader)
            (takes.trial (session us).lemmas before (λ agrees absent. still absent agrees) (trial_stays t c.reader now (session us).lemmas before c.trial same none taken.trial)));
      };
      none = ap (λ (s : Scan). s.progress.lemmas) takes.reader ∙ none;
      judged = λ absent agrees. still (takes.none absent) (ap (λ (s : Scan). s.progress.count) (sym takes.reader) ∙ agrees);
    }

-- no whole block is left
pub blocks_tried : (t : Theory) (bytes : List ℕ) (c : CertificateTrial) (now : Scan) → now ≡ without_block c.reader → c.reader.progress.blocks ≡ now.progress.blocks → HasBegun t bytes c → HasTried t bytes (with_reader c now)
blocks_tried t bytes c now is same begun =
    let taken : HasTaken t bytes c = begun.taken in
    let us : List Use = taken.uses in
    let before : List Derivation = (session us).blocks in
    let none : c.reader.progress.blocks ≡ [] = none_first c.reader.progress.blocks (same ∙ ap (λ (s : Scan). s.progress.blocks) is) in
    let first : take 1 (session us).reader.progress.blocks ≡ [] = ap (λ (s : Scan). take 1 s.progress.blocks) (sym taken.reader_is) ∙ ap (λ (bs : List Derivation). take 1 bs) none in
    let all : before ≡ (session (us ++ NextBlock ∷ [])).blocks = sym (append-nil before) ∙ ap (λ (bs : List Derivation). before ++ bs) (sym first) ∙ sym (blocks_more us NextBlock) in
    let gone : now.progress.lemmas ≡ [] = ap (λ (s : Scan). s.progress.lemmas) is ∙ begun.none in
    let count : now.progress.count ≡ c.reader.progress.count = ap (λ (s : Scan). s.progress.count) is in
    record {
      begun = record {
        taken = record {
          uses = us ++ NextBlock ∷ [];
          pieces_are = same_pieces us NextBlock bytes refl taken.pieces_are;
          reader_is = is ∙ ap without_block taken.reader_is ∙ sym (reader_more us NextBlock);
          lemmas_are = taken.lemmas_are ∙ sym (lemmas_more us NextBlock);
          count = taken.count ∙ ap (λ (ds : List Derivation). length ds) all;
          trial = same_trial t now (session us).lemmas _ before _ c.trial (sym (lemmas_more us NextBlock)) all (trial_stays t c.reader now (session us).lemmas before c.trial count gone taken.trial);
        };
        none = gone;
        judged = λ absent agrees. begun.judged absent (sym count ∙ agrees);
      };
      none = sym same ∙ none;
    }

-- ---- one block, by what the trial does with it

pub block_counted : (t : Theory) (s : Scan) (block : Derivation) (old new : CertificateTrial) → new.reader ≡ old.reader → new.lemmas.items ≡ old.lemmas.items → new.blocks ≡ old.blocks + 1 → old.trial ≡ None → new.trial ≡ None → TakesBlock t s block old new
block_counted t s block old new reader lemmas count absent none = record {
  reader = reader;
  lemmas = lemmas;
  count = count;
  trial = λ ls bs judged h. subst (λ (o : MaybeTrial). IsUnderWay t s ls (bs ++ block ∷ []) o) (sym none) (λ agrees. absurd (judged agrees absent));
  none = λ _. absent;
}

stays_fault : (t : Theory) (s : Scan) (ls bs : List Derivation) (block : Derivation) (fault : JudgeFault) → IsTrialOf t s ls bs (Err fault) → IsTrialOf t s ls (bs ++ block ∷ []) (Err fault)
stays_fault t s ls bs block fault h = record { agrees = h.agrees; none = h.none; tries = h.tries }

-- a lemma can't be judged
pub block_behind_fault : (t : Theory) (s : Scan) (block : Derivation) (old new : CertificateTrial) (fault : JudgeFault) → new.reader ≡ old.reader → new.lemmas.items ≡ old.lemmas.items → new.blocks ≡ old.blocks + 1 → old.trial ≡ Some (Err fault) → new.trial ≡ Some (Err fault) → TakesBlock t s block old new
block_behind_fault t s block old new fault reader lemmas count before is = record {
  reader = reader;
  lemmas = lemmas;
  count = count;
  trial = λ ls bs judged h. subst (λ (o : MaybeTrial). IsUnderWay t s ls (bs ++ block ∷ []) o) (sym is) (stays_fault t s ls bs block fault (subst (λ (o : MaybeTrial). IsUnderWay t s ls bs o) before h));
  none = λ absent. absurd (let both : None ≡ Some (Err fault) = sym absent ∙ is in cc both);
}

-- the trial takes it
pub block_tried : (t : Theory) (s : Scan) (block : Derivation) (old new : CertificateTrial) (trial now : Trial) → new.reader ≡ old.reader → new.lemmas.items ≡ old.lemmas.items → new.blocks ≡ old.blocks + 1 → old.trial ≡ Some (Ok trial) → new.trial ≡ Some (Ok now)
    → ((ls bs : List Derivation) → IsReady t ls trial.room → IsTried t.program.now ls trial bs → IsTried t.program.now ls now (bs ++ block ∷ [])) → ((ls : List Derivation) → IsReady t ls trial.room → IsReady t ls now.room) → TakesBlock t s block old new
block_tried t s block old new trial now reader lemmas count before is tried ready = record {
  reader = reader;
  lemmas = lemmas;
  count = count;
  trial = λ ls bs judged h.
      let was : IsTrialOf t s ls bs (Ok trial) = subst (λ (o : MaybeTrial). IsUnderWay t s ls bs o) before h in
      subst (λ (o : MaybeTrial). IsUnderWay t s ls (bs ++ block ∷ []) o) (sym is) (record { agrees = was.agrees; none = was.none; tries = (ready ls was.tries.0, tried ls bs was.tries.0 was.tries.1) });
  none = λ absent. absurd (let both : None ≡ Some (Ok now) = sym absent ∙ is in cc both);
}

-- unless memory is wanted, it takes it
pub block_tried_if : {E : Type 0} (t : Theory) (s : Scan) (block : Derivation) (old new : CertificateTrial) (trial now : Trial) (r : Result (Unit {0}) E) → new.reader ≡ old.reader → new.lemmas.items ≡ old.lemmas.items → new.blocks ≡ old.blocks + 1 → old.trial ≡ Some (Ok trial) → new.trial ≡ Some (Ok now)
    → ((ls bs : List Derivation) → IsReady t ls trial.room → IsTried t.program.now ls trial bs → IfOk r (λ _. IsTried t.program.now ls now (bs ++ block ∷ []))) → ((ls : List Derivation) → IsReady t ls trial.room → IsReady t ls now.room) → IfOk r (λ _. TakesBlock t s block old new)
block_tried_if t s block old new trial now (Ok u) reader lemmas count before is tried ready = block_tried t s block old new trial now reader lemmas count before is tried ready
block_tried_if t s block old new trial now (Err e) reader lemmas count before is tried ready = tt

-- where a trial is under way, its room is ready
pub ready_of : (t : Theory) (s : Scan) (ls bs : List Derivation) (o : MaybeTrial) (trial : Trial) → o ≡ Some (Ok trial) → IsUnderWay t s ls bs o → IsSomeReady t trial.room
ready_of t s ls bs o trial e h =
    let was : IsTrialOf t s ls bs (Ok trial) = subst (λ (x : MaybeTrial). IsUnderWay t s ls bs x) e h in
    record { lemmas = ls; ready = was.tries.0 }

-- ---- how many bytes

bytes_cond : (b : Bool) (x y : Scan) (n : ℕ) → x.bytes ≤ n → y.bytes ≤ n → (cond b x y).bytes ≤ n
bytes_cond true x y n h k = h
bytes_cond false x y n h k = k

line_bytes : (s : Scan) (r : Reading Progress) → (behind_line s r).bytes ≤ s.bytes + 1
line_bytes s (Ok p) = omega arith
line_bytes s (Err e) = omega arith

byte_bytes : (s : Scan) (b : ℕ) → (take_byte s b).bytes ≤ s.bytes + 1
byte_bytes s b =
    bytes_cond (is_some s.fault) s (next_byte s b) (s.bytes + 1) (omega arith)
    (bytes_cond (eqb b 10) (behind_line s (take_line s.progress (words_of s.line))) (record s { line = s.line ++ b ∷ []; bytes = s.bytes + 1 }) (s.bytes + 1) (line_bytes s (take_line s.progress (words_of s.line))) (omega arith))

-- a reader counts no byte twice
scan_bytes : (s : Scan) (piece : List ℕ) → (scan s piece).bytes ≤ s.bytes + length piece
scan_bytes s [] =
    let same : (scan s []).bytes ≡ s.bytes = ap (λ (t : Scan). t.bytes) (no_bytes s) in
    omega arith
scan_bytes s (b ∷ piece) =
    let same : (scan s (b ∷ piece)).bytes ≡ (scan (take_byte s b) piece).bytes = ap (λ (t : Scan). t.bytes) (one_byte s b piece) in
    let more = scan_bytes (take_byte s b) piece in
    let one = byte_bytes s b in
    omega arith

pub feed_bytes : {E : Type 0} (s now : Scan) (piece : List ℕ) (r : Result (Unit {0}) E) → IfOk r (λ _. now ≡ scan s piece) → IfOk r (λ _. now.bytes ≤ s.bytes + length piece)
feed_bytes s now piece r is =
    let few = scan_bytes s piece in
    IfOk-weaker r (λ _. now ≡ scan s piece) (λ _. now.bytes ≤ s.bytes + length piece) (λ _ same. (let long : now.bytes ≡ (scan s piece).bytes = ap (λ (t : Scan). t.bytes) same in omega arith)) is

pub always : {E : Type 0} (r : Result (Unit {0}) E) (P : Type 0) → P → IfOk r (λ _. P)
always (Ok u) P is = is
always (Err e) P is = tt

pub fewer : (old new : List Derivation) (d : Derivation) → old ≡ d ∷ new → length new < length old
fewer old new d is =
    let long : length old ≡ length (d ∷ new) = ap (λ (ds : List Derivation). length ds) is in
    omega arith

-- ---- the end

ends : (t : Theory) (bytes : List ℕ) (c : CertificateTrial) → HasTaken t bytes c → answer c.reader ≡ answer (scan start bytes)
ends t bytes c taken = ap answer taken.reader_is ∙ session_answers taken.uses ∙ ap (λ (bs : List ℕ). answer (scan start bs)) taken.pieces_are

one_number : (n m : ℕ) → Some n ≡ Some m → n ≡ m
one_number n m e = cc e

-- where there is no trial, the blocks aren't as many as the conditions
pub none_judged : (t : Theory) (s : Scan) (blocks : List Derivation) → s.progress.count ≡ Some (length blocks) → (HasCount t.program.now s → ⊥) → length blocks ≡ length (conditions t.program.now) → ⊥
none_judged t s blocks counted other same = other (counted ∙ ap (λ (n : ℕ). Some n) same)

pub fault_judged : (t : Theory) (s : Scan) (lemmas blocks : List Derivation) (fault : JudgeFault) → s.progress.count ≡ Some (length blocks) → IsTrialOf t s lemmas blocks (Err fault) → IsOutcomeOf t.program.now lemmas blocks (Some (Err fault))
fault_judged t s lemmas blocks fault counted h = (one_number (length blocks) (length (conditions t.program.now)) (sym counted ∙ h.agrees), inl h.tries)

pub trial_judged : (t : Theory) (s : Scan) (lemmas blocks : List Derivation) (trial : Trial) (outcome : Result Verdict JudgeFault) → outcome ≡ trial.outcome → s.progress.count ≡ Some (length blocks) → IsTrialOf t s lemmas blocks (Ok trial) → IsOutcomeOf t.program.now lemmas blocks (Some outcome)
trial_judged t s lemmas blocks trial outcome is counted h =
    let same : length blocks ≡ length (conditions t.program.now) = one_number (length blocks) (length (conditions t.program.now)) (sym counted ∙ h.agrees) in
    (same, subst (λ (r : Result Verdict JudgeFault). IsJudged t.program.now lemmas blocks r) (sym is) (tried_whole t.program.now lemmas trial blocks (sym same) h.tries.1))

-- by the trial that the certificate's reader ends with
pub verdict_judged : (t : Theory) (s : Scan) (lemmas blocks : List Derivation) (o : MaybeTrial) (r : Result Trial JudgeFault) (trial : Trial) (outcome : Result Verdict JudgeFault) → o ≡ Some r → r ≡ Ok trial → outcome ≡ trial.outcome → s.progress.count ≡ Some (length blocks) → IsUnderWay t s lemmas blocks o → IsOutcomeOf t.program.now lemmas blocks (Some outcome)
verdict_judged t s lemmas blocks o r trial outcome some ok is counted h =
    trial_judged t s lemmas blocks trial outcome is counted (subst (λ (x : MaybeTrial). IsUnderWay t s lemmas blocks x) (some ∙ ap (λ (x : Result Trial JudgeFault). Some x) ok) h)

pub no_verdict : (p : Program) (lemmas blocks : List Derivation) (o : Option (Result Verdict JudgeFault)) → ((r : Result Verdict JudgeFault) → o ≡ Some r → ⊥) → IsOutcomeOf p lemmas blocks o → length blocks ≡ length (conditions p) → ⊥
no_verdict p lemmas blocks None other h same = h same
no_verdict p lemmas blocks (Some r) other h same = other r refl

pub some_verdict : (p : Program) (lemmas blocks : List Derivation) (o : Option (Result Verdict JudgeFault)) (outcome : Result Verdict JudgeFault) → o ≡ Some outcome → IsOutcomeOf p lemmas blocks o → (length blocks ≡ length (conditions p)) × IsJudged p lemmas blocks outcome
some_verdict p lemmas blocks o outcome is h = subst (λ (x : Option (Result Verdict JudgeFault)). IsOutcomeOf p lemmas blocks x) is h

pub text_tried : (t : Theory) (bytes : List ℕ) (c : CertificateTrial) (verdict : Option (Result Verdict JudgeFault)) → Ok tt ≡ answer c.reader
    → ((s : Scan) (lemmas blocks : List Derivation) → s.progress.count ≡ Some (length blocks) → (c.trial ≡ None → HasCount t.program.now s → ⊥) → IsUnderWay t s lemmas blocks c.trial → IsOutcomeOf t.program.now lemmas blocks verdict)
    → HasTried t bytes c → TriesText t.program.now bytes (record { blocks = c.blocks; verdict = verdict })
unfolding decoded
text_tried t bytes c verdict ended outcome tried =
    let begun : HasBegun t bytes c = tried.begun in
    let taken : HasTaken t bytes c = begun.taken in
    let us : List Use = taken.uses in
    let s : Scan = scan start bytes in
    let ok : answer s ≡ Ok tt = sym (ends t bytes c taken) ∙ sym ended in
    let read : decoded bytes ≡ Ok (proofs_of s.progress) = ap (λ (a : Result (Unit {0}) CertFault). result_of a s.progress) ok in
    let all = session_proofs us (proofs_of s.progress) (ap decoded taken.pieces_are ∙ read) in
    let lemmas : List Derivation = (session us).lemmas in
    let blocks : List Derivation = (session us).blocks in
    let no_lemma : (session us).reader.progress.lemmas ≡ [] = ap (λ (x : Scan). x.progress.lemmas) (sym taken.reader_is) ∙ begun.none in
    let no_block : (session us).reader.progress.blocks ≡ [] = ap (λ (x : Scan). x.progress.blocks) (sym taken.reader_is) ∙ tried.none in
    let same_lemmas : lemmas ≡ s.progress.lemmas = sym (append-nil lemmas) ∙ ap (λ (ds : List Derivation). lemmas ++ ds) (sym no_lemma) ∙ all.0 in
    let same_blocks : blocks ≡ s.progress.blocks = sym (append-nil blocks) ∙ ap (λ (ds : List Derivation). blocks ++ ds) (sym no_block) ∙ all.1 in
    let counted : c.reader.progress.count ≡ Some (length s.progress.blocks) =
    ap (λ (x : Scan). x.progress.count) taken.reader_is ∙ counts_blocks us (ap (λ (bs : List ℕ). answer (scan start bs)) taken.pieces_are ∙ ok) ∙ ap (λ (bs : List ℕ). Some (length (scan start bs).progress.blocks)) taken.pieces_are in
    record {
      proofs = proofs_of s.progress;
      text = decoded_text bytes (proofs_of s.progress) read;
      took = record {
        count = taken.count ∙ ap (λ (bs : List Derivation). length bs) same_blocks;
        outcome = outcome c.reader s.progress.lemmas s.progress.blocks counted begun.judged (same_trial t c.reader lemmas s.progress.lemmas blocks s.progress.blocks c.trial same_lemmas same_blocks taken.trial);
      };
    }

is_first : (fault : CertFault) (read : Result Proofs CertFault) → read ≡ Err fault → IsFirstFault fault read
is_first f.OutOfMemory read h = tt
is_first (f.BadLine n) read h = h
is_first (f.BadNumber n) read h = h
is_first (f.CutShort n) read h = h
is_first (f.Trailing n) read h = h
is_first (f.CountOver n) read h = h

pub text_faulty : (t : Theory) (bytes : List ℕ) (c : CertificateTrial) (fault : CertFault) → Err fault ≡ answer c.reader → HasTried t bytes c → IsFirstFault fault (decoded bytes)
unfolding decoded
text_faulty t bytes c fault ended tried =
    let begun : HasBegun t bytes c = tried.begun in
    let s : Scan = scan start bytes in
    let bad : answer s ≡ Err fault = sym (ends t bytes c begun.taken) ∙ sym ended in
    is_first fault (decoded bytes) (ap (λ (a : Result (Unit {0}) CertFault). result_of a s.progress) bad)

-- From one block to the next: what the outcome of the blocks so far makes of that of one more.
use Rattle.std.proofs.Common.{◌≡◌, inl, inr, ℕ, zero, suc, ◌+◌, ◌<◌, ◌≤◌, List, [], ◌∷◌, ◌++◌, length, take, drop, Option, Some, None, slice_get, get_or, Result, Ok, Err, IfOk, refl, ap, ap₂, sym, ◌∙◌, subst, arith, length-append}
use Rattle.std.proofs.Math.Seq.{drop-nil}
use Rattle.std.proofs.lemmas.List.{drop_all, take_all, take_more}
use Rattle.std.proofs.lemmas.Result.{IfOk-weaker}
use Rattle.method.specs.declared.program.Program.{Program}
use Rattle.method.specs.Labels.{program_labels}
use Rattle.method.specs.Labels as method
use Rattle.terms.specs.Formula.{Formula}
use Rattle.term_meaning.specs.Meaning.{Language}
use Rattle.cert_format.specs.Derivations.{Derivation}
use Rattle.conditions.specs.Conditions.{Condition, formulas, conditions, label_formulas}
use Rattle.condition_formulas.specs.Standing.{StandsAs}
use Rattle.condition_walks.proofs.LabelSizes.{one_condition_per_label}
use Rattle.condition_meaning.specs.Languages.{language_of}
use Rattle.check_labels.specs.declared.labels.ProgramLabel.{ProgramLabel}
use Rattle.check_labels.specs.Labels.{label_of, labels_of}
use Rattle.block_layout.proofs.Lists.{below_gets}
use Rattle.block_layout.specs.declared.space.Theory.{Theory}
use Rattle.vcc_judge.specs.declared.sequence.Conditions.{Conditions}
use Rattle.vcc_judge.specs.declared.trial.Trial.{Trial}
use Rattle.vcc_judge.specs.declared.verdict.Verdict.{Verdict}
use Rattle.vcc_judge.specs.declared.verdict.Verdict.TheVariants.{Yes}
use Rattle.vcc_judge.specs.declared.verdict.JudgeFault.{JudgeFault}
use Rattle.vcc_judge.specs.declared.verdict.JudgeFault.TheVariants as f
use Rattle.vcc_judge.specs.Remaining.{Remains, IsFirst, IsNext}
use Rattle.vcc_judge.specs.Shows.{MakesReady}
use Rattle.vcc_judge.specs.Trials.{IsTried, Judges, MakesTrial}
use Rattle.vcc_judge.specs.Verdicts.{Decides, DecidesSoFar, IsJudged, IsOutcome}
use Rattle.vcc_judge.proofs.Lists.{drop_at, map_long}

-- ---- the outcome of blocks

none_tried : (l : Language) (lemmas : List Derivation) (cs : List Condition) (r : Result Verdict JudgeFault) → r ≡ Ok Yes → DecidesSoFar l lemmas cs [] r
none_tried l lemmas [] r is = is
none_tried l lemmas (c ∷ cs) r is = is

first_tried : (l : Language) (lemmas : List Derivation) (c : Condition) (cs : List Condition) (b : Derivation) (r : Result Verdict JudgeFault) → IsOutcome l lemmas c b r → DecidesSoFar l lemmas (c ∷ cs) (b ∷ []) r
first_tried l lemmas c cs b r (inl (follows, is)) = inl (follows, none_tried l lemmas cs r is)
first_tried l lemmas c cs b r (inr stops) = inr stops

-- while it is yes, it becomes that of the next condition
next_tried : (l : Language) (lemmas : List Derivation) (cs : List Condition) (bs : List Derivation) (b : Derivation) (r : Result Verdict JudgeFault) (c : Condition) (rest : List Condition)
    → DecidesSoFar l lemmas cs bs (Ok Yes) → drop (length bs) cs ≡ c ∷ rest → IsOutcome l lemmas c b r → DecidesSoFar l lemmas cs (bs ++ b ∷ []) r
next_tried l lemmas [] bs b r c rest h at outcome = absurd (let none : [] ≡ c ∷ rest = sym (drop-nil (length bs)) ∙ at in cc none)
next_tried l lemmas (x ∷ cs) [] b r c rest h at outcome =
    let same : x ≡ c = cc at in
    subst (λ (d : Condition). DecidesSoFar l lemmas (d ∷ cs) (b ∷ []) r) (sym same) (first_tried l lemmas c cs b r outcome)
next_tried l lemmas (x ∷ cs) (d ∷ bs) b r c rest (inl (follows, h)) at outcome = inl (follows, next_tried l lemmas cs bs b r c rest h at outcome)
next_tried l lemmas (x ∷ cs) (d ∷ bs) b r c rest (inr stops) at outcome = absurd stops

-- another one stays
decided : (l : Language) (lemmas : List Derivation) (cs : List Condition) (bs : List Derivation) (b : Derivation) (r : Result Verdict JudgeFault) → (r ≡ Ok Yes → ⊥) → DecidesSoFar l lemmas cs bs r → DecidesSoFar l lemmas cs (bs ++ b ∷ []) r
decided l lemmas [] bs b r other h = absurd (other h)
decided l lemmas (c ∷ cs) [] b r other h = absurd (other h)
decided l lemmas (c ∷ cs) (d ∷ bs) b r other (inl (follows, rest)) = inl (follows, decided l lemmas cs bs b r other rest)
decided l lemmas (c ∷ cs) (d ∷ bs) b r other (inr stops) = inr stops

-- blocks behind the last condition say nothing
beyond : (l : Language) (lemmas : List Derivation) (cs : List Condition) (bs : List Derivation) (b : Derivation) (r : Result Verdict JudgeFault) → length cs ≤ length bs → DecidesSoFar l lemmas cs bs r → DecidesSoFar l lemmas cs (bs ++ b ∷ []) r
beyond l lemmas [] bs b r long h = h
beyond l lemmas (c ∷ cs) [] b r long h = absurd (omega (arith, long))
beyond l lemmas (c ∷ cs) (d ∷ bs) b r long (inl (follows, rest)) = inl (follows, beyond l lemmas cs bs b r (omega (arith, long)) rest)
beyond l lemmas (c ∷ cs) (d ∷ bs) b r long (inr stops) = inr stops

-- that of as many blocks as conditions is the answer
whole : (l : Language) (lemmas : List Derivation) (cs : List Condition) (bs : List Derivation) (r : Result Verdict JudgeFault) → length cs ≡ length bs → DecidesSoFar l lemmas cs bs r → Decides l lemmas cs bs r
whole l lemmas [] [] r long h = h
whole l lemmas [] (b ∷ bs) r long h = absurd (omega (arith, long))
whole l lemmas (c ∷ cs) [] r long h = absurd (omega (arith, long))
whole l lemmas (c ∷ cs) (b ∷ bs) r long (inl (follows, rest)) = inl (follows, whole l lemmas cs bs r (omega (arith, long)) rest)
whole l lemmas (c ∷ cs) (b ∷ bs) r long (inr stops) = inr stops

-- ---- conditions and labels

paired : (ls : List method.ProgramLabel) (fs : List Formula) → length fs ≡ length ls → length (label_formulas ls fs) ≡ length ls
paired [] fs same = refl
paired (l ∷ ls) [] same = absurd (omega (arith, same))
paired (l ∷ ls) (f ∷ fs) same = ap suc (paired ls fs (omega (arith, same)))

-- a program has as many conditions as labels
pub one_per_label : (p : Program) → length (conditions p) ≡ length (program_labels p)
one_per_label p = paired (program_labels p) (formulas p) (one_condition_per_label p)

abbrev labelled : ProgramLabel → Formula → Condition
labelled x g = record { label = label_of x; formula = g }

-- the condition at a place has the label there
at_place : (labels : List ProgramLabel) (fs : List Formula) (n : ℕ) (label : ProgramLabel) (g : Formula) (rest : List Formula) → slice_get labels n ≡ Some label → drop n fs ≡ g ∷ rest
    → (more : List Condition) × (drop n (label_formulas (labels_of labels) fs) ≡ labelled label g ∷ more)
at_place [] fs n label g rest at e = absurd cc
at_place (x ∷ labels) [] n label g rest at e = absurd (let none : [] ≡ g ∷ rest = sym (drop-nil n) ∙ e in cc none)
at_place (x ∷ labels) (h ∷ fs) zero label g rest at e =
    let same : x ≡ label = cc in
    let first : h ≡ g = cc e in
    (label_formulas (labels_of labels) fs, ap₂ (λ (y : ProgramLabel) (k : Formula). labelled y k ∷ label_formulas (labels_of labels) fs) same first)
at_place (x ∷ labels) (h ∷ fs) (suc n) label g rest at e = at_place labels fs n label g rest at e

-- ---- a trial

abbrev behind : Trial → ℕ → Trial
behind old next = record old { blocks = next }

-- before the first block
pub tried_none : (p : Program) (lemmas : List Derivation) (trial : Trial) → trial.blocks ≡ 0 → trial.outcome ≡ Ok Yes → Remains p trial.conditions (formulas p) → IsTried p lemmas trial []
tried_none p lemmas trial none is remains = record { count = none; outcome = none_tried (language_of p) lemmas (conditions p) trial.outcome is; remains = λ _. remains }

-- no condition is given where one is left
pub none_given : (p : Program) (c : Conditions) (o : Option ℕ) (g : Formula) (rest : List Formula) → ((x : ℕ) → o ≡ Some x → ⊥) → IsNext p c o (g ∷ rest) → ⊥
none_given p c None g rest other next = cc next
none_given p c (Some x) g rest other next = other x refl

-- the condition that is given is judged
pub next_judged : (p : Program) (lemmas : List Derivation) (given : Conditions) (new : Trial) (o : Option ℕ) (id : ℕ) (label : ProgramLabel) (g : Formula) (rest : List Formula) (block : Derivation) → o ≡ Some id → IsNext p given o (g ∷ rest) → new.conditions ≡ given
    → ((h : Formula) → StandsAs given.current.graph id h → IsOutcome (language_of p) lemmas (labelled label h) block new.outcome) → Judges p lemmas label g rest block new
next_judged p lemmas given new o id label g rest block is next same outcome =
    let first : IsFirst p given id (g ∷ rest) = subst (λ (x : Option ℕ). IsNext p given x (g ∷ rest)) is next in
    let is_first : first.condition ≡ g = cc first.conditions in
    let is_rest : first.rest ≡ rest = cc first.conditions in
    record {
      outcome = subst (λ (h : Formula). IsOutcome (language_of p) lemmas (labelled label h) block new.outcome) is_first (outcome first.condition first.stands);
      remains = subst (λ (c : Conditions). Remains p c rest) (sym same) (subst (λ (hs : List Formula). Remains p given hs) is_rest first.remains);
    }

-- as many blocks as conditions are judged
pub tried_whole : (p : Program) (lemmas : List Derivation) (trial : Trial) (blocks : List Derivation) → length (conditions p) ≡ length blocks → IsTried p lemmas trial blocks → IsJudged p lemmas blocks trial.outcome
tried_whole p lemmas trial blocks count tried = inr (inl (whole (language_of p) lemmas (conditions p) blocks trial.outcome count tried.outcome))

module _ (p : Program) (lemmas : List Derivation) (labels : List ProgramLabel) (are : labels_of labels ≡ program_labels p) where
  many_formulas : length (formulas p) ≡ length labels
  many_formulas = one_condition_per_label p ∙ sym (ap length are) ∙ map_long label_of labels

  many_conditions : length (conditions p) ≡ length labels
  many_conditions = one_per_label p ∙ sym (ap length are) ∙ map_long label_of labels

  -- a block behind the last condition
  pub tried_beyond : (old : Trial) (place next : ℕ) (b : Derivation) → place ≡ old.blocks → next ≡ place + 1 → length labels ≤ place → (blocks : List Derivation) → IsTried p lemmas old blocks → IsTried p lemmas (behind old next) (blocks ++ b ∷ [])
  tried_beyond old place next b at is above blocks tried =
      let long = length-append blocks (b ∷ []) in
      let count = tried.count in
      let fs = many_formulas in
      let cs = many_conditions in
      record {
        count = omega arith;
        outcome = beyond (language_of p) lemmas (conditions p) blocks b old.outcome (omega arith) tried.outcome;
        remains = λ still. subst (λ (gs : List Formula). Remains p old.conditions gs) (drop_all (length blocks) (formulas p) (omega arith) ∙ sym (drop_all (length (blocks ++ b ∷ [])) (formulas p) (omega arith))) (tried.remains still);
      }

  -- a block behind the condition that decided
  pub tried_decided : (old : Trial) (place next : ℕ) (b : Derivation) → place ≡ old.blocks → next ≡ place + 1 → (old.outcome ≡ Ok Yes → ⊥) → (blocks : List Derivation) → IsTried p lemmas old blocks → IsTried p lemmas (behind old next) (blocks ++ b ∷ [])
  tried_decided old place next b at is other blocks tried =
      let long = length-append blocks (b ∷ []) in
      let count = tried.count in
      record {
        count = omega arith;
        outcome = decided (language_of p) lemmas (conditions p) blocks b old.outcome other tried.outcome;
        remains = λ still. absurd (other still);
      }

  one_tried : (old new : Trial) (label : ProgramLabel) (b : Derivation) (blocks : List Derivation) (g : Formula) → old.outcome ≡ Ok Yes → slice_get labels (length blocks) ≡ Some label → drop (length blocks) (formulas p) ≡ g ∷ drop (length blocks + 1) (formulas p) → new.blocks ≡ length blocks + 1
      → IsTried p lemmas old blocks → Judges p lemmas label g (drop (length blocks + 1) (formulas p)) b new → IsTried p lemmas new (blocks ++ b ∷ [])
  one_tried old new label b blocks g is there first count tried judges =
      let long = length-append blocks (b ∷ []) in
      let same : length (blocks ++ b ∷ []) ≡ length blocks + 1 = omega arith in
      let place = at_place labels (formulas p) (length blocks) label g (drop (length blocks + 1) (formulas p)) there first in
      let found : drop (length blocks) (conditions p) ≡ labelled label g ∷ place.0 = ap (λ (ls : List method.ProgramLabel). drop (length blocks) (label_formulas ls (formulas p))) (sym are) ∙ place.1 in
      record {
        count = omega arith;
        outcome = next_tried (language_of p) lemmas (conditions p) blocks b new.outcome (labelled label g) place.0 (subst (λ (r : Result Verdict JudgeFault). DecidesSoFar (language_of p) lemmas (conditions p) blocks r) is tried.outcome) found judges.outcome;
        remains = λ _. subst (λ (n : ℕ). Remains p new.conditions (drop n (formulas p))) (sym same) judges.remains;
      }

  -- the block of the next condition
  pub tried_more : {E : Type 0} (old new : Trial) (place next : ℕ) (label : ProgramLabel) (b : Derivation) (r : Result (Unit {0}) E) → place ≡ old.blocks → next ≡ place + 1 → place < length labels → slice_get labels place ≡ Some label → old.outcome ≡ Ok Yes → new.blocks ≡ next
      → ((g : Formula) (rest : List Formula) → Remains p old.conditions (g ∷ rest) → IfOk r (λ _. Judges p lemmas label g rest b new)) → (blocks : List Derivation) → IsTried p lemmas old blocks → IfOk r (λ _. IsTried p lemmas new (blocks ++ b ∷ []))
  tried_more old new place next label b r at is below there still count judges blocks tried =
      let same : place ≡ length blocks = at ∙ tried.count in
      let fs = many_formulas in
      let (g, gets) = below_gets (formulas p) (length blocks) (omega arith) in
      let first = drop_at (formulas p) (length blocks) g gets in
      let here = subst (λ (n : ℕ). slice_get labels n ≡ Some label) same there in
      IfOk-weaker r (λ _. Judges p lemmas label g (drop (length blocks + 1) (formulas p)) b new) (λ _. IsTried p lemmas new (blocks ++ b ∷ []))
      (λ _ judged. one_tried old new label b blocks g still here first (omega arith) tried judged)
      (judges g (drop (length blocks + 1) (formulas p)) (subst (λ (gs : List Formula). Remains p old.conditions gs) first (tried.remains still)))

  -- as many blocks as labels are judged
  pub tried_judged : (trial : Trial) (blocks : List Derivation) → length labels ≡ length blocks → IsTried p lemmas trial blocks → IsJudged p lemmas blocks trial.outcome
  tried_judged trial blocks count tried = tried_whole p lemmas trial blocks (many_conditions ∙ count) tried

  pub all_tried : (trial : Trial) (blocks : List Derivation) (n : ℕ) (result : Result Verdict JudgeFault) → length labels ≡ length blocks → length blocks ≤ n → result ≡ trial.outcome → IsTried p lemmas trial (take n blocks) → IsJudged p lemmas blocks result
  all_tried trial blocks n result count above is tried =
      subst (λ (r : Result Verdict JudgeFault). IsJudged p lemmas blocks r) (sym is)
      (tried_judged trial blocks count (subst (λ (bs : List Derivation). IsTried p lemmas trial bs) (take_all n blocks above) tried))

-- the blocks up to a place, and the one there
pub taken_more : (p : Program) (lemmas : List Derivation) (trial : Trial) (blocks : List Derivation) (n : ℕ) (b : Derivation) → n < length blocks → b ≡ get_or blocks n b → IsTried p lemmas trial (take n blocks ++ b ∷ []) → IsTried p lemmas trial (take (n + 1) blocks)
taken_more p lemmas trial blocks n b below is tried =
    subst (λ (bs : List Derivation). IsTried p lemmas trial bs) (ap (λ (d : Derivation). take n blocks ++ d ∷ []) is ∙ sym (take_more blocks n b below)) tried

pub refused_judged : (p : Program) (lemmas blocks : List Derivation) (result : Result Verdict JudgeFault) → result ≡ Err f.OutOfMemory → IsJudged p lemmas blocks result
refused_judged p lemmas blocks result e = inr (inr e)

-- a lemma can't be judged, or memory is refused
pub unready_judged : (t : Theory) (lemmas blocks : List Derivation) (fault : JudgeFault) → MakesReady t lemmas (Err fault) → IsJudged t.program.now lemmas blocks (Err fault)
unready_judged t lemmas blocks (f.Wide w) stops = inl stops
unready_judged t lemmas blocks f.Terms stops = inl stops
unready_judged t lemmas blocks f.OutOfMemory stops = inr (inr refl)

pub unready_trial : (t : Theory) (lemmas : List Derivation) (fault : JudgeFault) → MakesReady t lemmas (Err fault) → MakesTrial t lemmas (Err fault)
unready_trial t lemmas fault stops = stops

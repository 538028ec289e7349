-- What a check answers, refusal by refusal.
use Rattle.std.proofs.Common.{◌≡◌, inl, inr, ℕ, ◌≤◌, List, length, Result, Err, refl, ap, sym, ◌∙◌, subst}
use Rattle.term_meaning.specs.Meaning.{IsFaithful}
use Rattle.term_meaning.specs.Filling.{IsLayered}
use Rattle.method.specs.declared.program.Program.{Program}
use Rattle.conditions.specs.Conditions.{conditions}
use Rattle.condition_meaning.specs.Languages.{language_of}
use Rattle.condition_meaning.specs.Promises.{ConditionsAreValid}
use Rattle.c_types.specs.Typed.{IsProgramOf}
use Rattle.tree_forms.proofs.FormLaw.{form_law}
use Rattle.grain_law.proofs.Law.{safe_is_safe_in_fine_steps}
use Rattle.race_law.proofs.Law.{safe_is_race_free}
use Rattle.erasure_runs.proofs.Back.{safe_is_safe_plain}
use Rattle.apart_law.proofs.Texts.{texts_storing_once_are_apart}
use Rattle.typed_conditions.specs.Laws.{SourcesAreAnnotated, SourcesAreSafe}
use Rattle.cert_format.specs.Derivations.{Derivation}
use Rattle.cert_format.specs.Text.{Proofs}
use Rattle.vcc_base.specs.Maps.{Map}
use Rattle.vcc_base.specs.Limits.{number_of}
use Rattle.vcc_base.specs.declared.limit.Limit.TheVariants as limit
use Rattle.vcc_io.specs.declared.refusal.Refusal.{Refusal}
use Rattle.vcc_io.specs.declared.refusal.Refusal.TheVariants.{Count}
use Rattle.vcc_io.specs.declared.verdict.Verdict.{Verdict}
use Rattle.vcc_io.specs.Certificates.{HoldsCertificate, IsCertificateStop}
use Rattle.vcc_io.specs.Held.{HoldsProgram}
use Rattle.vcc_cli.specs.Accepts.{HoldsSafe, IsSafeSource}
use Rattle.vcc_cli.specs.Checks.{AreJudged, IsProgramAnswer}

abbrev wrong_count : ℕ → ℕ → Result Verdict Refusal
wrong_count blocks found = Err (Count (record { blocks = blocks; conditions = found }))

module _ (m : Map) (name : List ℕ) (p : Program) (few : length (conditions p) ≤ number_of limit.Conditions) where
  -- the certificate is refused
  pub stops_at_certificate : (r : Refusal) → IsCertificateStop m name r → IsProgramAnswer m name p (Err r)
  stops_at_certificate r stop = inr (inl (few, inl (record { refusal = r; is = refl; why = stop })))

  -- it has another number of blocks
  pub stops_at_blocks : (proofs : Proofs) (blocks found : ℕ) → HoldsCertificate m name proofs → blocks ≡ length proofs.blocks → found ≡ length (conditions p) → (blocks ≡ found → ⊥) → IsProgramAnswer m name p (Err (Count (record { blocks = blocks; conditions = found })))
  stops_at_blocks proofs blocks found holds many each differ =
      inr (inl (
        few,
        inr (
          proofs,
          holds,
          inl (record {
            differ = λ same. differ (many ∙ (same ∙ sym each));
            is = ap (λ (n : ℕ). wrong_count n found) many ∙ ap (λ (n : ℕ). wrong_count (length proofs.blocks) n) each;
          }),
        ),
      ))

  -- the blocks are judged
  pub judged_answer : (proofs : Proofs) (lemmas blocks : List Derivation) (answer : Result Verdict Refusal) → HoldsCertificate m name proofs → lemmas ≡ proofs.lemmas → blocks ≡ proofs.blocks → length blocks ≡ length (conditions p) → AreJudged p lemmas blocks answer → IsProgramAnswer m name p answer
  judged_answer proofs lemmas blocks answer holds lemmas_are same count judged =
      inr (inl (
        few,
        inr (
          proofs,
          holds,
          inr (record {
            agree = ap length (sym same) ∙ count;
            judged = subst (λ (ds : List Derivation). AreJudged p ds proofs.blocks answer) lemmas_are (subst (λ (bs : List Derivation). AreJudged p lemmas bs answer) same judged);
          }),
        ),
      ))

-- a source whose program has valid conditions is safe, in fine steps too, and has no data race
pub safe_source : (source : List ℕ) (p : Program) → IsProgramOf source p → SourcesAreAnnotated → SourcesAreSafe → (IsLayered (language_of p) → IsFaithful (language_of p) → ConditionsAreValid p) → IsSafeSource source
safe_source source p is annotated safe valid =
    let reads = is.reads in
    let form = form_law source reads.items reads.end reads.text in
    let both = annotated reads.items reads.end form reads.typed p reads.tables_are in
    let at_once = safe reads.items reads.end form reads.typed p reads.tables_are (valid both.1 both.0) in
    record {
      program = p;
      reads = is;
      safe = at_once;
      in_fine_steps = safe_is_safe_in_fine_steps p is.well_formed at_once;
      without_races = safe_is_race_free p is.well_formed at_once;
      without_annotations = λ once. safe_is_safe_plain p is.well_formed (texts_storing_once_are_apart source reads.items reads.end reads.text once reads.typed p reads.tables_are) at_once;
    }

-- so is what a name holds
pub holds_safe : (m : Map) (name : List ℕ) (p : Program) → HoldsProgram m name p → SourcesAreAnnotated → SourcesAreSafe → (IsLayered (language_of p) → IsFaithful (language_of p) → ConditionsAreValid p) → HoldsSafe m name
holds_safe m name p holds annotated safe valid =
    record { source = holds.source; held = holds.held.0; is_safe = safe_source holds.source p holds.program annotated safe valid }

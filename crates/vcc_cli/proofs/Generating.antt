-- What a gen comes to.
use Rattle.std.proofs.Common.{◌≡◌, inl, inr, ℕ, ◌<◌, List, [], codes, Bool, Option, Some, Result, Ok, Err, refl, ◌∙◌, subst, arith}
use Rattle.generated_source.specs.Sources.{generated}
use Rattle.c_types.specs.Typed.{IsProgramOf}
use Rattle.method.specs.declared.program.Program.{Program}
use Rattle.term_meaning.specs.Meaning.{IsFaithful}
use Rattle.term_meaning.specs.Filling.{IsLayered}
use Rattle.condition_meaning.specs.Languages.{language_of}
use Rattle.condition_meaning.specs.Promises.{ConditionsAreValid}
use Rattle.typed_conditions.specs.Laws.{SourcesAreAnnotated, SourcesAreSafe}
use Rattle.cert_format.specs.Text.{IsCertText, Proofs}
use Rattle.vcc_base.specs.Maps.{Map, NowWritten}
use Rattle.vcc_base.specs.Memory.{look_up}
use Rattle.vcc_base.specs.declared.limit.Limit.TheVariants.{CertBytes}
use Rattle.vcc_judge.specs.Verdicts.{IsVerified}
use Rattle.vcc_judge.proofs.Verified.{yes_is_verified}
use Rattle.vcc_verify.specs.Outcomes.{Verifies}
use Rattle.vcc_verify.specs.declared.fault.VerifyFault.{VerifyFault}
use Rattle.vcc_verify.specs.declared.fault.VerifyFault.TheVariants as verify
use Rattle.vcc_io.specs.declared.refusal.Refusal.{Refusal}
use Rattle.vcc_io.specs.declared.refusal.Refusal.TheVariants.{Limit}
use Rattle.vcc_io.specs.declared.verdict.Verdict.{Verdict}
use Rattle.vcc_io.specs.declared.verdict.Verdict.TheVariants.{Yes, No}
use Rattle.vcc_io.specs.Lines.{IsReported, Written, copies_line}
use Rattle.vcc_io.specs.Source.{IsSourceRefusalOrMemory}
use Rattle.vcc_io.proofs.Statuses.{no_refusal, refusal_past, whole_line}
use Rattle.vcc_cli.specs.Accepts.{IsGenAccepted}
use Rattle.vcc_cli.specs.Checks.{IsCertificateAnswer, IsProgramAnswer}
use Rattle.vcc_cli.specs.Generated.{IsCopiesStop, IsReportedGen, IsSearch, IsSearchAnswer, IsSearchStop, LeavesCertificate, ShowsCopies, cert_name}
use Rattle.vcc_cli.proofs.Checking.{safe_source}

-- ---- before the search

-- what the bytes are refused for is what their source is
pub copies_refused : (bytes items source : List ℕ) (refusal : Refusal) → bytes ≡ items → items ≡ source → IsSourceRefusalOrMemory bytes refusal → IsCopiesStop source refusal
copies_refused bytes items source refusal e f why = inl (subst (λ (b : List ℕ). IsSourceRefusalOrMemory b refusal) (e ∙ f) why)

-- ---- the search

module _ (p : Program) (held : List (List ℕ × List ℕ)) (old : List ℕ) (new : Option (List ℕ)) (empty : held ≡ []) (unwritten : old ≡ []) where
  -- a verify into this store and this sink is one into a store and a sink that hold nothing
  searched : (left : Option Map) (result : Result Bool VerifyFault) → Verifies p cert_name (Some (look_up held)) left (Some old) new result → IsSearch p left result
  searched left result verifies = record {
    written = new;
    verifies = subst (λ (bytes : List ℕ). Verifies p cert_name (Some (look_up [])) left (Some bytes) new result) unwritten (subst (λ (all : List (List ℕ × List ℕ)). Verifies p cert_name (Some (look_up all)) left (Some old) new result) empty verifies);
  }

  -- it comes to its end
  pub search_ended : (left : Map) (all : Bool) → Verifies p cert_name (Some (look_up held)) (Some left) (Some old) new (Ok all) → LeavesCertificate p left
  search_ended left all verifies = (all, searched (Some left) (Ok all) verifies)

  -- it breaks off at a certificate that would be too long
  pub search_overflows : (left : Option Map) (fault : VerifyFault) → fault ≡ verify.CertBytes → Verifies p cert_name (Some (look_up held)) left (Some old) new (Err fault) → IsSearchStop p (Limit CertBytes)
  search_overflows left fault is verifies = inr (refl, (left, subst (λ (f : VerifyFault). IsSearch p left (Err f)) is (searched left (Err fault) verifies)))

-- what is judged is what the search left
pub search_judged : (p : Program) (left : Map) (answer : Result Verdict Refusal) → LeavesCertificate p left → IsProgramAnswer left cert_name p answer → IsSearchAnswer p answer
search_judged p left answer leaves judged = inr (left, leaves, judged)

-- ---- yes

-- a certificate by which the program's conditions follow
record IsShown (p : Program) : Type 0 where
  cert : List ℕ
  proofs : Proofs
  text : IsCertText cert proofs
  verified : IsVerified p proofs.lemmas proofs.blocks

module _ (m : Map) (name : List ℕ) (p : Program) where
  shown_certificate : IsCertificateAnswer m name p (Ok Yes) → IsShown p
  shown_certificate (inl refused) = absurd (no_refusal (Ok Yes) refused.refusal refl refused.is)
  shown_certificate (inr (proofs, held, inl miscounted)) = absurd (no_refusal (Ok Yes) _ refl miscounted.is)
  shown_certificate (inr (proofs, held, inr counted)) = record { cert = held.bytes; proofs = proofs; text = held.text; verified = yes_is_verified p proofs.lemmas proofs.blocks counted.judged }

  shown_program : IsProgramAnswer m name p (Ok Yes) → IsShown p
  shown_program (inl many) = absurd (no_refusal (Ok Yes) _ refl many.1)
  shown_program (inr (inl answered)) = shown_certificate answered.1
  shown_program (inr (inr wanting)) = absurd (no_refusal (Ok Yes) _ refl wanting)

shown_search : (p : Program) → IsSearchAnswer p (Ok Yes) → IsShown p
shown_search p (inl refused) = absurd (no_refusal (Ok Yes) refused.refusal refl refused.is)
shown_search p (inr (left, leaves, judged)) = shown_program left cert_name p judged

-- where the answer over the program of so many copies is yes, their source is accepted
gen_accepted : (copies : ℕ) (p : Program) (answer : Result Verdict Refusal) → IsProgramOf (generated copies) p → SourcesAreAnnotated → SourcesAreSafe → (IsLayered (language_of p) → IsFaithful (language_of p) → ConditionsAreValid p) → IsSearchAnswer p answer → answer ≡ Ok Yes → IsGenAccepted copies
gen_accepted copies p answer reads annotated safe valid answers is =
    let shown = shown_search p (subst (λ (a : Result Verdict Refusal). IsSearchAnswer p a) is answers) in
    record {
      cert = shown.cert;
      accepts = record { program = p; proofs = shown.proofs; reads = reads; text = shown.text; verified = shown.verified };
      is_safe = safe_source (generated copies) p reads annotated safe valid;
    }

-- ---- the status

below_two : (status n : ℕ) → status ≡ n → n < 2 → status < 2
below_two status n e small = omega (arith, e, small)

zero_or_one : (status : ℕ) → status ≡ 0 → status ≡ 1 → ⊥
zero_or_one status a b = omega (arith, a, b)

said_yes : (copies : ℕ) (answer : Result Verdict Refusal) (w : Written) (status : ℕ) → status ≡ 0 → IsReportedGen copies answer w status → (answer ≡ Ok Yes) × NowWritten w.before w.after (copies_line copies (codes "verified, yes"))
said_yes copies (Ok Yes) w status zeroed reported = (refl, (whole_line _ 0 w status (below_two status 0 zeroed (omega arith)) reported).1)
said_yes copies (Ok (No failing)) w status zeroed reported = absurd (zero_or_one status zeroed (whole_line _ 1 w status (below_two status 0 zeroed (omega arith)) reported).0)
said_yes copies (Err r) w status zeroed reported = absurd (refusal_past r w status (below_two status 0 zeroed (omega arith)) reported)

said_no : (copies : ℕ) (answer : Result Verdict Refusal) (w : Written) (status : ℕ) → status ≡ 1 → IsReportedGen copies answer w status → NowWritten w.before w.after (copies_line copies (codes "not verified, no"))
said_no copies (Ok Yes) w status one reported = absurd (zero_or_one status (whole_line _ 0 w status (below_two status 1 one (omega arith)) reported).0 one)
said_no copies (Ok (No failing)) w status one reported = (whole_line _ 1 w status (below_two status 1 one (omega arith)) reported).1
said_no copies (Err r) w status one reported = absurd (refusal_past r w status (below_two status 1 one (omega arith)) reported)

-- ---- both

-- a refusal shows nothing
pub refusal_shows : (copies : ℕ) (r : Refusal) (w : Written) (status : ℕ) → IsReported (Err r) w status → ShowsCopies copies w status
refusal_shows copies r w status reported = record {
  at_yes = λ zeroed. absurd (refusal_past r w status (below_two status 0 zeroed (omega arith)) reported);
  at_no = λ one. absurd (refusal_past r w status (below_two status 1 one (omega arith)) reported);
}

-- what the answer over the program of so many copies shows
pub answer_shows : (copies : ℕ) (p : Program) (answer : Result Verdict Refusal) (w : Written) (status : ℕ) → IsProgramOf (generated copies) p → SourcesAreAnnotated → SourcesAreSafe → (IsLayered (language_of p) → IsFaithful (language_of p) → answer ≡ Ok Yes → ConditionsAreValid p) → IsSearchAnswer p answer → IsReportedGen copies answer w status → ShowsCopies copies w status
answer_shows copies p answer w status reads annotated safe valid answers reported = record {
  at_yes = λ zeroed. let said = said_yes copies answer w status zeroed reported in
      (said.1, gen_accepted copies p answer reads annotated safe (λ layered faithful. valid layered faithful said.0) answers said.0);
  at_no = λ one. said_no copies answer w status one reported;
}

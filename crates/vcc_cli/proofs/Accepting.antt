-- Acceptance gets yes, and a yes is acceptance.
use Rattle.std.proofs.Common.{◌≡◌, ◌⊎◌, inl, inr, ℕ, ◌<◌, ◌≤◌, List, length, Option, Some, IsNone, Result, Ok, Err, refl, sym, ◌∙◌, subst, arith}
use Rattle.c_syntax.specs.declared.token.Span.{Span}
use Rattle.c_syntax.specs.Items.{Item}
use Rattle.typing_spec.specs.First.{Breaks, IsWellTyped}
use Rattle.typing_expressions.specs.declared.violations.Violation.{Violation}
use Rattle.typing_expressions.specs.Views.{rule}
use Rattle.c_source.specs.declared.fault.SourceFault.{SourceFault}
use Rattle.c_source.specs.declared.fault.SourceFault.TheVariants as f
use Rattle.c_source.specs.Sources.{IsFault, IsText, IsWithinLimits}
use Rattle.c_source.proofs.Unique.{not_both, one_text}
use Rattle.c_types.specs.Typed.{IsProgramOf}
use Rattle.method.specs.declared.program.Program.{Program}
use Rattle.conditions.specs.Conditions.{conditions}
use Rattle.condition_meaning.specs.Languages.{language_of}
use Rattle.cert_format.specs.Derivations.{Derivation}
use Rattle.cert_format.specs.Text.{IsCertText, Proofs}
use Rattle.cert_reader.specs.Keeping.{decoded}
use Rattle.cert_reader.proofs.Texts.{text_decoded}
use Rattle.vcc_judge.specs.declared.verdict.Verdict.{Verdict as Judgment}
use Rattle.vcc_judge.specs.declared.verdict.Verdict.TheVariants as v
use Rattle.vcc_judge.specs.declared.verdict.JudgeFault.{JudgeFault}
use Rattle.vcc_judge.specs.declared.verdict.JudgeFault.TheVariants as j
use Rattle.vcc_judge.specs.Verdicts.{IsJudged, IsVerified, LemmasFit}
use Rattle.vcc_judge.proofs.Verified.{verified_gets_yes, yes_is_verified}
use Rattle.vcc_base.specs.Maps.{Map}
use Rattle.vcc_base.specs.Limits.{number_of}
use Rattle.vcc_base.specs.declared.limit.Limit.{Limit as AnyLimit}
use Rattle.vcc_base.specs.declared.limit.Limit.TheVariants as limit
use Rattle.vcc_io.specs.declared.refusal.Refusal.{Refusal}
use Rattle.vcc_io.specs.declared.refusal.Refusal.TheVariants.{BadByte, BadNumber, OpenComment, Unexpected, UnknownForm, BreaksRule, BadCertificate, Wide, Limit, Missing, ReadFault, OutOfMemory}
use Rattle.vcc_io.specs.declared.verdict.Verdict.{Verdict}
use Rattle.vcc_io.specs.declared.verdict.Verdict.TheVariants.{Yes, No}
use Rattle.vcc_io.specs.Certificates.{IsCertificateStop, IsNoCertificate, cert_fault}
use Rattle.vcc_io.specs.Held.{HoldsProgram, HoldsTooMuch, IsSourceStop, IsUnread}
use Rattle.vcc_io.specs.Source.{BreaksFirst, IsSourceRefusal, IsSourceRefusalOrMemory}
use Rattle.vcc_io.proofs.Counting.{one_block_each}
use Rattle.vcc_io.proofs.Statuses.{no_refusal}
use Rattle.vcc_cli.specs.Accepts.{HoldAccepted, IsAcceptable}
use Rattle.vcc_cli.specs.Checks.{AreJudged, IsCertificateAnswer, IsCheckAnswer, IsProgramAnswer}
use Rattle.vcc_cli.proofs.Verdicts.{IsYesOrFault}

-- a map holds one value at a place
one_value : (held : Option (List ℕ)) (a b : List ℕ) → held ≡ Some a → held ≡ Some b → a ≡ b
one_value held a b first second = let both : Some a ≡ Some b = sym first ∙ second in cc both

-- ---- a yes is acceptance

module _ (m : Map) (source_name cert_name : List ℕ) (p : Program) (holds : HoldsProgram m source_name p) where
  accepted_certificate : IsCertificateAnswer m cert_name p (Ok Yes) → HoldAccepted m source_name cert_name
  accepted_certificate (inl refused) = absurd (no_refusal (Ok Yes) refused.refusal refl refused.is)
  accepted_certificate (inr (proofs, held, inl miscounted)) = absurd (no_refusal (Ok Yes) _ refl miscounted.is)
  accepted_certificate (inr (proofs, held, inr counted)) = record {
    source = holds.source;
    cert = held.bytes;
    source_held = holds.held.0;
    cert_held = held.held.0;
    accepts = record { program = p; proofs = proofs; reads = holds.program; text = held.text; verified = yes_is_verified p proofs.lemmas proofs.blocks counted.judged };
  }

  accepted_program : IsProgramAnswer m cert_name p (Ok Yes) → HoldAccepted m source_name cert_name
  accepted_program (inl many) = absurd (no_refusal (Ok Yes) _ refl many.1)
  accepted_program (inr (inl answered)) = accepted_certificate answered.1
  accepted_program (inr (inr wanting)) = absurd (no_refusal (Ok Yes) _ refl wanting)

accepted_names : (m : Map) (source_name cert_name : List ℕ) → IsCheckAnswer m source_name cert_name (Ok Yes) → HoldAccepted m source_name cert_name
accepted_names m source_name cert_name (inl refused) = absurd (no_refusal (Ok Yes) refused.refusal refl refused.is)
accepted_names m source_name cert_name (inr (p, holds, answered)) = accepted_program m source_name cert_name p holds answered

-- what a check that answers yes is of
pub accepted_answer : (m : Map) (source_name cert_name : List ℕ) (answer : Result Verdict Refusal) → IsCheckAnswer m source_name cert_name answer → answer ≡ Ok Yes → HoldAccepted m source_name cert_name
accepted_answer m source_name cert_name answer answers is = accepted_names m source_name cert_name (subst (λ (a : Result Verdict Refusal). IsCheckAnswer m source_name cert_name a) is answers)

-- ---- what is accepted is read

-- a name that is held, with no more bytes than the limit allows, is read, but for a fault
read_faults_only : (m : Map) (name : List ℕ) (l : AnyLimit) (bytes : List ℕ) (r : Refusal) → m name ≡ Some bytes → length bytes ≤ number_of l → IsUnread m name l r → IsYesOrFault (Err r)
read_faults_only m name l bytes (Limit other) held within unread =
    let too_much : HoldsTooMuch m name l = unread.1 in
    let same : too_much.0 ≡ bytes = one_value (m name) too_much.0 bytes too_much.1 held in
    let more : number_of l < length bytes = subst (λ (b : List ℕ). number_of l < length b) same too_much.2 in
    absurd (omega (arith, more, within))
read_faults_only m name l bytes (Missing n) held within unread = absurd (let none : IsNone (Some bytes) = subst IsNone held unread.1 in cc none)
read_faults_only m name l bytes (ReadFault n) held within unread = inr (inr (inr tt))
read_faults_only m name l bytes OutOfMemory held within unread = inr (inl refl)
read_faults_only m name l bytes _ held within unread = absurd unread

module _ (source : List ℕ) (items : List Item) (end : Span) (text : IsText source items end) (limits : IsWithinLimits text) (typed : IsWellTyped items end) where
  -- a source that breaks no rule breaks none first
  unbroken : (b : Violation) → BreaksFirst source b → ⊥
  unbroken b x =
      let same = one_text source x.items items x.end end x.text text in
      let there = subst (λ (xs : List Item). Breaks xs x.end (rule b.rule) b.span) same.0 x.first.is_broken in
      typed (rule b.rule) b.span (subst (λ (e : Span). Breaks items e (rule b.rule) b.span) same.1 there)

  none : (fault : SourceFault) → IsFault source fault → ⊥
  none fault = not_both source items end text fault limits

  not_refused : (r : Refusal) → IsSourceRefusal source r → ⊥
  not_refused (BadByte q) x = none (f.BadByte q) x
  not_refused (BadNumber q) x = none (f.BadNumber q) x
  not_refused (OpenComment q) x = none (f.OpenComment q) x
  not_refused (Unexpected q) x = none (f.Unexpected q) x
  not_refused (UnknownForm q) x = none (f.UnknownForm q) x
  not_refused (BreaksRule b) x = unbroken b x
  not_refused (Limit limit.Tokens) x = none (f.TooManyTokens x.0) x.1
  not_refused (Limit limit.Depth) x = none (f.TooDeep x.0) x.1
  not_refused _ x = x

  -- bytes that are accepted are refused for want of memory alone
  memory_only : (r : Refusal) → IsSourceRefusalOrMemory source r → IsYesOrFault (Err r)
  memory_only OutOfMemory x = inr (inl refl)
  memory_only (BadByte q) x = absurd (not_refused (BadByte q) x)
  memory_only (BadNumber q) x = absurd (not_refused (BadNumber q) x)
  memory_only (OpenComment q) x = absurd (not_refused (OpenComment q) x)
  memory_only (Unexpected q) x = absurd (not_refused (Unexpected q) x)
  memory_only (UnknownForm q) x = absurd (not_refused (UnknownForm q) x)
  memory_only (BreaksRule b) x = absurd (not_refused (BreaksRule b) x)
  memory_only (Limit l) x = absurd (not_refused (Limit l) x)
  memory_only _ x = absurd x

-- ---- its certificate too

no_certificate : (cert : List ℕ) (proofs : Proofs) (r : Refusal) → IsCertText cert proofs → IsNoCertificate cert r → IsYesOrFault (Err r)
no_certificate cert proofs (BadCertificate n fault) text refused =
    let read : decoded cert ≡ Ok proofs = text_decoded cert proofs text in
    let both : Ok proofs ≡ Err (cert_fault n fault) = sym read ∙ refused in
    absurd (cc both)
no_certificate cert proofs OutOfMemory text refused = inr (inl refl)
no_certificate cert proofs _ text refused = absurd refused

stopped : (m : Map) (name cert : List ℕ) (proofs : Proofs) (r : Refusal) → m name ≡ Some cert → length cert ≤ number_of limit.CertBytes → IsCertText cert proofs → IsCertificateStop m name r → IsYesOrFault (Err r)
stopped m name cert proofs r held short text (inl unread) = read_faults_only m name limit.CertBytes cert r held short unread
stopped m name cert proofs r held short text (inr (bytes, within, refused)) =
    let same : bytes ≡ cert = one_value (m name) bytes cert within.0 held in
    no_certificate cert proofs r text (subst (λ (b : List ℕ). IsNoCertificate b r) same refused)

one_certificate : (cert : List ℕ) (a b : Proofs) → IsCertText cert a → IsCertText cert b → a ≡ b
one_certificate cert a b first second =
    let read : decoded cert ≡ Ok a = text_decoded cert a first in
    let again : decoded cert ≡ Ok b = text_decoded cert b second in
    let both : Ok a ≡ Ok b = sym read ∙ again in
    cc both

-- ---- and its blocks

none_of_three : {A B C : Type 0} → A ⊎ B ⊎ C → (A → ⊥) → (B → ⊥) → (C → ⊥) → ⊥
none_of_three (inl a) first second third = first a
none_of_three (inr (inl b)) first second third = second b
none_of_three (inr (inr c)) first second third = third c

-- an answer of the judge that is none of these
no_other : (p : Program) (lemmas blocks : List Derivation) (result : Result Judgment JudgeFault) → (result ≡ Ok v.Yes → ⊥) → (result ≡ Err j.Terms → ⊥) → (result ≡ Err j.OutOfMemory → ⊥) → LemmasFit (language_of p) lemmas → IsVerified p lemmas blocks → IsJudged p lemmas blocks result → ⊥
no_other p lemmas blocks result not_yes not_terms not_memory fits verified judged =
    none_of_three (verified_gets_yes p lemmas blocks result fits verified judged) not_yes not_terms not_memory

judged_yes : (p : Program) (lemmas blocks : List Derivation) (answer : Result Verdict Refusal) → LemmasFit (language_of p) lemmas → IsVerified p lemmas blocks → AreJudged p lemmas blocks answer → IsYesOrFault answer
judged_yes p lemmas blocks (Ok Yes) fits verified judged = inl refl
judged_yes p lemmas blocks (Ok (No failing)) fits verified judged = absurd (no_other p lemmas blocks (Ok (v.No failing.label)) (λ is. cc is) (λ is. cc is) (λ is. cc is) fits verified judged.1)
judged_yes p lemmas blocks (Err (Wide w)) fits verified judged = absurd (no_other p lemmas blocks (Err (j.Wide w)) (λ is. cc is) (λ is. cc is) (λ is. cc is) fits verified judged)
judged_yes p lemmas blocks (Err (Limit limit.Terms)) fits verified judged = inr (inr (inl refl))
judged_yes p lemmas blocks (Err OutOfMemory) fits verified judged = inr (inl refl)
judged_yes p lemmas blocks (Err _) fits verified judged = absurd judged

module _ (m : Map) (cert_name source cert : List ℕ) (accepted : IsAcceptable source cert) (held : m cert_name ≡ Some cert) (p : Program) (reads : IsProgramOf source p) where
  -- a certificate that this name holds is the one that is accepted
  same_proofs : (proofs : Proofs) (bytes : List ℕ) → m cert_name ≡ Some bytes → IsCertText bytes proofs → accepted.proofs ≡ proofs
  same_proofs proofs bytes there text =
      let same : bytes ≡ cert = one_value (m cert_name) bytes cert there held in
      one_certificate cert accepted.proofs proofs accepted.cert_text (subst (λ (b : List ℕ). IsCertText b proofs) same text)

  verified_by : (proofs : Proofs) → accepted.proofs ≡ proofs → IsVerified p proofs.lemmas proofs.blocks
  verified_by proofs same = subst (λ (q : Proofs). IsVerified p q.lemmas q.blocks) same (accepted.verified p reads)

  certificate_yes : (answer : Result Verdict Refusal) → IsCertificateAnswer m cert_name p answer → IsYesOrFault answer
  certificate_yes answer (inl refused) =
      subst IsYesOrFault (sym refused.is) (stopped m cert_name cert accepted.proofs refused.refusal held accepted.cert_short accepted.cert_text refused.why)
  certificate_yes answer (inr (proofs, holds, inl miscounted)) =
      let verified : IsVerified p proofs.lemmas proofs.blocks = verified_by proofs (same_proofs proofs holds.bytes holds.held.0 holds.text) in
      absurd (miscounted.differ (one_block_each (language_of p) proofs.lemmas (conditions p) proofs.blocks verified))
  certificate_yes answer (inr (proofs, holds, inr counted)) =
      let same : accepted.proofs ≡ proofs = same_proofs proofs holds.bytes holds.held.0 holds.text in
      judged_yes p proofs.lemmas proofs.blocks answer (subst (λ (q : Proofs). LemmasFit (language_of p) q.lemmas) same (accepted.fits p reads)) (verified_by proofs same) counted.judged

  program_yes : (answer : Result Verdict Refusal) → IsProgramAnswer m cert_name p answer → IsYesOrFault answer
  program_yes answer (inl many) =
      let more : number_of limit.Conditions < length (conditions p) = many.0 in
      let few : length (conditions p) ≤ number_of limit.Conditions = accepted.few p reads in
      absurd (omega (arith, more, few))
  program_yes answer (inr (inl answered)) = certificate_yes answer answered.1
  program_yes answer (inr (inr wanting)) = inr (inl wanting)

-- ---- the whole check

module _ (m : Map) (source_name cert_name source cert : List ℕ) (accepted : IsAcceptable source cert) (source_held : m source_name ≡ Some source) (cert_held : m cert_name ≡ Some cert) where
  source_yes : (r : Refusal) → IsSourceStop m source_name r → IsYesOrFault (Err r)
  source_yes r (inl unread) = read_faults_only m source_name limit.SourceBytes source r source_held accepted.source_short unread
  source_yes r (inr (bytes, within, refused)) =
      let same : bytes ≡ source = one_value (m source_name) bytes source within.0 source_held in
      memory_only source accepted.items accepted.end accepted.text accepted.within accepted.typed r (subst (λ (b : List ℕ). IsSourceRefusalOrMemory b r) same refused)

  -- where a source and a certificate are accepted, the answer is yes, but for memory, terms and reads
  pub accepted_yes : (answer : Result Verdict Refusal) → IsCheckAnswer m source_name cert_name answer → IsYesOrFault answer
  accepted_yes answer (inl refused) = subst IsYesOrFault (sym refused.is) (source_yes refused.refusal refused.why)
  accepted_yes answer (inr (p, holds, answered)) =
      let same : holds.source ≡ source = one_value (m source_name) holds.source source holds.held.0 source_held in
      program_yes m cert_name source cert accepted cert_held p (subst (λ (s : List ℕ). IsProgramOf s p) same holds.program) answer answered

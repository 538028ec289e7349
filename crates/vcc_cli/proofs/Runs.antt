-- From what a check of two names comes to, to what its words come to.
use Rattle.std.specs.Prelude.{codes}
use Rattle.std.proofs.Common.{◌≡◌, ℕ, ◌≤◌, List, [], ◌∷◌, sym, ◌∙◌, subst, Some}
use Rattle.vcc_base.specs.Maps.{Map}
use Rattle.vcc_words.specs.Words.{IsCheck}
use Rattle.vcc_io.specs.Lines.{Written}
use Rattle.vcc_io.specs.Faults.{ReadCounts}
use Rattle.vcc_io.proofs.Statuses.{is_yes}
use Rattle.vcc_cli.specs.Accepts.{HoldsSafe, IsAcceptable, IsAccepted, IsCheckOf, SourceIsSafe}
use Rattle.vcc_cli.specs.Ends.{GetsYes}
use Rattle.vcc_cli.specs.Checks.{IsChecked}
use Rattle.vcc_cli.proofs.Accepting.{accepted_answer, accepted_yes}
use Rattle.vcc_cli.proofs.Verdicts.{gets_yes}

module _ (m : Map) (words : List (List ℕ)) (source_name cert_name : List ℕ) (reads : ReadCounts) (w : Written) (status : ℕ) (command : IsCheck words source_name cert_name) (checked : IsChecked m source_name cert_name reads w status) where
  -- a check that ends with 0 accepts
  pub accepted_run : status ≡ 0 → IsAccepted m words
  accepted_run zeroed =
      let names = accepted_answer m source_name cert_name checked.answer checked.answers (is_yes checked.answer w status checked.reported zeroed) in
      record {
        source = names.source;
        cert = names.cert;
        check = record { source_name = source_name; cert_name = cert_name; command = command; source_held = names.source_held; cert_held = names.cert_held };
        accepts = names.accepts;
      }

  -- and its source is safe
  pub safe_run : status ≡ 0 → HoldsSafe m source_name → SourceIsSafe m words
  safe_run zeroed safe =
      let names = accepted_answer m source_name cert_name checked.answer checked.answers (is_yes checked.answer w status checked.reported zeroed) in
      record {
        source = safe.source;
        cert = names.cert;
        check = record { source_name = source_name; cert_name = cert_name; command = command; source_held = safe.held; cert_held = names.cert_held };
        is_safe = safe.is_safe;
      }

  -- the words name one source and one certificate
  one_pair : (a b : List ℕ) → IsCheck words a b → (a ≡ source_name) × (b ≡ cert_name)
  one_pair a b other =
      let both : codes "check" ∷ a ∷ b ∷ [] ≡ codes "check" ∷ source_name ∷ cert_name ∷ [] = sym other.are ∙ command.are in
      (cc both, cc both)

  -- Acceptance gets yes, where no read or write failed; or memory was wanted, or too many terms were needed.
  pub complete_run : (source cert : List ℕ) → IsAcceptable source cert → IsCheckOf m words source cert → reads.reads_after ≤ reads.reads_before → w.faults_after ≤ w.faults_before → GetsYes w status
  complete_run source cert accepted names no_read no_write =
      let same = one_pair names.source_name names.cert_name names.command in
      let source_held = subst (λ (name : List ℕ). m name ≡ Some source) same.0 names.source_held in
      let cert_held = subst (λ (name : List ℕ). m name ≡ Some cert) same.1 names.cert_held in
      gets_yes checked.answer reads w status (accepted_yes m source_name cert_name source cert accepted source_held cert_held checked.answer checked.answers) checked.fault no_read no_write checked.reported

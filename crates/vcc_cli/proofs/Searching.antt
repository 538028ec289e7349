-- What a verify comes to.
use Rattle.std.proofs.Common.{◌≡◌, inl, inr, ℕ, ◌<◌, ◌≤◌, Bool, true, false, List, Option, Some, Result, Ok, Err, IsErrOf, refl, ◌∙◌, subst, arith}
use Rattle.method.specs.declared.program.Program.{Program}
use Rattle.vcc_base.specs.Maps.{Map}
use Rattle.vcc_base.specs.declared.limit.Limit.TheVariants as limit
use Rattle.vcc_base.specs.declared.store.StoreFault.TheVariants as store
use Rattle.vcc_base.specs.declared.sink.SinkFault.TheVariants as sink
use Rattle.vcc_verify.specs.declared.fault.VerifyFault.{VerifyFault}
use Rattle.vcc_verify.specs.declared.fault.VerifyFault.TheVariants as verify
use Rattle.vcc_verify.specs.Outcomes.{Verifies}
use Rattle.vcc_verify.specs.Texts.{certificate_of, certificate_text}
use Rattle.vcc_io.specs.declared.refusal.Refusal.{Refusal}
use Rattle.vcc_io.specs.declared.refusal.Refusal.TheVariants.{Limit, OutOfMemory, ReadFault}
use Rattle.vcc_io.specs.Source.{IsManyOrMemory}
use Rattle.vcc_io.specs.Faults.{IsReadFault}
use Rattle.vcc_io.specs.Held.{HoldsProgram}
use Rattle.vcc_io.specs.Lines.{IsReportedLine, Written, write_fault_line, wrote}
use Rattle.vcc_io.proofs.Statuses.{no_zero, no_zero_line}
use Rattle.vcc_cli.specs.Accepts.{HoldsSafe, LeavesAccepted}
use Rattle.vcc_cli.specs.Searches.{IsEnding, IsSearched, stored}

-- conditions are counted by no read
pub no_read_fault : (p : Program) (r : Refusal) → IsManyOrMemory p r → IsReadFault {X = Program} (Err r) → ⊥
no_read_fault p (ReadFault name) many is = many
no_read_fault p _ many is = is

-- ---- faults from the start on

module _ (a b c : ℕ) (middle new : Option (List ℕ)) (status : ℕ) (kept : a ≤ b) where
  -- a line that is reported behind a search, with the faults from the start on
  line_since : (text : List ℕ) (own : ℕ) → IsReportedLine text own (wrote b c middle new) status → IsReportedLine text own (wrote a c middle new) status
  line_since text own (inl whole) = inl whole
  line_since text own (inr (inl failed)) = let rose : b < c = failed.1 in inr (inl (failed.0, omega (arith, kept, rose), failed.2))
  line_since text own (inr (inr wanting)) = inr (inr wanting)

  ending_since : (cert : List ℕ) (result : Result Bool VerifyFault) → IsEnding cert result (wrote b c middle new) status → IsEnding cert result (wrote a c middle new) status
  ending_since cert (Ok true) ending = ending
  ending_since cert (Ok false) ending = ending
  ending_since cert (Err verify.CertBytes) ending = line_since _ _ ending
  ending_since cert (Err (verify.Store store.OutOfMemory)) ending = line_since _ _ ending
  ending_since cert (Err (verify.Store store.Failed)) ending = line_since _ _ ending
  ending_since cert (Err (verify.Store store.Missing)) ending = line_since _ _ ending
  ending_since cert (Err (verify.Sink sink.Failed)) ending = ending
  ending_since cert (Err (verify.Sink sink.OutOfMemory)) ending = ending
  ending_since cert (Err verify.OutOfMemory) ending = line_since _ _ ending

-- ---- the search

module _ (m : Map) (source_name cert_name : List ℕ) (p : Program) (holds : HoldsProgram m source_name p) where
  -- a search over the program, and what is reported behind it
  pub searched : (told held now : Option Map) (first then last : ℕ) (old middle new : Option (List ℕ)) (a b c : ℕ) (result : Result Bool VerifyFault) (status : ℕ) → held ≡ told → then ≡ first → a ≤ b → b ≤ c → Verifies p cert_name held now old middle result → (IsErrOf result (verify.Store store.Failed) → then < last) → (IsErrOf result (verify.Sink sink.Failed) → a < b) → IsEnding cert_name result (wrote b c middle new) status → IsSearched m source_name cert_name (stored first last told now) (wrote a c old new) status
  searched told held now first then last old middle new a b c result status same stays rises onward verifies store_fault sink_fault ending = record {
    program = p;
    source = holds;
    result = result;
    middle = middle;
    verifies = subst (λ (o : Option Map). Verifies p cert_name o now old middle result) same verifies;
    store_fault = λ is. let rose = store_fault is in omega (arith, rose, stays);
    sink_fault = λ is. let rose = sink_fault is in omega (arith, rose, onward);
    ending = ending_since a b c middle new status rises cert_name result ending;
  }

  -- ---- yes

  module _ (differ : source_name ≡ cert_name → ⊥) (safe : HoldsSafe m source_name) where
    left : (now : Option Map) (old middle : Option (List ℕ)) → Verifies p cert_name (Some m) now old middle (Ok true) → LeavesAccepted now source_name cert_name
    left now old middle verifies =
        let (n, told, stands) = verifies.leaves.0 in
        let kept : n source_name ≡ m source_name = stands.others source_name differ in
        record {
          holds = n;
          told = told;
          accepted = record {
            source = holds.source;
            cert = certificate_text verifies.findings;
            source_held = kept ∙ holds.held.0;
            cert_held = stands.held;
            accepts = record { program = p; proofs = certificate_of verifies.findings; reads = holds.program; text = verifies.text; verified = verifies.answers.1.0 refl };
          };
          is_safe = record { source = safe.source; held = kept ∙ safe.held; is_safe = safe.is_safe };
        }

    -- what a search that answers yes leaves
    pub leaves_accepted : (told now : Option Map) (old middle : Option (List ℕ)) (result : Result Bool VerifyFault) → told ≡ Some m → result ≡ Ok true → Verifies p cert_name told now old middle result → LeavesAccepted now source_name cert_name
    leaves_accepted told now old middle result given is verifies =
        left now old middle (subst (λ (r : Result Bool VerifyFault). Verifies p cert_name (Some m) now old middle r) is (subst (λ (o : Option Map). Verifies p cert_name o now old middle result) given verifies))

-- ---- status 0

-- a search that ends with status 0 answers yes
pub yes_only : (cert : List ℕ) (result : Result Bool VerifyFault) (w : Written) (status : ℕ) → IsEnding cert result w status → status ≡ 0 → result ≡ Ok true
yes_only cert (Ok true) w status ending zeroed = refl
yes_only cert (Ok false) w status ending zeroed = let one : status ≡ 1 = ending.0 in absurd (omega (arith, one, zeroed))
yes_only cert (Err verify.CertBytes) w status ending zeroed = absurd (no_zero (Limit limit.CertBytes) w status ending zeroed)
yes_only cert (Err (verify.Store store.OutOfMemory)) w status ending zeroed = absurd (no_zero OutOfMemory w status ending zeroed)
yes_only cert (Err (verify.Store store.Failed)) w status ending zeroed = absurd (no_zero_line (write_fault_line cert) w status ending zeroed)
yes_only cert (Err (verify.Store store.Missing)) w status ending zeroed = absurd (no_zero_line (write_fault_line cert) w status ending zeroed)
yes_only cert (Err (verify.Sink sink.Failed)) w status ending zeroed = let seven : status ≡ 7 = ending.0 in absurd (omega (arith, seven, zeroed))
yes_only cert (Err (verify.Sink sink.OutOfMemory)) w status ending zeroed = let eight : status ≡ 8 = ending.0 in absurd (omega (arith, eight, zeroed))
yes_only cert (Err verify.OutOfMemory) w status ending zeroed = absurd (no_zero OutOfMemory w status ending zeroed)

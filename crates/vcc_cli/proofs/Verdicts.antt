-- Where all is accepted, and how that is answered.
use Rattle.std.proofs.Common.{◌≡◌, ◌⊎◌, inl, inr, ℕ, ◌<◌, ◌≤◌, Result, Ok, Err, ap, ◌∙◌, subst, arith}
use Rattle.vcc_base.specs.Maps.{NowWritten}
use Rattle.vcc_base.specs.declared.limit.Limit.TheVariants as limit
use Rattle.vcc_io.specs.declared.refusal.Refusal.{Refusal}
use Rattle.vcc_io.specs.declared.refusal.Refusal.TheVariants.{Limit, OutOfMemory}
use Rattle.vcc_io.specs.declared.verdict.Verdict.{Verdict}
use Rattle.vcc_io.specs.declared.verdict.Verdict.TheVariants.{Yes}
use Rattle.vcc_io.specs.Faults.{IsReadFault, ReadCounts}
use Rattle.vcc_io.specs.Lines.{IsReported, Written, line_of, status_of}
use Rattle.vcc_cli.specs.Ends.{GetsYes}

-- yes, out of memory, too many terms, or a read fault
abbrev pub IsYesOrFault : Result Verdict Refusal → Type 0
IsYesOrFault answer = (answer ≡ Ok Yes) ⊎ (answer ≡ Err OutOfMemory) ⊎ (answer ≡ Err (Limit limit.Terms)) ⊎ IsReadFault answer

-- where no read and no write failed, that is reported by the status of yes, or why not
pub gets_yes : (answer : Result Verdict Refusal) (reads : ReadCounts) (w : Written) (status : ℕ) → IsYesOrFault answer → (IsReadFault answer → reads.reads_before < reads.reads_after) → reads.reads_after ≤ reads.reads_before → w.faults_after ≤ w.faults_before → IsReported answer w status → GetsYes w status
gets_yes answer reads w status which fault no_read no_write (inr (inl failed)) = let rose : w.faults_before < w.faults_after = failed.1 in absurd (omega (arith, rose, no_write))
gets_yes answer reads w status which fault no_read no_write (inr (inr eight)) = inr (inl eight.0)
gets_yes answer reads w status (inl yes_is) fault no_read no_write (inl reported) = inl (reported.0 ∙ ap status_of yes_is)
gets_yes answer reads w status (inr (inl wanting)) fault no_read no_write (inl reported) = inr (inl (reported.0 ∙ ap status_of wanting))
gets_yes answer reads w status (inr (inr (inl many))) fault no_read no_write (inl reported) =
    inr (inr (reported.0 ∙ ap status_of many, subst (λ (a : Result Verdict Refusal). NowWritten w.before w.after (line_of a)) many reported.1))
gets_yes answer reads w status (inr (inr (inr faulty))) fault no_read no_write (inl reported) = let rose = fault faulty in absurd (omega (arith, rose, no_read))

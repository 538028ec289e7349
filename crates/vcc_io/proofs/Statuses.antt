-- Which answers and lines end with which status.
use Rattle.std.proofs.Common.{◌≡◌, inl, inr, ℕ, ◌<◌, List, Result, Ok, Err, refl, sym, ◌∙◌, arith}
use Rattle.vcc_base.specs.Maps.{NowWritten}
use Rattle.vcc_io.specs.declared.refusal.Refusal.{Refusal}
use Rattle.vcc_io.specs.declared.refusal.Refusal.TheVariants.{Usage, BadByte, BadNumber, OpenComment, Unexpected, UnknownForm, BreaksRule, BadCertificate, Count, BadSchedule, BadArgs, Wide, Exhausted, Limit, Missing, ReadFault, OutOfMemory}
use Rattle.vcc_io.specs.declared.verdict.Verdict.{Verdict}
use Rattle.vcc_io.specs.declared.verdict.Verdict.TheVariants.{Yes, No}
use Rattle.vcc_io.specs.Lines.{IsReported, IsReportedLine, Written, line_of, status_of}

-- ---- status 0

refused : (r : Refusal) → 0 ≡ status_of (Err r) → ⊥
refused Usage e = omega (arith, e)
refused (BadByte place) e = omega (arith, e)
refused (BadNumber place) e = omega (arith, e)
refused (OpenComment place) e = omega (arith, e)
refused (Unexpected place) e = omega (arith, e)
refused (UnknownForm place) e = omega (arith, e)
refused (BreaksRule broken) e = omega (arith, e)
refused (BadCertificate n fault) e = omega (arith, e)
refused (Count counts) e = omega (arith, e)
refused (BadSchedule n fault) e = omega (arith, e)
refused BadArgs e = omega (arith, e)
refused (Wide w) e = omega (arith, e)
refused Exhausted e = omega (arith, e)
refused (Limit l) e = omega (arith, e)
refused (Missing name) e = omega (arith, e)
refused (ReadFault name) e = omega (arith, e)
refused OutOfMemory e = omega (arith, e)

yes_has_zero : (answer : Result Verdict Refusal) → 0 ≡ status_of answer → answer ≡ Ok Yes
yes_has_zero (Ok Yes) e = refl
yes_has_zero (Ok (No failing)) e = absurd (omega (arith, e))
yes_has_zero (Err r) e = absurd (refused r e)

-- what is reported with status 0 is a yes
pub is_yes : (answer : Result Verdict Refusal) (w : Written) (status : ℕ) → IsReported answer w status → status ≡ 0 → answer ≡ Ok Yes
is_yes answer w status (inl reported) zeroed = yes_has_zero answer (sym zeroed ∙ reported.0)
is_yes answer w status (inr (inl failed)) zeroed = let seven : status ≡ 7 = failed.0 in absurd (omega (arith, seven, zeroed))
is_yes answer w status (inr (inr wanting)) zeroed = let eight : status ≡ 8 = wanting.0 in absurd (omega (arith, eight, zeroed))

-- a yes is no refusal
pub no_refusal : (answer : Result Verdict Refusal) (r : Refusal) → answer ≡ Ok Yes → answer ≡ Err r → ⊥
no_refusal answer r is e = let both : Ok Yes ≡ Err r = sym is ∙ e in cc both

-- what is reported with status 0 is no refusal
pub no_zero : (r : Refusal) (w : Written) (status : ℕ) → IsReported (Err r) w status → status ≡ 0 → ⊥
no_zero r w status reported zeroed = no_refusal (Err r) r (is_yes (Err r) w status reported zeroed) refl

-- a write fault has another status
pub no_zero_line : (text : List ℕ) (w : Written) (status : ℕ) → IsReportedLine text 7 w status → status ≡ 0 → ⊥
no_zero_line text w status (inl whole) zeroed = let seven : status ≡ 7 = whole.0 in omega (arith, seven, zeroed)
no_zero_line text w status (inr (inl failed)) zeroed = let seven : status ≡ 7 = failed.0 in omega (arith, seven, zeroed)
no_zero_line text w status (inr (inr wanting)) zeroed = let eight : status ≡ 8 = wanting.0 in omega (arith, eight, zeroed)

-- ---- a status below 2

-- the status of a refusal is past that of a no
past_no : (r : Refusal) → 1 < status_of (Err r)
past_no Usage = omega arith
past_no (BadByte place) = omega arith
past_no (BadNumber place) = omega arith
past_no (OpenComment place) = omega arith
past_no (Unexpected place) = omega arith
past_no (UnknownForm place) = omega arith
past_no (BreaksRule broken) = omega arith
past_no (BadCertificate n fault) = omega arith
past_no (Count counts) = omega arith
past_no (BadSchedule n fault) = omega arith
past_no BadArgs = omega arith
past_no (Wide w) = omega arith
past_no Exhausted = omega arith
past_no (Limit l) = omega arith
past_no (Missing name) = omega arith
past_no (ReadFault name) = omega arith
past_no OutOfMemory = omega arith

apart : (a b : ℕ) → a ≡ b → 1 < b → a < 2 → ⊥
apart a b e big small = omega (arith, e, big, small)

-- with a status below 2 the line is whole
pub whole_line : (text : List ℕ) (own : ℕ) (w : Written) (status : ℕ) → status < 2 → IsReportedLine text own w status → (status ≡ own) × NowWritten w.before w.after text
whole_line text own w status small (inl whole) = whole
whole_line text own w status small (inr (inl failed)) = absurd (apart status 7 failed.0 (omega arith) small)
whole_line text own w status small (inr (inr wanting)) = absurd (apart status 8 wanting.0 (omega arith) small)

-- and it is no refusal's
pub refusal_past : (r : Refusal) (w : Written) (status : ℕ) → status < 2 → IsReported (Err r) w status → ⊥
refusal_past r w status small reported = apart status (status_of (Err r)) (whole_line (line_of (Err r)) (status_of (Err r)) w status small reported).0 (past_no r) small

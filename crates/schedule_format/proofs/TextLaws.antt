-- The laws of the texts of schedules.
use Rattle.std.proofs.Common.{◌≡◌, ℕ, ◌+◌, List, [], ◌++◌, length, Result, Ok, Err, arith, refl, sym, ap, ◌∙◌}
use Rattle.std.proofs.lemmas.List.{append-nil}
use Rattle.std.proofs.lemmas.List.Elements.{recursion_from_All}
use Rattle.std.specs.Prelude.{IfOk}
use Rattle.schedule_format.specs.declared.fault.ScheduleFault.{ScheduleFault}
use Rattle.schedule_format.specs.declared.fault.ScheduleFault.TheVariants.{BadLine, BadNumber, CutShort, Trailing, CountOver, OutOfMemory}
use Rattle.schedule_format.specs.Schedules.{Schedule}
use Rattle.schedule_format.specs.Text.{Fits, IsEvent, IsScheduleText, IsOrMemory}
use Rattle.schedule_format.specs.Lines.{lines_of}
use Rattle.schedule_format.specs.Reading.{◌>>=◌, nothing_at, schedule_of, Gives}
use Rattle.schedule_format.specs.Laws.{TextLaw, FrontLaw}
use Rattle.schedule_format.proofs.Pieces.{nothing_left, something_left}
use Rattle.schedule_format.proofs.Written.{text_again}
use Rattle.schedule_format.proofs.Taken.{ok_is, text_takes}

with_more : (text more : List ℕ) (s : Schedule) → IsScheduleText text s → schedule_of (text ++ more) ≡ (nothing_at (5 + length s.events) (lines_of more) >>= λ nothing. Ok s)
with_more text more s is = ap (λ (t : List ℕ). schedule_of (t ++ more)) is.spelled ∙ text_again s more (recursion_from_All Fits s.arguments is.arguments) (recursion_from_All IsEvent s.events is.events) is.few

pub again : (text : List ℕ) (s : Schedule) → IsScheduleText text s → schedule_of text ≡ Ok s
again text s is = ap schedule_of (sym (append-nil text)) ∙ with_more text [] s is ∙ rw (nothing_left (5 + length s.events) [] refl) refl

pub text_law : TextLaw
text_law text s = (text_takes text s, again text s)

pub front_law : FrontLaw
front_law text more s is some = with_more text more s is ∙ rw (something_left (5 + length s.events) more (λ e. omega arith)) refl

-- ---- what a reader returned

pub is_read : (text : List ℕ) (r : Result Schedule ScheduleFault) → Gives (λ s. s) r (schedule_of text) → IfOk r (λ s. IsScheduleText text s)
is_read text (Ok s) given = text_takes text s given
is_read text (Err e) given = tt

pub is_only : (text : List ℕ) (r : Result Schedule ScheduleFault) → Gives (λ s. s) r (schedule_of text) → (s : Schedule) → IsScheduleText text s → IsOrMemory s r
is_only text (Ok t) given s is = ok_is s t (sym (again text s is) ∙ given)
is_only text (Err OutOfMemory) given s is = tt
is_only text (Err (BadLine n)) given s is = absurd (let e = sym (again text s is) ∙ given in cc)
is_only text (Err (BadNumber n)) given s is = absurd (let e = sym (again text s is) ∙ given in cc)
is_only text (Err (CutShort n)) given s is = absurd (let e = sym (again text s is) ∙ given in cc)
is_only text (Err (Trailing n)) given s is = absurd (let e = sym (again text s is) ∙ given in cc)
is_only text (Err (CountOver n)) given s is = absurd (let e = sym (again text s is) ∙ given in cc)

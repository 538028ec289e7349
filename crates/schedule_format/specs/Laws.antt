-- What holds of the texts of schedules, as statements.
use Rattle.std.specs.Prelude.{◌≡◌, ◌↔◌, ℕ, ◌+◌, ◌<◌, List, ◌++◌, length, Ok, Err}
use Rattle.schedule_format.specs.declared.fault.ScheduleFault.TheVariants.{Trailing}
use Rattle.schedule_format.specs.Schedules.{Schedule}
use Rattle.schedule_format.specs.Text.{IsScheduleText}
use Rattle.schedule_format.specs.Reading.{schedule_of}

-- a text is read as a schedule exactly where it is what is written of it
abbrev pub TextLaw : Type 0
TextLaw = (text : List ℕ) (s : Schedule) → (schedule_of text ≡ Ok s) ↔ IsScheduleText text s

-- Anything behind a schedule's text is Trailing, so no such text is a proper front of another.
abbrev pub FrontLaw : Type 0
FrontLaw = (text more : List ℕ) (s : Schedule) → IsScheduleText text s → 0 < length more → schedule_of (text ++ more) ≡ Err (Trailing (5 + length s.events))

-- What is written of a schedule. Own: a line for each part, words divided by one space, each line ended by LF.
use Rattle.std.specs.Prelude.{◌≡◌, ℕ, ◌<◌, ◌≤◌, ◌^◌, List, ◌∷◌, ◌++◌, length, All, codes, decimal, FitsSigned, IsTrue, Result, Ok, Err}
use Rattle.std.specs.Fmt.{signed_decimal}
use Rattle.std.specs.List.{flat_map}
use Rattle.std.specs.Int.{w128}
use Rattle.object_types.specs.declared.references.Ref.{Ref}
use Rattle.object_types.specs.declared.values.Value.{Value}
use Rattle.object_types.specs.declared.values.Value.TheVariants.{Int, Ref as Refers}
use Rattle.object_types.specs.References.{is_reference}
use Rattle.method.specs.Machine.{Event}
use Rattle.schedule_format.specs.declared.fault.ScheduleFault.{ScheduleFault}
use Rattle.schedule_format.specs.declared.fault.ScheduleFault.TheVariants.{OutOfMemory}
use Rattle.schedule_format.specs.Schedules.{Schedule}

-- TYPE.SERIAL
abbrev pub reference_text : Ref → List ℕ
reference_text r = decimal r.ty ++ (codes "." ++ decimal r.serial)

abbrev pub value_text : Value → List ℕ
value_text (Int z) = signed_decimal z
value_text (Refers r) = reference_text r

-- a space before each value
abbrev pub values_text : List Value → List ℕ
values_text = flat_map (λ v. 32 ∷ value_text v)

-- the line `s THREAD VALUES`
abbrev pub event_text : Event → List ℕ
event_text e = codes "s " ++ (decimal e.thread ++ (values_text e.choices ++ codes "\n"))

abbrev pub text_of : Schedule → List ℕ
text_of s = codes "vcc-schedule 1\nargs" ++ (values_text s.arguments ++ (codes "\nevents " ++ (decimal (length s.events) ++ (codes "\n" ++ (flat_map event_text s.events ++ codes "end\n")))))

-- numbers end at 128 bits signed; types and serials at 32 bits, and of type 0 there is NULL alone
abbrev pub Fits : Value → Type 0
Fits (Int z) = FitsSigned w128 z
Fits (Refers r) = (r.ty < 2 ^ 32) × (r.serial < 2 ^ 32) × IsTrue (is_reference r)

pub record IsEvent (e : Event) : Type 0 where
  pub thread : e.thread < 2 ^ 32
  pub choices : All Fits e.choices

-- The bytes are the text of the schedule, which has at most 100,000 events.
pub record IsScheduleText (bytes : List ℕ) (s : Schedule) : Type 0 where
  pub spelled : bytes ≡ text_of s
  pub arguments : All Fits s.arguments
  pub events : All IsEvent s.events
  pub few : length s.events ≤ 100000

-- this schedule, unless memory runs out; and no refusal
abbrev pub IsOrMemory : Schedule → Result Schedule ScheduleFault → Type 0
IsOrMemory s (Ok t) = s ≡ t
IsOrMemory s (Err OutOfMemory) = Unit {0}
IsOrMemory s (Err fault) = ⊥

-- Texts with what they are read as, worked by hand: numbers at their bounds, and each fault with its line.
use Rattle.std.specs.Prelude.{◌≡◌, ℕ, pos, negsuc, List, [], ◌∷◌, ◌++◌, map, codes, Ok, Err}
use Rattle.std.proofs.Math.Path.{refl}
use Rattle.decimal_text.specs.Reading.{digits_at, natural_at, number_at}
use Rattle.object_types.specs.declared.values.Value.TheVariants.{Int, Ref as Refers}
use Rattle.object_types.specs.References.{ref}
use Rattle.schedule_format.specs.declared.fault.ScheduleFault.{ScheduleFault}
use Rattle.schedule_format.specs.declared.fault.ScheduleFault.TheVariants.{BadLine, BadNumber, CutShort, Trailing, CountOver}
use Rattle.schedule_format.specs.Schedules.{Schedule}
use Rattle.schedule_format.specs.Lines.{pieces}
use Rattle.schedule_format.specs.Reading.{Reads, value_of, values_in, arguments, count, event, events_at, schedule_of}

-- a text and its first fault
abbrev Row : Type 0
Row = List ℕ × ScheduleFault

abbrev found : List Row → List (Reads Schedule)
found = map (λ r. schedule_of r.0)

abbrev faults : List Row → List (Reads Schedule)
faults = map (λ r. Err r.1)

-- a text without its first line, its first two, its first three
abbrev with_title : List ℕ → List ℕ
with_title text = codes "vcc-schedule 1\n" ++ text

abbrev with_args : List ℕ → List ℕ
with_args text = with_title (codes "args\n" ++ text)

abbrev with_one : List ℕ → List ℕ
with_one text = with_args (codes "events 1\n" ++ text)

abbrev no_title : List Row
no_title =
    (codes "vcc-schedule 2\n", BadLine 1) ∷ (codes "vcc-schedule 01\n", BadLine 1) ∷ (codes "vcc-schedule 1 \n", BadLine 1) ∷ (codes " vcc-schedule 1\n", BadLine 1)
    ∷ (codes "vcc-schedule  1\n", BadLine 1) ∷ (codes "\n", BadLine 1) ∷ (codes "vcc-cert 1\nargs", BadLine 1) ∷ []

titles : found no_title ≡ faults no_title
unfolding schedule_of pieces
titles = refl

abbrev no_arguments : List Row
no_arguments =
    (with_title (codes " args\n"), BadLine 2) ∷ (with_title (codes "args5\n"), BadLine 2) ∷ (with_title (codes "\n"), BadLine 2) ∷ (with_title (codes "events 0\n"), BadLine 2)
    ∷ (with_title (codes "args  5\n"), BadNumber 2) ∷ (with_title (codes "args 5 \n"), BadNumber 2) ∷ (with_title (codes "args \n"), BadNumber 2) ∷ (with_title (codes "args 05\n"), BadNumber 2)
    ∷ (with_title (codes "args -0\n"), BadNumber 2) ∷ (with_title (codes "args +5\n"), BadNumber 2) ∷ (with_title (codes "args -05\n"), BadNumber 2) ∷ (with_title (codes "args 5 x\n"), BadNumber 2)
    ∷ (with_title (codes "args 170141183460469231731687303715884105728\n"), BadNumber 2) ∷ (with_title (codes "args -170141183460469231731687303715884105729\n"), BadNumber 2)
    ∷ (with_title (codes "args 0.1\n"), BadNumber 2) ∷ (with_title (codes "args 4294967296.1\n"), BadNumber 2) ∷ (with_title (codes "args 3.4294967296\n"), BadNumber 2) ∷ (with_title (codes "args -3.1\n"), BadNumber 2)
    ∷ (with_title (codes "args 3.-1\n"), BadNumber 2) ∷ (with_title (codes "args 3.\n"), BadNumber 2) ∷ (with_title (codes "args .1\n"), BadNumber 2) ∷ (with_title (codes "args 3.1.\n"), BadNumber 2) ∷ (with_title (codes "args 3.01\n"), BadNumber 2) ∷ []

arguments_rows : found no_arguments ≡ faults no_arguments
unfolding schedule_of pieces arguments values_in value_of number_at natural_at digits_at
arguments_rows = refl

abbrev no_count : List Row
no_count =
    (with_args (codes "events\n"), BadLine 3) ∷ (with_args (codes "events 0 \n"), BadLine 3) ∷ (with_args (codes "events 0 0\n"), BadLine 3) ∷ (with_args (codes "end\n"), BadLine 3)
    ∷ (with_args (codes "events \n"), BadNumber 3) ∷ (with_args (codes "events  0\n"), BadNumber 3) ∷ (with_args (codes "events -1\n"), BadNumber 3) ∷ (with_args (codes "events 007\n"), BadNumber 3)
    ∷ (with_args (codes "events x y\n"), BadNumber 3) ∷ (with_args (codes "events 3.1\n"), BadNumber 3) ∷ (with_args (codes "events 170141183460469231731687303715884105728\n"), BadNumber 3)
    ∷ (with_args (codes "events 100001\n"), CountOver 3) ∷ (with_args (codes "events 100001 x\n"), CountOver 3) ∷ (with_args (codes "events 170141183460469231731687303715884105727\n"), CountOver 3) ∷ []

counts : found no_count ≡ faults no_count
unfolding schedule_of pieces arguments values_in count natural_at digits_at
counts = refl

abbrev no_event : List Row
no_event =
    (with_one (codes "s\n"), BadLine 4) ∷ (with_one (codes "end\n"), BadLine 4) ∷ (with_one (codes "\n"), BadLine 4) ∷ (with_one (codes "s1\n"), BadLine 4)
    ∷ (with_one (codes "s \n"), BadNumber 4) ∷ (with_one (codes "s  1\n"), BadNumber 4) ∷ (with_one (codes "s -1\n"), BadNumber 4) ∷ (with_one (codes "s 4294967296\n"), BadNumber 4) ∷ (with_one (codes "s 1.1\n"), BadNumber 4)
    ∷ (with_one (codes "s 1 \n"), BadNumber 4) ∷ (with_one (codes "s 1 0 0.7\n"), BadNumber 4) ∷ (with_one (codes "s 01\n"), BadNumber 4) ∷ (with_one (codes "s 1\ns 1\n"), BadLine 5) ∷ (with_one (codes "s 1\n\n"), BadLine 5) ∷ []

events_rows : found no_event ≡ faults no_event
unfolding schedule_of pieces arguments values_in value_of count event events_at number_at natural_at digits_at
events_rows = refl

abbrev no_end : List Row
no_end =
    (codes "", CutShort 1) ∷ (codes "vcc-schedule 2", CutShort 1) ∷ (with_title [], CutShort 2) ∷ (with_title (codes "args x"), CutShort 2) ∷ (with_args [], CutShort 3) ∷ (with_args (codes "events 100001"), CutShort 3)
    ∷ (with_args (codes "events 0\n"), CutShort 4) ∷ (with_args (codes "events 0\nend"), CutShort 4) ∷ (with_one [], CutShort 4) ∷ (with_one (codes "s 1"), CutShort 4) ∷ (with_one (codes "s 1\nend"), CutShort 5) ∷ (with_args (codes "events 100000\n"), CutShort 4)
    ∷ (with_args (codes "events 0\nend \n"), BadLine 4) ∷ (with_args (codes "events 0\ns 1\n"), BadLine 4) ∷ (with_args (codes "events 0\n end\n"), BadLine 4)
    ∷ (with_args (codes "events 0\nend\nx\n"), Trailing 5) ∷ (with_args (codes "events 0\nend\n\n"), Trailing 5) ∷ (with_args (codes "events 0\nend\nend\n"), Trailing 5) ∷ (with_args (codes "events 0\nend\n "), Trailing 5) ∷ (with_one (codes "s 1\nend\nx"), Trailing 6) ∷ []

ends : found no_end ≡ faults no_end
unfolding schedule_of pieces arguments values_in value_of count event events_at number_at natural_at digits_at
ends = refl

-- ---- schedules

abbrev at_bounds : Schedule
at_bounds = record {
  arguments = Int (pos 170141183460469231731687303715884105727) ∷ Int (negsuc 170141183460469231731687303715884105727) ∷ Int (pos 0) ∷ Refers (ref 0 0) ∷ Refers (ref 4294967295 4294967295) ∷ Refers (ref 1 1) ∷ [];
  events = record { thread = 0; choices = [] } ∷ record { thread = 4294967295; choices = Int (negsuc 0) ∷ Refers (ref 3 0) ∷ [] } ∷ [];
}

bounds : schedule_of (codes "vcc-schedule 1\nargs 170141183460469231731687303715884105727 -170141183460469231731687303715884105728 0 0.0 4294967295.4294967295 1.1\nevents 2\ns 0\ns 4294967295 -1 3.0\nend\n") ≡ Ok at_bounds
unfolding schedule_of pieces arguments values_in value_of count event events_at number_at natural_at digits_at
bounds = refl

nothing : schedule_of (with_args (codes "events 0\nend\n")) ≡ Ok (record { arguments = []; events = [] })
unfolding schedule_of pieces arguments values_in count events_at natural_at digits_at
nothing = refl

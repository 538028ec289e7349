-- What fails first fails the whole.
use Rattle.std.proofs.Common.{◌≡◌, ℕ, ◌+◌, List, Ok, refl, ap}
use Rattle.object_types.specs.declared.values.Value.{Value}
use Rattle.method.specs.Machine.{Event}
use Rattle.schedule_format.specs.declared.fault.ScheduleFault.{ScheduleFault}
use Rattle.schedule_format.specs.declared.fault.ScheduleFault.TheVariants.{BadLine, BadNumber, CutShort, Trailing, CountOver, OutOfMemory}
use Rattle.schedule_format.specs.Reading.{Reads, ◌>>=◌, line_at, title, arguments, count, events_at, last, nothing_at, schedule_of, Fails}
use Rattle.schedule_format.specs.Lines.{lines_of}
use Rattle.schedule_format.proofs.Pieces.{nothing_left, something_left}

pub fails_on : {A B : Type 0} (e : ScheduleFault) (read : Reads A) (f : A → Reads B) → Fails e read → Fails e (read >>= f)
fails_on OutOfMemory read f h = tt
fails_on (BadLine n) read f h = ap (λ r. r >>= f) h
fails_on (BadNumber n) read f h = ap (λ r. r >>= f) h
fails_on (CutShort n) read f h = ap (λ r. r >>= f) h
fails_on (Trailing n) read f h = ap (λ r. r >>= f) h
fails_on (CountOver n) read f h = ap (λ r. r >>= f) h

-- all parts of a text, one behind the other
pub all_parts : (text : List ℕ) (l1 l2 l3 l4 l5 : List (List ℕ)) (arguments_ : List Value) (n : ℕ) (events : List Event) → line_at 1 (title 1) (lines_of text) ≡ Ok (tt, l1) → line_at 2 (arguments 2) l1 ≡ Ok (arguments_, l2) → line_at 3 (count 3) l2 ≡ Ok (n, l3)
    → events_at 4 n l3 ≡ Ok (events, l4) → line_at (4 + n) (last (4 + n)) l4 ≡ Ok (tt, l5) → nothing_at (5 + n) l5 ≡ Ok tt → schedule_of text ≡ Ok (record { arguments = arguments_; events = events })
unfolding schedule_of
all_parts text l1 l2 l3 l4 l5 arguments_ n events e1 e2 e3 e4 e5 e6 = rw (e1, e2, e3, e4, e5, e6) refl

pub ruleset whole = (fails_on, nothing_left, something_left)

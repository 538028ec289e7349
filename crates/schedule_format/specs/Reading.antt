-- What a text is read as, line by line, or the first fault with its line. Own: the lines, in order, are
--   vcc-schedule 1
--   args VALUES
--   events COUNT
--   s THREAD VALUES     COUNT times
--   end
-- and nothing stands behind them. In a line the first fault from the left counts.
use Rattle.std.specs.Prelude.{◌≡◌, ℕ, zero, suc, ◌+◌, ◌-◌, ◌^◌, ℤ, ◌==◌, nat_le, if◌then◌else◌, List, [], ◌∷◌, length, codes, Option, Some, None, Result, Ok, Err}
use Rattle.std.specs.Str.{bytes_eq}
use Rattle.object_types.specs.declared.references.Ref.{Ref}
use Rattle.object_types.specs.declared.values.Value.{Value}
use Rattle.object_types.specs.declared.values.Value.TheVariants.{Int, Ref as Refers}
use Rattle.object_types.specs.References.{ref, is_reference}
use Rattle.method.specs.Machine.{Event}
use Rattle.decimal_text.specs.Reading.{natural_of, number_of}
use Rattle.schedule_format.specs.declared.fault.ScheduleFault.{ScheduleFault}
use Rattle.schedule_format.specs.declared.fault.ScheduleFault.TheVariants.{BadLine, BadNumber, CutShort, Trailing, CountOver, OutOfMemory}
use Rattle.schedule_format.specs.Schedules.{Schedule}
use Rattle.schedule_format.specs.Lines.{lines_of, words_of, pieces}

-- what a text or a part of it is read as, or its first fault
abbrev pub Reads : Type 0 → Type 0
Reads A = Result A ScheduleFault

infixl 10 ◌>>=◌
abbrev pub ◌>>=◌ : {A B : Type 0} → Reads A → (A → Reads B) → Reads B
(Ok x) >>= f = f x
(Err e) >>= f = Err e

-- ---- words

abbrev pub numbered : Option ℕ → Option ℕ → Option Ref
numbered None serial = None
numbered (Some ty) None = None
numbered (Some ty) (Some serial) = if is_reference (ref ty serial) then Some (ref ty serial) else None

-- TYPE.SERIAL, each of 32 bits; of type 0 there is NULL alone
abbrev pub reference_of : List ℕ → List ℕ → Option Ref
reference_of ty serial = numbered (natural_of (2 ^ 32 - 1) ty) (natural_of (2 ^ 32 - 1) serial)

abbrev pub integer : Option ℤ → Option Value
integer None = None
integer (Some z) = Some (Int z)

abbrev pub referring : Option Ref → Option Value
referring None = None
referring (Some r) = Some (Refers r)

-- a word without a point is a number, one with a point a reference
abbrev pub value_in : List (List ℕ) → Option Value
value_in [] = None
value_in (number ∷ []) = integer (number_of number)
value_in (ty ∷ serial ∷ []) = referring (reference_of ty serial)
value_in (ty ∷ serial ∷ other ∷ more) = None

unfoldable pub value_of : List ℕ → Option Value
value_of word = value_in (pieces 46 word)

-- ---- the lines of a schedule, by their words; n is the line's number

module _ (n : ℕ) where
  -- what has to stand in a number's or a value's place
  abbrev pub in_place : {A : Type 0} → Option A → Reads A
  in_place None = Err (BadNumber n)
  in_place (Some x) = Ok x

  -- the words behind this one
  abbrev pub behind : List ℕ → List (List ℕ) → Reads (List (List ℕ))
  behind word [] = Err (BadLine n)
  behind word (w ∷ ws) = if bytes_eq w word then Ok ws else Err (BadLine n)

  -- the first word, and those behind it
  abbrev pub one_word : List (List ℕ) → Reads (List ℕ × List (List ℕ))
  one_word [] = Err (BadLine n)
  one_word (w ∷ ws) = Ok (w, ws)

  abbrev pub no_more : List (List ℕ) → Reads (Unit {0})
  no_more [] = Ok tt
  no_more (w ∷ ws) = Err (BadLine n)

  unfoldable pub values_in : List (List ℕ) → Reads (List Value)
  values_in [] = Ok []
  values_in (w ∷ ws) = in_place (value_of w) >>= λ v. values_in ws >>= λ vs. Ok (v ∷ vs)

  abbrev pub same_line : List ℕ → List ℕ → Reads (Unit {0})
  same_line wanted line = if bytes_eq line wanted then Ok tt else Err (BadLine n)

  abbrev pub title : List ℕ → Reads (Unit {0})
  title = same_line (codes "vcc-schedule 1")

  unfoldable pub arguments : List ℕ → Reads (List Value)
  arguments line = behind (codes "args") (words_of line) >>= values_in

  -- a number of 128 bits, and at most 100,000
  abbrev pub up_to_most : ℕ → Reads ℕ
  up_to_most k = if nat_le k 100000 then Ok k else Err (CountOver n)

  unfoldable pub count : List ℕ → Reads ℕ
  count line = do
    ws ← behind (codes "events") (words_of line)
    w ← one_word ws
    k ← in_place (natural_of (2 ^ 127 - 1) w.0)
    most ← up_to_most k
    nothing ← no_more w.1
    Ok k

  unfoldable pub event : List ℕ → Reads Event
  event line = do
    ws ← behind (codes "s") (words_of line)
    w ← one_word ws
    thread ← in_place (natural_of (2 ^ 32 - 1) w.0)
    choices ← values_in w.1
    Ok (record { thread = thread; choices = choices })

  abbrev pub last : List ℕ → Reads (Unit {0})
  last = same_line (codes "end")

  -- ---- a place where a line has to stand

  abbrev pub whole_line : List (List ℕ) → Reads (List ℕ × List (List ℕ))
  whole_line [] = Err (CutShort n)
  whole_line (cut ∷ []) = Err (CutShort n)
  whole_line (line ∷ next ∷ more) = Ok (line, next ∷ more)

  -- the line of this form, and the lines behind it
  abbrev pub line_at : {A : Type 0} → (List ℕ → Reads A) → List (List ℕ) → Reads (A × List (List ℕ))
  line_at form lines = whole_line lines >>= λ l. form l.0 >>= λ x. Ok (x, l.1)

  -- the same of a text
  abbrev pub in_text : {A : Type 0} → (List ℕ → Reads A) → List ℕ → Reads (A × List (List ℕ))
  in_text form text = line_at form (lines_of text)

  -- no line, whole or not, and not a byte
  abbrev pub nothing_at : List (List ℕ) → Reads (Unit {0})
  nothing_at [] = Ok tt
  nothing_at (line ∷ []) = if length line == 0 then Ok tt else Err (Trailing n)
  nothing_at (line ∷ next ∷ more) = Err (Trailing n)

-- so many events, the first in line n
unfoldable pub events_at : ℕ → ℕ → List (List ℕ) → Reads (List Event × List (List ℕ))
events_at n zero lines = Ok ([], lines)
events_at n (suc k) lines = line_at n (event n) lines >>= λ first. events_at (n + 1) k first.1 >>= λ others. Ok (first.0 ∷ others.0, others.1)

unfoldable pub schedule_of : List ℕ → Reads Schedule
schedule_of text = do
  first ← line_at 1 (title 1) (lines_of text)
  arguments ← line_at 2 (arguments 2) first.1
  count ← line_at 3 (count 3) arguments.1
  events ← events_at 4 count.0 count.1
  end ← line_at (4 + count.0) (last (4 + count.0)) events.1
  nothing ← nothing_at (5 + count.0) end.1
  Ok (record { arguments = arguments.0; events = events.0 })

-- ---- what a function returned is what reading gives, unless memory ran out

abbrev pub Fails : {Y : Type 0} → ScheduleFault → Reads Y → Type 0
Fails OutOfMemory read = Unit {0}
Fails (BadLine n) read = read ≡ Err (BadLine n)
Fails (BadNumber n) read = read ≡ Err (BadNumber n)
Fails (CutShort n) read = read ≡ Err (CutShort n)
Fails (Trailing n) read = read ≡ Err (Trailing n)
Fails (CountOver n) read = read ≡ Err (CountOver n)

abbrev pub Gives : {X Y : Type 0} → (X → Y) → Result X ScheduleFault → Reads Y → Type 0
Gives view (Ok x) read = read ≡ Ok (view x)
Gives view (Err e) read = Fails e read

-- A schedule's text is read again.
use Rattle.std.proofs.Common.{◌≡◌, ℕ, suc, ◌+◌, ◌-◌, ◌^◌, ◌<◌, ◌≤◌, List, [], ◌∷◌, ◌++◌, length, map, Some, Ok, arith, refl, ap, ◌∙◌, append_assoc}
use Rattle.std.proofs.lemmas.Bool.{le-leb, ne_eqb}
use Rattle.std.proofs.lemmas.List.{append-nil}
use Rattle.std.proofs.lemmas.List.Elements.{recursion_from_All}
use Rattle.std.specs.Prelude.{codes, decimal}
use Rattle.std.specs.Fmt.{signed_decimal}
use Rattle.std.specs.List.{flat_map, AllByRecursion}
use Rattle.object_types.specs.declared.values.Value.{Value}
use Rattle.object_types.specs.declared.values.Value.TheVariants.{Int, Ref as Refers}
use Rattle.method.specs.Machine.{Event}
use Rattle.decimal_text.proofs.Whole.{natural_of_again, number_of_again}
use Rattle.schedule_format.specs.Schedules.{Schedule}
use Rattle.schedule_format.specs.Text.{value_text, reference_text, values_text, event_text, text_of, Fits, IsEvent}
use Rattle.schedule_format.specs.Lines.{pieces, lines_of, words_of}
use Rattle.schedule_format.specs.Reading.{Reads, ◌>>=◌, value_of, value_in, values_in, title, arguments, count, event, last, line_at, nothing_at, events_at, schedule_of}
use Rattle.schedule_format.proofs.Clear.{Clear, clear_append, decimal_clear, signed_clear, pieces_clear, pieces_then}
use Rattle.schedule_format.proofs.Pieces.{line_there}

-- ---- values

pub value_again : (v : Value) → Fits v → value_of (value_text v) ≡ Some v
unfolding value_of
value_again (Int z) fits = ap value_in (pieces_clear 46 (signed_decimal z) (signed_clear 46 z (omega arith) (λ e. absurd (omega arith)) fits)) ∙ rw (number_of_again z fits) refl
value_again (Refers r) fits =
    let type_small = fits.0 in
    let serial_small = fits.1 in
    let parts : pieces 46 (reference_text r) ≡ decimal r.ty ∷ decimal r.serial ∷ [] = pieces_then 46 (decimal r.ty) (decimal r.serial) (decimal_clear 46 r.ty (omega arith) (omega arith)) ∙ ap (λ (ps : List (List ℕ)). decimal r.ty ∷ ps) (pieces_clear 46 (decimal r.serial) (decimal_clear 46 r.serial (omega arith) (omega arith))) in
    ap value_in parts ∙ rw (natural_of_again (2 ^ 32 - 1) r.ty (omega arith) (omega arith), natural_of_again (2 ^ 32 - 1) r.serial (omega arith) (omega arith), fits.2) refl

pub values_again : (n : ℕ) (vs : List Value) → AllByRecursion Fits vs → values_in n (map value_text vs) ≡ Ok vs
unfolding values_in
values_again n [] fits = refl
values_again n (v ∷ vs) fits = rw (value_again v fits.0, values_again n vs fits.1) refl

value_clear : (byte : ℕ) (v : Value) → byte < 45 → Fits v → Clear byte (value_text v)
value_clear byte (Int z) low fits = signed_clear byte z (omega arith) (λ e. omega arith) fits
value_clear byte (Refers r) low fits =
    let type_small = fits.0 in
    let serial_small = fits.1 in
    clear_append byte (decimal r.ty) (46 ∷ decimal r.serial) (decimal_clear byte r.ty (omega arith) (omega arith)) (ne_eqb 46 byte (λ e. omega arith), decimal_clear byte r.serial (omega arith) (omega arith))

values_clear : (vs : List Value) → AllByRecursion Fits vs → Clear 10 (values_text vs)
values_clear [] fits = tt
values_clear (v ∷ vs) fits = (refl, clear_append 10 (value_text v) (values_text vs) (value_clear 10 v (omega arith) fits.0) (values_clear vs fits.1))

words_again : (w : List ℕ) (vs : List Value) → Clear 32 w → AllByRecursion Fits vs → words_of (w ++ values_text vs) ≡ w ∷ map value_text vs
words_again w [] clear fits = ap words_of (append-nil w) ∙ pieces_clear 32 w clear
words_again w (v ∷ vs) clear fits = pieces_then 32 w (value_text v ++ values_text vs) clear ∙ ap (λ (ws : List (List ℕ)). w ∷ ws) (words_again (value_text v) vs (value_clear 32 v (omega arith) fits.0) fits.1)

-- ---- lines

pub arguments_again : (n : ℕ) (vs : List Value) → AllByRecursion Fits vs → arguments n (codes "args" ++ values_text vs) ≡ Ok vs
unfolding arguments
arguments_again n vs fits = rw (words_again (codes "args") vs (refl, (refl, (refl, (refl, tt)))) fits) (values_again n vs fits)

pub count_again : (n k : ℕ) → k ≤ 100000 → count n (codes "events " ++ decimal k) ≡ Ok k
unfolding count
count_again n k few =
    let words : words_of (codes "events " ++ decimal k) ≡ codes "events" ∷ decimal k ∷ [] = pieces_then 32 (codes "events") (decimal k) (refl, (refl, (refl, (refl, (refl, (refl, tt)))))) ∙ ap (λ (ws : List (List ℕ)). codes "events" ∷ ws) (pieces_clear 32 (decimal k) (decimal_clear 32 k (omega arith) (omega arith))) in
    rw (words, natural_of_again (2 ^ 127 - 1) k (omega arith) (omega arith), le-leb k 100000 few) refl

-- the line of an event
abbrev pub event_line : Event → List ℕ
event_line e = codes "s " ++ (decimal e.thread ++ values_text e.choices)

pub event_again : (n : ℕ) (e : Event) → IsEvent e → event n (event_line e) ≡ Ok e
unfolding event
event_again n e is =
    let small = is.thread in
    let fits = recursion_from_All Fits e.choices is.choices in
    let words : words_of (event_line e) ≡ codes "s" ∷ decimal e.thread ∷ map value_text e.choices = pieces_then 32 (codes "s") (decimal e.thread ++ values_text e.choices) (refl, tt) ∙ ap (λ (ws : List (List ℕ)). codes "s" ∷ ws) (words_again (decimal e.thread) e.choices (decimal_clear 32 e.thread (omega arith) (omega arith)) fits) in
    rw (words, natural_of_again (2 ^ 32 - 1) e.thread (omega arith) (omega arith), values_again n e.choices fits) refl

event_clear : (e : Event) → IsEvent e → Clear 10 (event_line e)
event_clear e is =
    let small = is.thread in
    (refl, (refl, clear_append 10 (decimal e.thread) (values_text e.choices) (decimal_clear 10 e.thread (omega arith) (omega arith)) (values_clear e.choices (recursion_from_All Fits e.choices is.choices))))

-- ---- lines in their places

pub line_again : {A : Type 0} (n : ℕ) (form : List ℕ → Reads A) (line rest : List ℕ) (x : A) → Clear 10 line → form line ≡ Ok x → line_at n form (lines_of (line ++ 10 ∷ rest)) ≡ Ok (x, lines_of rest)
line_again n form line rest x clear is = rw (line_there n (line ++ 10 ∷ rest) line rest (pieces_then 10 line rest clear), is) refl

event_joined : (e : Event) (more : List ℕ) → event_text e ++ more ≡ event_line e ++ 10 ∷ more
event_joined e more = simp append_assoc

pub events_again : (n : ℕ) (es : List Event) (rest : List ℕ) → AllByRecursion IsEvent es → events_at n (length es) (lines_of (flat_map event_text es ++ rest)) ≡ Ok (es, lines_of rest)
unfolding events_at
events_again n [] rest are = refl
events_again n (e ∷ es) rest are =
    let more : List ℕ = flat_map event_text es ++ rest in
    let text : flat_map event_text (e ∷ es) ++ rest ≡ event_line e ++ 10 ∷ more = append_assoc (event_text e) (flat_map event_text es) rest ∙ event_joined e more in
    ap (λ (t : List ℕ). events_at n (suc (length es)) (lines_of t)) text ∙ rw (line_again n (event n) (event_line e) more e (event_clear e are.0) (event_again n e are.0), events_again (n + 1) es rest are.1) refl

-- ---- the whole text

title_clear : Clear 10 (codes "vcc-schedule 1")
title_clear = (refl, (refl, (refl, (refl, (refl, (refl, (refl, (refl, (refl, (refl, (refl, (refl, (refl, (refl, tt))))))))))))))

args_clear : (vs : List Value) → AllByRecursion Fits vs → Clear 10 (codes "args" ++ values_text vs)
args_clear vs fits = (refl, (refl, (refl, (refl, values_clear vs fits))))

count_clear : (k : ℕ) → k ≤ 100000 → Clear 10 (codes "events " ++ decimal k)
count_clear k few = (refl, (refl, (refl, (refl, (refl, (refl, (refl, decimal_clear 10 k (omega arith) (omega arith))))))))

regrouped : (values number events rest : List ℕ) → (codes "vcc-schedule 1\nargs" ++ (values ++ (codes "\nevents " ++ (number ++ (codes "\n" ++ (events ++ codes "end\n")))))) ++ rest
    ≡ codes "vcc-schedule 1" ++ 10 ∷ ((codes "args" ++ values) ++ 10 ∷ ((codes "events " ++ number) ++ 10 ∷ (events ++ (codes "end" ++ 10 ∷ rest))))
regrouped values number events rest = simp append_assoc

-- the text, and what follows it
pub text_again : (s : Schedule) (rest : List ℕ) → AllByRecursion Fits s.arguments → AllByRecursion IsEvent s.events → length s.events ≤ 100000
    → schedule_of (text_of s ++ rest) ≡ (nothing_at (5 + length s.events) (lines_of rest) >>= λ nothing. Ok s)
unfolding schedule_of
text_again s rest fits are few =
    let n : ℕ = length s.events in
    let events : List ℕ = flat_map event_text s.events in
    let numbered : List ℕ = (codes "events " ++ decimal n) ++ 10 ∷ (events ++ (codes "end" ++ 10 ∷ rest)) in
    let first : line_at 1 (title 1) (lines_of (codes "vcc-schedule 1" ++ 10 ∷ ((codes "args" ++ values_text s.arguments) ++ 10 ∷ numbered))) ≡ Ok (tt, lines_of ((codes "args" ++ values_text s.arguments) ++ 10 ∷ numbered)) =
    line_again 1 (title 1) (codes "vcc-schedule 1") ((codes "args" ++ values_text s.arguments) ++ 10 ∷ numbered) tt title_clear refl in
    let second : line_at 2 (arguments 2) (lines_of ((codes "args" ++ values_text s.arguments) ++ 10 ∷ numbered)) ≡ Ok (s.arguments, lines_of numbered) =
    line_again 2 (arguments 2) (codes "args" ++ values_text s.arguments) numbered s.arguments (args_clear s.arguments fits) (arguments_again 2 s.arguments fits) in
    let third : line_at 3 (count 3) (lines_of numbered) ≡ Ok (n, lines_of (events ++ (codes "end" ++ 10 ∷ rest))) =
    line_again 3 (count 3) (codes "events " ++ decimal n) (events ++ (codes "end" ++ 10 ∷ rest)) n (count_clear n few) (count_again 3 n few) in
    let fourth : events_at 4 n (lines_of (events ++ (codes "end" ++ 10 ∷ rest))) ≡ Ok (s.events, lines_of (codes "end" ++ 10 ∷ rest)) = events_again 4 s.events (codes "end" ++ 10 ∷ rest) are in
    let fifth : line_at (4 + n) (last (4 + n)) (lines_of (codes "end" ++ 10 ∷ rest)) ≡ Ok (tt, lines_of rest) = line_again (4 + n) (last (4 + n)) (codes "end") rest tt (refl, (refl, (refl, tt))) refl in
    ap schedule_of (regrouped (values_text s.arguments) (decimal n) events rest) ∙ rw (first, second, third, fourth, fifth) refl

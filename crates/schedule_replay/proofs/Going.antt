-- What is still to be printed of a replay, and what the next event adds.
use Rattle.std.proofs.Common.{◌≡◌, ℕ, ◌+◌, List, [], ◌∷◌, ◌++◌, Option, Some, None, refl, sym, ap, subst, ◌∙◌, append_assoc}
use Rattle.vcc_base.specs.Maps.{NowWritten, FrontWritten}
use Rattle.vcc_base.proofs.Printing.{then_written, is_written, is_front, front_more, front_first}
use Rattle.method.specs.declared.program.CheckKind.{CheckKind}
use Rattle.method.specs.declared.program.Program.{Program}
use Rattle.method.specs.Overflow.{Overflow}
use Rattle.method.specs.Machine.{State, Event, Answer, NotEnabled, Faulted, Next, step, step_overflow, left_by}
use Rattle.schedule_replay.specs.ReplayText.{Replay, Ending, Clean, Stopped, WideAt, ends, goes_on, step_text, fault_text, idle_text, end_text, replay_step, replay_from}
use Rattle.schedule_replay.proofs.Left.{whole_front}

-- a front of the whole replay's text is written, and this is left of it
abbrev pub Going : Option (List ℕ) → Option (List ℕ) → Replay → Replay → Type 0
Going old now rest whole = (front : List ℕ) × NowWritten old now front × (goes_on front rest ≡ whole)

pub going_is : (old now : Option (List ℕ)) (rest other whole : Replay) → rest ≡ other → Going old now rest whole → Going old now other whole
going_is old now rest other whole e going = subst (λ (r : Replay). Going old now r whole) e going

pub going_next : (old now next : Option (List ℕ)) (line : List ℕ) (rest whole : Replay) → Going old now (goes_on line rest) whole → NowWritten now next line → Going old next rest whole
going_next old now next line rest whole (front, written, is) more =
    (front ++ line, then_written old now next front line written more, ap (λ (t : List ℕ). record { text = t; ending = rest.ending }) (append_assoc front line rest.text) ∙ is)

text_is : (front : List ℕ) (rest whole : Replay) → goes_on front rest ≡ whole → front ++ rest.text ≡ whole.text
text_is front rest whole is = ap (λ (r : Replay). r.text) is

pub going_ends : (old now next : Option (List ℕ)) (text : List ℕ) (ending : Ending) (whole : Replay) → Going old now (ends text ending) whole → NowWritten now next text → (whole.ending ≡ ending) × NowWritten old next whole.text
going_ends old now next text ending whole (front, written, is) more =
    (sym (ap (λ (r : Replay). r.ending) is), is_written old next (front ++ text) whole.text (text_is front (ends text ending) whole is) (then_written old now next front text written more))

-- a fault in what is written next
pub going_front : (old now next : Option (List ℕ)) (line : List ℕ) (rest whole : Replay) → Going old now (goes_on line rest) whole → FrontWritten now next line → FrontWritten old next whole.text
going_front old now next line rest whole (front, written, is) more =
    is_front old next (front ++ (line ++ rest.text)) whole.text (text_is front (goes_on line rest) whole is) (front_more old now next front (line ++ rest.text) written (front_first now next line rest.text more))

pub going_last : (old now next : Option (List ℕ)) (text : List ℕ) (ending : Ending) (whole : Replay) → Going old now (ends text ending) whole → FrontWritten now next text → FrontWritten old next whole.text
going_last old now next text ending whole (front, written, is) more =
    is_front old next (front ++ text) whole.text (text_is front (ends text ending) whole is) (front_more old now next front text written more)

-- nothing more is written
pub going_cut : (old now : Option (List ℕ)) (rest whole : Replay) → Going old now rest whole → FrontWritten old now whole.text
going_cut old now rest whole (front, written, is) =
    is_front old now (front ++ rest.text) whole.text (text_is front rest whole is) (front_first old now front rest.text (whole_front old now front written))

-- ---- one event

pub event_next : (p : Program) (k : ℕ) (e : Event) (es : List Event) (s s' : State) (line : ℕ) → step p s e ≡ Next s' line → step_overflow p s e ≡ None → replay_from p k (e ∷ es) s ≡ goes_on (step_text (k + 1) e.thread line) (replay_from p (k + 1) es s')
unfolding replay_from
event_next p k e es s s' line is fits = ap (λ (w : Option Overflow). replay_step (k + 1) e.thread w (step p s e) (replay_from p (k + 1) es (left_by s (step p s e)))) fits ∙ ap (λ (a : Answer). replay_step (k + 1) e.thread None a (replay_from p (k + 1) es (left_by s a))) is

pub event_fault : (p : Program) (k : ℕ) (e : Event) (es : List Event) (s : State) (kind : CheckKind) (line : ℕ) → step p s e ≡ Faulted kind line → step_overflow p s e ≡ None → replay_from p k (e ∷ es) s ≡ ends (fault_text (k + 1) e.thread line kind) Stopped
unfolding replay_from
event_fault p k e es s kind line is fits = ap (λ (w : Option Overflow). replay_step (k + 1) e.thread w (step p s e) (replay_from p (k + 1) es (left_by s (step p s e)))) fits ∙ ap (λ (a : Answer). replay_step (k + 1) e.thread None a (replay_from p (k + 1) es (left_by s a))) is

pub event_idle : (p : Program) (k : ℕ) (e : Event) (es : List Event) (s : State) → step p s e ≡ NotEnabled → step_overflow p s e ≡ None → replay_from p k (e ∷ es) s ≡ ends (idle_text (k + 1) e.thread) Stopped
unfolding replay_from
event_idle p k e es s is fits = ap (λ (w : Option Overflow). replay_step (k + 1) e.thread w (step p s e) (replay_from p (k + 1) es (left_by s (step p s e)))) fits ∙ ap (λ (a : Answer). replay_step (k + 1) e.thread None a (replay_from p (k + 1) es (left_by s a))) is

pub event_wide : (p : Program) (k : ℕ) (e : Event) (es : List Event) (s : State) (w : Overflow) → step_overflow p s e ≡ Some w → replay_from p k (e ∷ es) s ≡ ends [] (WideAt w)
unfolding replay_from
event_wide p k e es s w is = ap (λ (o : Option Overflow). replay_step (k + 1) e.thread o (step p s e) (replay_from p (k + 1) es (left_by s (step p s e)))) is

pub events_over : (p : Program) (k : ℕ) (s : State) → replay_from p k [] s ≡ ends (end_text p s.heap k) Clean
unfolding replay_from
events_over p k s = refl

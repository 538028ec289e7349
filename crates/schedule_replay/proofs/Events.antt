-- The events of a replay, one by one: what stands before each, and what its answer comes to.
use Rattle.std.proofs.Common.{◌≡◌, ℕ, ◌+◌, ◌<◌, ◌≤◌, List, [], ◌∷◌, ◌++◌, length, drop, get_or, Option, Bool, true, false, Result, Ok, Err, sym, ap, subst, ◌∙◌}
use Rattle.std.specs.Result.{IsErrAnd}
use Rattle.std.proofs.lemmas.Result.{err_from_is_err_and}
use Rattle.std.proofs.lemmas.List.{drop_more, drop_all}
use Rattle.vcc_base.specs.Maps.{NowWritten, FrontWritten}
use Rattle.vcc_base.specs.declared.sink.SinkFault.{SinkFault}
use Rattle.object_types.specs.Lookups.{heap_of}
use Rattle.int_ranges.specs.declared.exact.Wide.{Wide}
use Rattle.spec_values.specs.Answers.{operands}
use Rattle.method.specs.declared.program.CheckKind.{CheckKind}
use Rattle.method.specs.declared.program.Program.{Program}
use Rattle.method.specs.Machine as m
use Rattle.ref_machine.specs.declared.state.State.{State}
use Rattle.ref_machine.specs.declared.step.Stepped.{Stepped}
use Rattle.ref_machine.specs.declared.step.Stepped.TheVariants as stepped
use Rattle.ref_machine.specs.declared.step.StepFault.{StepFault}
use Rattle.ref_machine.specs.declared.step.StepFault.TheVariants as step_fault
use Rattle.ref_machine.specs.States.{Stands}
use Rattle.ref_machine.specs.Answers.{Steps}
use Rattle.schedule_replay.specs.declared.fault.ReplayFault.{ReplayFault}
use Rattle.schedule_replay.specs.declared.fault.ReplayFault.TheVariants as fault
use Rattle.schedule_replay.specs.Answers.{Answers, stop_of}
use Rattle.schedule_replay.specs.ReplayText.{Replay, Clean, Stopped, WideAt, ends, step_text, fault_text, idle_text, clean_text, end_text, replay_from}
use Rattle.schedule_replay.proofs.Going.{Going, going_is, going_next, going_ends, going_front, going_last, going_cut, event_next, event_fault, event_idle, event_wide, events_over}
use Rattle.schedule_replay.proofs.Left.{none_written}
use Rattle.schedule_replay.proofs.Printed.{same_records}

-- ---- exits

abbrev failing : ReplayFault → Result Bool ReplayFault
failing e = Err e

-- the sink took no more
pub sink_exit : (result : Result Bool ReplayFault) (f : SinkFault) (r : Replay) (old new : Option (List ℕ)) → IsErrAnd result (λ e. e ≡ fault.Sink f) → FrontWritten old new r.text → Answers result r old new
sink_exit result f r old new is front = let q = err_from_is_err_and result is in subst (λ (x : Result Bool ReplayFault). Answers x r old new) (sym (q.1 ∙ ap failing q.2)) front

stopped : (f : StepFault) (r : Replay) (old new : Option (List ℕ)) → FrontWritten old new r.text → Answers (Err (stop_of f)) r old new
stopped step_fault.Exhausted r old new front = front
stopped step_fault.OutOfMemory r old new front = front

-- the machine gave up
pub step_exit : (result : Result Bool ReplayFault) (f : StepFault) (r : Replay) (old new : Option (List ℕ)) → IsErrAnd result (λ e. e ≡ stop_of f) → FrontWritten old new r.text → Answers result r old new
step_exit result f r old new is front = let q = err_from_is_err_and result is in subst (λ (x : Result Bool ReplayFault). Answers x r old new) (sym (q.1 ∙ ap failing q.2)) (stopped f r old new front)

-- ---- before an event

-- the code's state stands for one from which the rest of the replay is that of the events from number i on
abbrev pub StandsAt : Program → List m.Event → ℕ → Replay → Option (List ℕ) → Option (List ℕ) → State → Type 0
StandsAt p es i whole old now c = (s : m.State) × Stands s c × Going old now (replay_from p i (drop i es) s) whole

module _ (p : Program) (es : List m.Event) (i : ℕ) (whole : Replay) (old now : Option (List ℕ)) (c : State) where
  pub cut : StandsAt p es i whole old now c → FrontWritten old now whole.text
  cut (s, stands, going) = going_cut old now (replay_from p i (drop i es) s) whole going

  module _ (e : m.Event) (lt : i < length es) (is : e ≡ get_or es i e) (n t : ℕ) (number : n ≡ i + 1) (thread : t ≡ e.thread) (before : StandsAt p es i whole old now c) (c' : State) (a : Stepped) (steps : (s : m.State) → Stands s c → Steps a p s e c') where
    split : drop i es ≡ e ∷ drop (i + 1) es
    split = drop_more es i e lt ∙ ap (λ (x : m.Event). x ∷ drop (i + 1) es) (sym is)

    next_going : (s : m.State) → Going old now (replay_from p i (drop i es) s) whole → Going old now (replay_from p i (e ∷ drop (i + 1) es) s) whole
    next_going s going = going_is old now (replay_from p i (drop i es) s) (replay_from p i (e ∷ drop (i + 1) es) s) whole (ap (λ (xs : List m.Event). replay_from p i xs s) split) going

    at_step : (line : ℕ) (next : Option (List ℕ)) → NowWritten now next (step_text n t line) → NowWritten now next (step_text (i + 1) e.thread line)
    at_step line next written = subst (λ (k : ℕ). NowWritten now next (step_text k e.thread line)) number (subst (λ (u : ℕ). NowWritten now next (step_text n u line)) thread written)

    pub on_next : (line : ℕ) (next : Option (List ℕ)) → a ≡ stepped.Next line → NowWritten now next (step_text n t line) → StandsAt p es (i + 1) whole old next c'
    on_next line next at_next written = gone before.0 before.1 before.2 (subst (λ (x : Stepped). Steps x p before.0 e c') at_next (steps before.0 before.1))
      where
        gone : (s : m.State) → Stands s c → Going old now (replay_from p i (drop i es) s) whole → Steps (stepped.Next line) p s e c' → StandsAt p es (i + 1) whole old next c'
        gone s stands going (s', step, fits, stands') =
            (s', stands', going_next old now next (step_text (i + 1) e.thread line) (replay_from p (i + 1) (drop (i + 1) es) s') whole (going_is old now _ _ whole (event_next p i e (drop (i + 1) es) s s' line step fits) (next_going s going)) (at_step line next written))

    pub next_front : (line : ℕ) (next : Option (List ℕ)) → a ≡ stepped.Next line → FrontWritten now next (step_text n t line) → FrontWritten old next whole.text
    next_front line next at_next front = gone before.0 before.1 before.2 (subst (λ (x : Stepped). Steps x p before.0 e c') at_next (steps before.0 before.1))
      where
        here : FrontWritten now next (step_text (i + 1) e.thread line)
        here = subst (λ (k : ℕ). FrontWritten now next (step_text k e.thread line)) number (subst (λ (u : ℕ). FrontWritten now next (step_text n u line)) thread front)

        gone : (s : m.State) → Stands s c → Going old now (replay_from p i (drop i es) s) whole → Steps (stepped.Next line) p s e c' → FrontWritten old next whole.text
        gone s stands going (s', step, fits, stands') =
            going_front old now next (step_text (i + 1) e.thread line) (replay_from p (i + 1) (drop (i + 1) es) s') whole (going_is old now _ _ whole (event_next p i e (drop (i + 1) es) s s' line step fits) (next_going s going)) here

    fault_going : (kind : CheckKind) (line : ℕ) → a ≡ stepped.Fault kind line → Going old now (ends (fault_text (i + 1) e.thread line kind) Stopped) whole
    fault_going kind line at_fault = gone before.0 before.1 before.2 (subst (λ (x : Stepped). Steps x p before.0 e c') at_fault (steps before.0 before.1))
      where
        gone : (s : m.State) → Stands s c → Going old now (replay_from p i (drop i es) s) whole → Steps (stepped.Fault kind line) p s e c' → Going old now (ends (fault_text (i + 1) e.thread line kind) Stopped) whole
        gone s stands going (step, fits) = going_is old now _ _ whole (event_fault p i e (drop (i + 1) es) s kind line step fits) (next_going s going)

    pub on_fault : (kind : CheckKind) (line : ℕ) (next : Option (List ℕ)) → a ≡ stepped.Fault kind line → NowWritten now next (fault_text n t line kind) → Answers (Ok false) whole old next
    on_fault kind line next at_fault written = going_ends old now next (fault_text (i + 1) e.thread line kind) Stopped whole (fault_going kind line at_fault) here
      where
        here : NowWritten now next (fault_text (i + 1) e.thread line kind)
        here = subst (λ (k : ℕ). NowWritten now next (fault_text k e.thread line kind)) number (subst (λ (u : ℕ). NowWritten now next (fault_text n u line kind)) thread written)

    pub fault_front : (kind : CheckKind) (line : ℕ) (next : Option (List ℕ)) → a ≡ stepped.Fault kind line → FrontWritten now next (fault_text n t line kind) → FrontWritten old next whole.text
    fault_front kind line next at_fault front = going_last old now next (fault_text (i + 1) e.thread line kind) Stopped whole (fault_going kind line at_fault) here
      where
        here : FrontWritten now next (fault_text (i + 1) e.thread line kind)
        here = subst (λ (k : ℕ). FrontWritten now next (fault_text k e.thread line kind)) number (subst (λ (u : ℕ). FrontWritten now next (fault_text n u line kind)) thread front)

    idle_going : a ≡ stepped.NotEnabled → Going old now (ends (idle_text (i + 1) e.thread) Stopped) whole
    idle_going idle = gone before.0 before.1 before.2 (subst (λ (x : Stepped). Steps x p before.0 e c') idle (steps before.0 before.1))
      where
        gone : (s : m.State) → Stands s c → Going old now (replay_from p i (drop i es) s) whole → Steps stepped.NotEnabled p s e c' → Going old now (ends (idle_text (i + 1) e.thread) Stopped) whole
        gone s stands going (step, fits) = going_is old now _ _ whole (event_idle p i e (drop (i + 1) es) s step fits) (next_going s going)

    pub on_idle : (next : Option (List ℕ)) → a ≡ stepped.NotEnabled → NowWritten now next (idle_text n t) → Answers (Ok false) whole old next
    on_idle next idle written = going_ends old now next (idle_text (i + 1) e.thread) Stopped whole (idle_going idle) here
      where
        here : NowWritten now next (idle_text (i + 1) e.thread)
        here = subst (λ (k : ℕ). NowWritten now next (idle_text k e.thread)) number (subst (λ (u : ℕ). NowWritten now next (idle_text n u)) thread written)

    pub idle_front : (next : Option (List ℕ)) → a ≡ stepped.NotEnabled → FrontWritten now next (idle_text n t) → FrontWritten old next whole.text
    idle_front next idle front = going_last old now next (idle_text (i + 1) e.thread) Stopped whole (idle_going idle) here
      where
        here : FrontWritten now next (idle_text (i + 1) e.thread)
        here = subst (λ (k : ℕ). FrontWritten now next (idle_text k e.thread)) number (subst (λ (u : ℕ). FrontWritten now next (idle_text n u)) thread front)

    pub on_wide : (w : Wide) → a ≡ stepped.Wide w → Answers (Err (fault.Wide w)) whole old now
    on_wide w wide = going_ends old now now [] (WideAt (operands w)) whole (gone before.0 before.1 before.2 (subst (λ (x : Stepped). Steps x p before.0 e c') wide (steps before.0 before.1))) (none_written now)
      where
        gone : (s : m.State) → Stands s c → Going old now (replay_from p i (drop i es) s) whole → Steps (stepped.Wide w) p s e c' → Going old now (ends [] (WideAt (operands w))) whole
        gone s stands going step = going_is old now _ _ whole (event_wide p i e (drop (i + 1) es) s (operands w) step) (next_going s going)

-- ---- behind the last event

same_end : (p : Program) (s : m.State) (c : State) (k : ℕ) → Stands s c → end_text p s.heap k ≡ end_text p (heap_of c.heap) k
same_end p s c k stands = ap (λ (t : List ℕ). clean_text k ++ t) (same_records p s.heap c.heap stands.finite (ap (λ (x : m.State). x.heap.get) stands.same))

end_going : (p : Program) (es : List m.Event) (i : ℕ) (whole : Replay) (old now : Option (List ℕ)) (c : State) → length es ≤ i → StandsAt p es i whole old now c → Going old now (ends (end_text p (heap_of c.heap) i) Clean) whole
end_going p es i whole old now c le (s, stands, going) =
    going_is old now _ _ whole (ap (λ (xs : List m.Event). replay_from p i xs s) (drop_all i es le) ∙ (events_over p i s ∙ ap (λ (t : List ℕ). ends t Clean) (same_end p s c i stands))) going

pub on_end : (p : Program) (es : List m.Event) (i : ℕ) (whole : Replay) (old now : Option (List ℕ)) (c : State) (n : ℕ) (next : Option (List ℕ)) → length es ≤ i → n ≡ i → StandsAt p es i whole old now c → NowWritten now next (end_text p (heap_of c.heap) n) → Answers (Ok true) whole old next
on_end p es i whole old now c n next le number before written =
    going_ends old now next (end_text p (heap_of c.heap) i) Clean whole (end_going p es i whole old now c le before) (subst (λ (k : ℕ). NowWritten now next (end_text p (heap_of c.heap) k)) number written)

pub end_front : (p : Program) (es : List m.Event) (i : ℕ) (whole : Replay) (old now : Option (List ℕ)) (c : State) (n : ℕ) (next : Option (List ℕ)) → length es ≤ i → n ≡ i → StandsAt p es i whole old now c → FrontWritten now next (end_text p (heap_of c.heap) n) → FrontWritten old next whole.text
end_front p es i whole old now c n next le number before front =
    going_last old now next (end_text p (heap_of c.heap) i) Clean whole (end_going p es i whole old now c le before) (subst (λ (k : ℕ). FrontWritten now next (end_text p (heap_of c.heap) k)) number front)

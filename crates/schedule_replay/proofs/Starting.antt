-- How a replay begins.
use Rattle.std.proofs.Common.{◌≡◌, ℕ, List, [], Option, Some, Result, Ok, Err, false, refl, sym, ap, subst, ◌∙◌, Bool}
use Rattle.vcc_base.specs.Maps.{NowWritten, FrontWritten}
use Rattle.int_ranges.specs.declared.exact.Wide.{Wide}
use Rattle.spec_values.specs.Answers.{operands}
use Rattle.object_types.specs.Heap.{empty_heap}
use Rattle.method.specs.declared.program.CheckKind.TheVariants.{Requires}
use Rattle.method.specs.declared.program.Program.{Program}
use Rattle.method.specs.Expressions.{Outcome, Unfit, Fault, Gives}
use Rattle.method.specs.Machine.{State}
use Rattle.method.specs.Starts.{start}
use Rattle.schedule_format.specs.Schedules.{Schedule}
use Rattle.schedule_replay.specs.declared.fault.ReplayFault.{ReplayFault}
use Rattle.schedule_replay.specs.declared.fault.ReplayFault.TheVariants as fault
use Rattle.std.specs.Result.{IsErrAnd}
use Rattle.vcc_base.specs.declared.sink.SinkFault.{SinkFault}
use Rattle.object_types.specs.declared.values.Value.{Value}
use Rattle.object_types.specs.declared.records.Stored.{Stored}
use Rattle.object_types.specs.Lookups.{heap_of}
use Rattle.method.specs.Machine as m
use Rattle.ref_machine.specs.declared.state.State as code
use Rattle.ref_machine.specs.declared.start.StartFault.{StartFault}
use Rattle.ref_machine.specs.declared.start.StartFault.TheVariants as why
use Rattle.ref_machine.specs.Starting.{Starts, StartsNot}
use Rattle.schedule_replay.specs.Answers.{Answers, AnswersFrom, AnswersNoStart}
use Rattle.schedule_replay.specs.ReplayText.{Replay, Stopped, WideAt, NoStart, ends, fault_text, replay_from, replay_start, replay_of}
use Rattle.schedule_replay.proofs.Left.{none_written}
use Rattle.schedule_replay.proofs.Events.{sink_exit}

pub answers_is : (result : Result Bool ReplayFault) (r other : Replay) (old new : Option (List ℕ)) → r ≡ other → Answers result other old new → Answers result r old new
answers_is result r other old new e answers = subst (λ (x : Replay). Answers result x old new) (sym e) answers

pub begins : (p : Program) (s : Schedule) (o : Outcome State) → start p empty_heap s.arguments ≡ o → replay_of p s ≡ replay_start p s.events o.overflow o.end
unfolding replay_of
begins p s o e = ap (λ (x : Outcome State). replay_start p s.events x.overflow x.end) e

pub no_start : (p : Program) (s : Schedule) (old : Option (List ℕ)) → start p empty_heap s.arguments ≡ Unfit → Answers (Err fault.BadArgs) (replay_of p s) old old
no_start p s old e = answers_is (Err fault.BadArgs) (replay_of p s) (ends [] NoStart) old old (begins p s Unfit e) (refl, none_written old)

pub wide_start : (p : Program) (s : Schedule) (w : Wide) (old : Option (List ℕ)) → (start p empty_heap s.arguments).overflow ≡ Some (operands w) → Answers (Err (fault.Wide w)) (replay_of p s) old old
unfolding replay_of
wide_start p s w old e = answers_is (Err (fault.Wide w)) (replay_of p s) (ends [] (WideAt (operands w))) old old (ap (λ x. replay_start p s.events x (start p empty_heap s.arguments).end) e) (refl, none_written old)

pub false_start : (p : Program) (s : Schedule) (line : ℕ) (old new : Option (List ℕ)) → start p empty_heap s.arguments ≡ Fault 0 Requires line → NowWritten old new (fault_text 0 1 line Requires) → Answers (Ok false) (replay_of p s) old new
false_start p s line old new e written = answers_is (Ok false) (replay_of p s) (ends (fault_text 0 1 line Requires) Stopped) old new (begins p s (Fault 0 Requires line) e) (refl, written)

pub false_front : (p : Program) (s : Schedule) (line : ℕ) (old new : Option (List ℕ)) → start p empty_heap s.arguments ≡ Fault 0 Requires line → FrontWritten old new (fault_text 0 1 line Requires) → FrontWritten old new (replay_of p s).text
false_front p s line old new e front = subst (λ (r : Replay). FrontWritten old new r.text) (sym (begins p s (Fault 0 Requires line) e)) front

pub true_start : (p : Program) (s : Schedule) (state : State) (result : Result Bool ReplayFault) (old new : Option (List ℕ)) → start p empty_heap s.arguments ≡ Gives state → Answers result (replay_from p 0 s.events state) old new → Answers result (replay_of p s) old new
true_start p s state result old new e answers = answers_is result (replay_of p s) (replay_from p 0 s.events state) old new (begins p s (Gives state) e) answers

-- ---- by the reason why main doesn't start

reason : (p : Program) (s : Schedule) (f g : StartFault) → f ≡ g → StartsNot f (start p empty_heap s.arguments) → StartsNot g (start p empty_heap s.arguments)
reason p s f g is denied = subst (λ (x : StartFault). StartsNot x (start p empty_heap s.arguments)) is denied

pub on_bad_args : (f : StartFault) (old : Option (List ℕ)) → f ≡ why.BadArgs → AnswersNoStart (Err fault.BadArgs) f old old
on_bad_args f old is p s denied = no_start p s old (reason p s f why.BadArgs is denied)

pub on_wide_start : (f : StartFault) (w : Wide) (old : Option (List ℕ)) → f ≡ why.Wide w → AnswersNoStart (Err (fault.Wide w)) f old old
on_wide_start f w old is p s denied = wide_start p s w old (reason p s f (why.Wide w) is denied)

pub on_false_start : (f : StartFault) (line : ℕ) (old new : Option (List ℕ)) → f ≡ why.Requires line → NowWritten old new (fault_text 0 1 line Requires) → AnswersNoStart (Ok false) f old new
on_false_start f line old new is written p s denied = false_start p s line old new (reason p s f (why.Requires line) is denied) written

pub false_start_exit : (result : Result Bool ReplayFault) (e : SinkFault) (f : StartFault) (line : ℕ) (old new : Option (List ℕ)) → f ≡ why.Requires line → IsErrAnd result (λ x. x ≡ fault.Sink e) → FrontWritten old new (fault_text 0 1 line Requires) → AnswersNoStart result f old new
false_start_exit result e f line old new is exit front p s denied = sink_exit result e (replay_of p s) old new exit (false_front p s line old new (reason p s f (why.Requires line) is denied) front)

-- ---- from the code's empty heap

from_empty : (p : Program) (s : Schedule) (h : List Stored) (args : List Value) → h ≡ [] → args ≡ s.arguments → start p (heap_of h) args ≡ start p empty_heap s.arguments
from_empty p s h args empty same = ap (λ (x : List Stored). start p (heap_of x) args) empty ∙ ap (start p empty_heap) same

pub on_start : (p : Program) (s : Schedule) (c : code.State) (result : Result Bool ReplayFault) (old new : Option (List ℕ)) (h : List Stored) (args : List Value) (es : List m.Event) → h ≡ [] → args ≡ s.arguments → es ≡ s.events → Starts c (start p (heap_of h) args) → AnswersFrom result p es c old new → Answers result (replay_of p s) old new
on_start p s c result old new h args es empty same events (state, gives, stands) answers =
    true_start p s state result old new (sym (from_empty p s h args empty same) ∙ gives) (subst (λ (xs : List m.Event). Answers result (replay_from p 0 xs state) old new) events (answers state stands))

pub on_no_start : (p : Program) (s : Schedule) (f : StartFault) (result : Result Bool ReplayFault) (old new : Option (List ℕ)) (h : List Stored) (args : List Value) → h ≡ [] → args ≡ s.arguments → StartsNot f (start p (heap_of h) args) → AnswersNoStart result f old new → Answers result (replay_of p s) old new
on_no_start p s f result old new h args empty same denied answers = answers p s (subst (λ (o : Outcome State). StartsNot f o) (from_empty p s h args empty same) denied)

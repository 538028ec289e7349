-- How a replay comes to an event at which the machine's numbers run out.
use Rattle.std.proofs.Common.{◌≡◌, ℕ, ◌+◌, ◌<◌, List, [], ◌∷◌, length, drop, get_or, inl, inr, refl, Result, Err, Bool, sym, ap, subst, ◌∙◌}
use Rattle.std.specs.Result.{IsErrAnd}
use Rattle.std.specs.Prelude.{IsErrOf}
use Rattle.std.proofs.lemmas.Result.{err_from_is_err_and}
use Rattle.std.proofs.lemmas.List.{drop_more}
use Rattle.object_types.specs.declared.records.Stored.{Stored}
use Rattle.object_types.specs.declared.values.Value.{Value}
use Rattle.object_types.specs.Heap.{empty_heap}
use Rattle.object_types.specs.Lookups.{heap_of}
use Rattle.method.specs.declared.program.Program.{Program}
use Rattle.method.specs.Expressions.{Outcome}
use Rattle.method.specs.Machine as m
use Rattle.method.specs.Starts.{start}
use Rattle.schedule_format.specs.Schedules.{Schedule}
use Rattle.ref_machine.specs.declared.state.State.{State}
use Rattle.ref_machine.specs.declared.step.Stepped.{Stepped}
use Rattle.ref_machine.specs.declared.step.Stepped.TheVariants as stepped
use Rattle.ref_machine.specs.declared.step.StepFault.{StepFault}
use Rattle.ref_machine.specs.declared.step.StepFault.TheVariants as step_fault
use Rattle.ref_machine.specs.States.{Stands}
use Rattle.ref_machine.specs.Answers.{Steps}
use Rattle.ref_machine.specs.Starting.{Starts}
use Rattle.ref_machine.specs.RunsOut.{StepRunsOut}
use Rattle.schedule_replay.specs.declared.fault.ReplayFault.{ReplayFault}
use Rattle.schedule_replay.specs.declared.fault.ReplayFault.TheVariants as fault
use Rattle.schedule_replay.specs.Answers.{stop_of}
use Rattle.schedule_replay.specs.RunsOut.{Leads, EventsRunOut, BegunRunsOut, ReplayRunsOut}

-- the code's state stands for one that the first events lead to: where numbers run out behind it, they do on the whole way
abbrev pub OnWay : Program → List m.Event → ℕ → m.State → State → Type 0
OnWay p es i first c = (s : m.State) × Stands s c × (EventsRunOut p (drop i es) s → EventsRunOut p es first)

pub way_begins : (p : Program) (es : List m.Event) (s : m.State) (c : State) → Stands s c → OnWay p es 0 s c
way_begins p es s c stands = (s, stands, λ h. h)

module _ (p : Program) (es : List m.Event) (i : ℕ) (first : m.State) (c : State) (e : m.Event) (lt : i < length es) (is : e ≡ get_or es i e) where
  split : drop i es ≡ e ∷ drop (i + 1) es
  split = drop_more es i e lt ∙ ap (λ (x : m.Event). x ∷ drop (i + 1) es) (sym is)

  pub way_next : (c' : State) (a : Stepped) (line : ℕ) → a ≡ stepped.Next line → ((s : m.State) → Stands s c → Steps a p s e c') → OnWay p es i first c → OnWay p es (i + 1) first c'
  way_next c' a line at_next steps (s, stands, way) = gone (subst (λ (x : Stepped). Steps x p s e c') at_next (steps s stands))
    where
      gone : Steps (stepped.Next line) p s e c' → OnWay p es (i + 1) first c'
      gone (s', step, fits, stands') =
          (s', stands', λ later. way (subst (λ xs. EventsRunOut p xs s) (sym split) (inr (subst (λ z. Leads z (λ t. EventsRunOut p (drop (i + 1) es) t)) (sym step) later))))

  pub way_ends : ((s : m.State) → Stands s c → StepRunsOut p s e) → OnWay p es i first c → EventsRunOut p es first
  way_ends out (s, stands, way) = way (subst (λ xs. EventsRunOut p xs s) (sym split) (inl (out s stands)))

-- the machine gave up for want of numbers
stop_exhausted : (f : StepFault) → stop_of f ≡ fault.Exhausted → f ≡ step_fault.Exhausted
stop_exhausted step_fault.Exhausted e = refl
stop_exhausted step_fault.OutOfMemory e = absurd (cc (e))

abbrev pub step_fails : StepFault → Result Stepped StepFault
step_fails f = Err f

abbrev replay_fails : ReplayFault → Result Bool ReplayFault
replay_fails f = Err f

same_fault : (a b : ReplayFault) → replay_fails a ≡ replay_fails b → a ≡ b
same_fault a b e = cc (e)

pub gave_up : (result : Result Bool ReplayFault) (f : StepFault) → IsErrAnd result (λ e. e ≡ stop_of f) → IsErrOf result fault.Exhausted → step_fails f ≡ step_fails step_fault.Exhausted
gave_up result f is exhausted =
    let q = err_from_is_err_and result is in
    ap step_fails (stop_exhausted f (sym q.2 ∙ same_fault q.0 fault.Exhausted (sym q.1 ∙ exhausted)))

-- from the code's start
from_start : (p : Program) (es : List m.Event) (o : Outcome m.State) (c : State) → Starts c o → ((s : m.State) → Stands s c → EventsRunOut p es s) → BegunRunsOut p es o.end
from_start p es o c (s, gives, stands) out = subst (λ (z : Outcome m.State). BegunRunsOut p es z.end) (sym gives) (out s stands)

pub replay_runs_out : (p : Program) (s : Schedule) (c : State) (h : List Stored) (args : List Value) (es : List m.Event) → h ≡ [] → args ≡ s.arguments → es ≡ s.events → Starts c (start p (heap_of h) args) → ((t : m.State) → Stands t c → EventsRunOut p es t) → ReplayRunsOut p s
replay_runs_out p s c h args es empty same events starts out =
    let begins : start p (heap_of h) args ≡ start p empty_heap s.arguments = ap (λ (x : List Stored). start p (heap_of x) args) empty ∙ ap (start p empty_heap) same in
    subst (λ (o : Outcome m.State). BegunRunsOut p s.events o.end) begins
    (subst (λ (xs : List m.Event). BegunRunsOut p xs (start p (heap_of h) args).end) events (from_start p es (start p (heap_of h) args) c starts out))

-- Each run of the plain machine is a run of the machine, without annotations, and no step of it is a fault.
use Rattle.std.proofs.Common.{◌≡◌, ℕ, true, List, [], ◌∷◌, ◌++◌, map, ⊎_elim, refl, sym, ap, ◌∙◌, subst}
use Rattle.method.specs.declared.program.Program.{Program}
use Rattle.object_types.specs.References.{thread}
use Rattle.object_types.specs.Heap.{IsFinite}
use Rattle.method.specs.Legal.{Good}
use Rattle.method.specs.Typing.{WellTyped}
use Rattle.method.specs.Expressions.{End, Misfit, Failed, Gave}
use Rattle.method.specs.Actions.{Fresh}
use Rattle.method.specs.Machine.{State, Event, Turn, Next, IsStart, Safe, frames_of, with_frames, new_threads, next_number, thread_turn, answer_of, step, left_by, run}
use Rattle.method.specs.MachineLaws.{OnNext}
use Rattle.machine_laws.proofs.Legality.{frames_ok}
use Rattle.plain_machine.specs.PlainSteps.{Comes, Waits, Fails, Yields, PlainTurn, PlainState, PlainAnswer, plain_turn, plain_frames, plain_answer, plain_step, after_plain, plain_run}
use Rattle.plain_machine.specs.PlainSteps as plain
use Rattle.plain_machine.specs.Erasure.{plain_heap, plain_frame, plain_threads, erasure}
use Rattle.plain_machine.specs.GhostApart.{GhostApart}
use Rattle.plain_machine.specs.SafePlain.{NoFault, SamePlain}
use Rattle.safe_counter.proofs.Safe.{shared_is_safe}
use Rattle.erasure_law.specs.Laws.{concrete_frames}
use Rattle.erasure_law.proofs.ApartRuns.{of_thread}
use Rattle.erasure_law.proofs.Fits.{Fits, NotFailed}
use Rattle.erasure_law.proofs.Reached.{code_stays_apart, safe_good, frames_plain, turn_passes}
use Rattle.erasure_law.proofs.Samples.{counter_is_apart}
use Rattle.safe_counter.specs.Shared.{program as counter_program}
use Rattle.erasure_runs.specs.Laws.{SafeIsSafePlain, RunsAreErased, CounterIsSafePlain}
use Rattle.erasure_runs.proofs.SameSteps.{SameAnswer, step_same, step_finite, run_finite, erasure_finite}
use Rattle.erasure_runs.proofs.Reached.{Reached, reached}
use Rattle.erasure_runs.proofs.AbsentOwners.{reached_ok}
use Rattle.erasure_runs.proofs.StateSteps.{PlainNext, step_leads}
use Rattle.erasure_runs.proofs.Plainly.{same_onward, plainly}
use Rattle.erasure_runs.proofs.Awake.{awake}
use Rattle.erasure_runs.proofs.FullTurns.{Enabled, frames_full}

-- From the plain machine's step on a concrete item to one of the machine.

-- it is a fault or goes on
abbrev Responds : PlainAnswer → Type 0
Responds plain.NotEnabled = ⊥
Responds (plain.Faulted kind line) = Unit {0}
Responds (plain.Next s line) = Unit {0}

answer_enabled : (s : PlainState) (t : ℕ) (c : Comes PlainTurn) → Responds (plain_answer s t c) → Enabled c
answer_enabled s t Waits y = y
answer_enabled s t (Fails kind line) y = tt
answer_enabled s t (Yields turn) y = tt

turn_enabled : (p : Program) (s : State) (e : Event) → Responds (plain_step p (erasure p s) e) → Enabled (plain_turn p e.choices (map (plain_frame p) (frames_of e.thread s.threads)) (plain_heap p s.heap))
unfolding plain_step
turn_enabled p s e y =
    subst (λ fs. Enabled (plain_turn p e.choices fs (plain_heap p s.heap))) (frames_plain p e.thread s.threads)
    (answer_enabled (erasure p s) e.thread (plain_turn p e.choices (plain_frames e.thread (plain_threads p s.threads)) (plain_heap p s.heap)) y)

-- a thread without functions waits
ended_waits : (p : Program) (s : State) (e : Event) → frames_of e.thread s.threads ≡ [] → Responds (plain_step p (erasure p s) e) → ⊥
ended_waits p s e none y = subst (λ fs. Enabled (plain_turn p e.choices (map (plain_frame p) fs) (plain_heap p s.heap))) none (turn_enabled p s e y)

-- the state that a step goes on to
record GoesTo (p : Program) (s : State) (e : Event) : Type 0 where
  pub next : State
  pub line : ℕ
  pub is : step p s e ≡ Next next line

turn_goes : (p : Program) (s : State) (e : Event) (x : End Turn) → step p s e ≡ answer_of p s e.thread x → Fits x → NotFailed x → GoesTo p s e
turn_goes p s e Misfit is fit pass = absurd fit
turn_goes p s e (Failed n kind line) is fit pass = absurd pass
turn_goes p s e (Gave turn) is fit pass = record { next = record { heap = turn.heap; threads = with_frames e.thread turn.frames s.threads ++ new_threads p turn.started }; line = turn.line; is = is }

step_is : (p : Program) (s : State) (e : Event) → step p s e ≡ answer_of p s e.thread (thread_turn p (Fresh (next_number s.threads)) e.choices (frames_of e.thread s.threads) s.heap).end
unfolding step
step_is p s e = refl

run_more : (p : Program) (es : List Event) (e : Event) (s : State) → run p (es ++ e ∷ []) s ≡ left_by (run p es s) (step p (run p es s) e)
run_more p [] e s = refl
run_more p (d ∷ es) e s = run_more p es e (left_by s (step p s d))

-- events of the machine that lead where this answer does
record LeadsTo (p : Program) (start : State) (a : PlainAnswer) : Type 0 where
  pub events : List Event
  pub leads : PlainNext a (erasure p (run p events start))

goes_leads : (p : Program) (r : Reached p) (d : Event) (a : PlainAnswer) → GoesTo p (reached r) d → OnNext (step p (reached r) d) (λ s2. PlainNext a (erasure p s2)) → LeadsTo p r.start a
goes_leads p r d a go led = record {
  events = r.events ++ d ∷ [];
  leads = subst (λ (s2 : State). PlainNext a (erasure p s2)) (sym (run_more p r.events d r.start ∙ ap (left_by (reached r)) go.is)) (subst (λ b. OnNext b (λ s2. PlainNext a (erasure p s2))) go.is led);
}

step_back : (p : Program) (r : Reached p) (e : Event) → concrete_frames p (frames_of e.thread (reached r).threads) ≡ true → Responds (plain_step p (erasure p (reached r)) e) → LeadsTo p r.start (plain_step p (erasure p (reached r)) e)
step_back p r e k y =
    let s = reached r in
    let fs = frames_of e.thread s.threads in
    let a = plain_step p (erasure p s) e in
    let good = safe_good p r.events r.start (r.safe r.start r.is_start r.good) r.good in
    let w = frames_full p r.typed r.apart s.heap good (thread e.thread) (next_number s.threads) e.choices fs (frames_ok p r.typed e.thread s.threads (reached_ok p r).threads)
    (of_thread p r.typed r.apart e.thread s.threads (code_stays_apart p r.typed r.apart r.start r.is_start r.good r.events)) k (turn_enabled p s e y) in
    let d : Event = record e { choices = w.0 } in
    let go = turn_goes p s d (thread_turn p (Fresh (next_number s.threads)) w.0 fs s.heap).end (step_is p s d) w.1 (turn_passes p s d (r.safe r.start r.is_start r.good r.events d)) in
    goes_leads p r d a go (subst (λ cs. OnNext (step p s d) (λ s2. PlainNext (plain_step p (erasure p s) (record e { choices = cs })) (erasure p s2))) w.2 (step_leads p r d k))

-- One event.

-- Events of the machine that lead to the state behind this answer, without annotations, and the answer is no fault.
record Follows (p : Program) (start : State) (q : PlainState) (a : PlainAnswer) : Type 0 where
  pub events : List Event
  pub same : SamePlain (after_plain q a) (erasure p (run p events start))
  pub calm : NoFault a

follows_by : (p : Program) (start : State) (done : List Event) (q : PlainState) (a b : PlainAnswer) → SameAnswer a b → SamePlain q (erasure p (run p done start)) → (Responds b → LeadsTo p start b) → Follows p start q a
follows_by p start done q plain.NotEnabled plain.NotEnabled x same go = record { events = done; same = same; calm = tt }
follows_by p start done q plain.NotEnabled (plain.Faulted l m) x same go = absurd x
follows_by p start done q plain.NotEnabled (plain.Next t m) x same go = absurd x
follows_by p start done q (plain.Faulted k n) plain.NotEnabled x same go = absurd x
follows_by p start done q (plain.Faulted k n) (plain.Faulted l m) x same go = let w = go tt in absurd w.leads
follows_by p start done q (plain.Faulted k n) (plain.Next t m) x same go = absurd x
follows_by p start done q (plain.Next s n) plain.NotEnabled x same go = absurd x
follows_by p start done q (plain.Next s n) (plain.Faulted l m) x same go = absurd x
follows_by p start done q (plain.Next s n) (plain.Next t m) x same go = let w = go tt in record { events = w.events; same = same_onward s t (erasure p (run p w.events start)) x.0 w.leads; calm = tt }

event_follows : (p : Program) (r : Reached p) (q : PlainState) (e : Event) → IsFinite q.heap → SamePlain q (erasure p (reached r)) → Follows p r.start q (plain_step p q e)
event_follows p r q e finite same =
    let w = awake p r e.thread in
    let r1 : Reached p = record r { events = w.events } in
    let here = erasure p (reached r1) in
    let now = same_onward q (erasure p (reached r)) here same w.holds in
    follows_by p r.start w.events q (plain_step p q e) (plain_step p here e) (step_same p q here finite (erasure_finite p (reached r1) (reached_ok p r1).heap.heap_of.finite) now e) now
    (λ y. ⊎_elim (λ none. absurd (ended_waits p (reached r1) e none y)) (λ k. step_back p r1 e k y) w.rests)

-- All events.

back_from : (p : Program) (r : Reached p) (rest done : List Event) (q : PlainState) → IsFinite q.heap → SamePlain q (erasure p (run p done r.start)) → (events : List Event) × SamePlain (plain_run p rest q) (erasure p (run p events r.start))
back_from p r [] done q finite same = (done, same)
back_from p r (e ∷ rest) done q finite same =
    let x = event_follows p (record r { events = done }) q e finite same in
    back_from p r rest x.events (after_plain q (plain_step p q e)) (step_finite p q finite e) x.same

pub back : (p : Program) (r : Reached p) (plain_events : List Event) → (events : List Event) × SamePlain (plain_run p plain_events (erasure p r.start)) (erasure p (run p events r.start))
back p r plain_events = back_from p r plain_events [] (erasure p r.start) (erasure_finite p r.start r.good.well_formed.heap_of.finite) (record { heap = λ o. refl; threads = refl; skips = refl })

abbrev at_start : (p : Program) → WellTyped p → GhostApart p → Safe p → (s : State) → IsStart p s → Good p s.heap → Reached p
at_start p typed apart safe s start good = record { typed = typed; apart = apart; safe = safe; start = s; is_start = start; good = good; events = [] }

pub safe_is_safe_plain : SafeIsSafePlain
safe_is_safe_plain p typed apart safe s start good events e =
    let r = at_start p typed apart safe s start good in
    let b = back p r events in
    (event_follows p (record r { events = b.0 }) (plain_run p events (erasure p s)) e (run_finite p events (erasure p s) (erasure_finite p s good.well_formed.heap_of.finite)) b.1).calm

pub runs_are_erased : RunsAreErased
runs_are_erased p typed apart safe s start good =
    let r = at_start p typed apart safe s start good in
    record { plainly = λ events. plainly p (record r { events = events }); back = λ plain_events. back p r plain_events }

pub counter_is_safe_plain : CounterIsSafePlain
counter_is_safe_plain m = let x = shared_is_safe m in safe_is_safe_plain (counter_program m) x.typed (counter_is_apart m) x.safe

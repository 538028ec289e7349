-- What holds in the states that runs reach.
use Rattle.std.proofs.Common.{◌≡◌, ℕ, ◌==◌, Bool, true, false, cond, List, [], ◌∷◌, map, refl, sym, subst}
use Rattle.method.specs.declared.program.Program.{Program}
use Rattle.object_types.specs.References.{thread}
use Rattle.method.specs.Legal.{Good}
use Rattle.method.specs.Expressions.{End, Misfit, Failed, Gave}
use Rattle.method.specs.Actions.{Fresh}
use Rattle.method.specs.Machine.{State, Event, Thread, Turn, Answer, NotEnabled, Faulted, Next, IsFine, frames_of, next_number, thread_turn, answer_of, step, left_by, run}
use Rattle.machine_laws.proofs.Legality.{frames_ok, run_ok, start_ok}
use Rattle.plain_machine.specs.PlainSteps.{Comes, Waits, Fails, Yields, PlainTurn, PlainState, plain_frames, plain_turn, plain_answer, plain_step}
use Rattle.plain_machine.specs.Erasure.{plain_heap, plain_frame, plain_threads, erasure}
use Rattle.plain_machine.specs.SafePlain.{NoFault}
use Rattle.erasure_law.specs.Laws.{CodeStaysApart, ConcreteTurnsLead, ConcreteStepsAreSafe}
use Rattle.erasure_law.proofs.Fits.{NotFailed, Calm}
use Rattle.erasure_law.proofs.ApartRuns.{of_thread, run_apart, start_apart}
use Rattle.erasure_law.proofs.AllTurns.{frames_lead_all, frames_calm_all}

pub code_stays_apart : CodeStaysApart
code_stays_apart p typed apart s start good events = run_apart p typed apart events s (start_ok p typed s start good) (start_apart p typed apart s start good)

pub concrete_turns_lead : ConcreteTurnsLead
concrete_turns_lead p typed apart s start good events good' e d =
    let s' = run p events s in
    let ok = run_ok p typed events s (start_ok p typed s start good) in
    frames_lead_all p typed apart s'.heap good' (thread e.thread) (next_number s'.threads) e.choices (frames_of e.thread s'.threads) (frames_ok p typed e.thread s'.threads ok.threads) (of_thread p typed apart e.thread s'.threads (code_stays_apart p typed apart s start good events)) d

-- each step from here on is fine
abbrev pub SafeFrom : Program → State → Type 0
SafeFrom p s = (events : List Event) (e : Event) → let s' = run p events s in IsFine p s' (step p s' e)

good_left : (p : Program) (s : State) (a : Answer) → Good p s.heap → IsFine p s a → Good p (left_by s a).heap
good_left p s NotEnabled good x = good
good_left p s (Faulted kind line) good x = absurd x
good_left p s (Next s' line) good x = x.1

pub safe_good : (p : Program) (events : List Event) (s : State) → SafeFrom p s → Good p s.heap → Good p (run p events s).heap
safe_good p [] s safe good = good
safe_good p (e ∷ es) s safe good = safe_good p es (left_by s (step p s e)) (λ more e2. safe (e ∷ more) e2) (good_left p s (step p s e) good (safe [] e))

pub frames_plain : (p : Program) (t : ℕ) (ths : List Thread) → plain_frames t (plain_threads p ths) ≡ map (plain_frame p) (frames_of t ths)
frames_plain p t [] = refl
frames_plain p t (x ∷ xs) = by (x.number == t) (frames_plain p t xs)
  where
    by : (b : Bool) → plain_frames t (plain_threads p xs) ≡ map (plain_frame p) (frames_of t xs) → cond b (map (plain_frame p) x.frames) (plain_frames t (plain_threads p xs)) ≡ map (plain_frame p) (cond b x.frames (frames_of t xs))
    by true e = refl
    by false e = e

fine_passes : (p : Program) (s : State) (t : ℕ) (e : End Turn) → IsFine p s (answer_of p s t e) → NotFailed e
fine_passes p s t Misfit x = tt
fine_passes p s t (Failed n kind line) x = absurd x
fine_passes p s t (Gave turn) x = tt

-- a safe step's turn is no fault
pub turn_passes : (p : Program) (s : State) (e : Event) → IsFine p s (step p s e) → NotFailed (thread_turn p (Fresh (next_number s.threads)) e.choices (frames_of e.thread s.threads) s.heap).end
unfolding step
turn_passes p s e x = fine_passes p s e.thread (thread_turn p (Fresh (next_number s.threads)) e.choices (frames_of e.thread s.threads) s.heap).end x

calm_answer : (s : PlainState) (t : ℕ) (c : Comes PlainTurn) → Calm c → NoFault (plain_answer s t c)
calm_answer s t Waits x = tt
calm_answer s t (Fails kind line) x = absurd x
calm_answer s t (Yields turn) x = tt

calm_step : (p : Program) (s : State) (e : Event) → Calm (plain_turn p e.choices (map (plain_frame p) (frames_of e.thread s.threads)) (plain_heap p s.heap)) → NoFault (plain_step p (erasure p s) e)
unfolding plain_step
calm_step p s e x = calm_answer (erasure p s) e.thread (plain_turn p e.choices (plain_frames e.thread (plain_threads p s.threads)) (plain_heap p s.heap)) (subst (λ fs. Calm (plain_turn p e.choices fs (plain_heap p s.heap))) (sym (frames_plain p e.thread s.threads)) x)

pub concrete_steps_are_safe : ConcreteStepsAreSafe
concrete_steps_are_safe p typed apart safe s start good events e d =
    let s' = run p events s in
    let ok = run_ok p typed events s (start_ok p typed s start good) in
    let good' = safe_good p events s (safe s start good) good in
    calm_step p s' e
    (frames_calm_all p typed apart s'.heap good' (thread e.thread) (next_number s'.threads) e.choices (frames_of e.thread s'.threads) (frames_ok p typed e.thread s'.threads ok.threads) (of_thread p typed apart e.thread s'.threads (code_stays_apart p typed apart s start good events)) d
    (λ choices. turn_passes p s' (record e { choices = choices }) (safe s start good events (record e { choices = choices }))))

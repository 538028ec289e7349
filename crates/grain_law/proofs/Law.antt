-- A run in fine steps is a run of the machine in which each item stands at its last event.
use Rattle.std.proofs.Common.{◌≡◌, ◌≢◌, ℕ, ◌==◌, Bool, true, false, ◌||◌, List, [], ◌∷◌, ◌++◌, ◌⊎◌, inl, inr, ⊎_elim, refl, sym, ap, ◌∙◌, subst, if◌then◌else◌}
use Rattle.std.proofs.lemmas.Bool.{both_ways, eqb-true, eq-eqb}
use Rattle.object_types.specs.declared.references.Ref.{Ref}
use Rattle.object_types.specs.declared.values.Value.{Value}
use Rattle.object_types.specs.declared.records.Mode.{Mode}
use Rattle.object_types.specs.declared.records.Mode.TheVariants.{Absent, Open, Closed, Freed}
use Rattle.method.specs.declared.program.Program.{Program}
use Rattle.object_types.specs.References.{thread}
use Rattle.object_types.specs.Heap.{Heap, is_open, is_closed}
use Rattle.method.specs.Legal.{Good}
use Rattle.method.specs.Rely.{Rely}
use Rattle.method.specs.Typing.{WellTyped}
use Rattle.method.specs.Expressions.{End, Misfit, Failed, Gave}
use Rattle.method.specs.Actions.{Fresh, no_choices}
use Rattle.method.specs.Machine.{Activation, Thread, State, Turn, Event, NotEnabled, Next, turn_of, thread_turn, frames_of, with_frames, next_number, new_threads, answer_of, step, left_by, run, IsStart, IsFine, Safe}
use Rattle.method.specs.MachineLaws.{OnNext, has_thread}
use Rattle.machine_laws.proofs.Typed.{or_left, or_right, or_cases}
use Rattle.machine_laws.proofs.Frames.{FramesOk}
use Rattle.machine_laws.proofs.Legality.{StateOk, frames_ok, start_ok, run_ok}
use Rattle.machine_laws.proofs.Reliance.{steps_are_relied}
use Rattle.modular_law.proofs.Law.{has_frames}
use Rattle.conditions_law.proofs.Safety.{conditions_mean_safe}
use Rattle.grain_law.specs.FieldReads.{Reading, Refuses, Reads, Ends}
use Rattle.grain_law.specs.Plans.{Finish, item_fits, item_line, turn_plan}
use Rattle.grain_law.specs.FineSteps.{FineState, FineStep, with_reads, next_by, next_state, end_step, frames_step, fine_step, fine_run, fine_start}
use Rattle.grain_law.specs.Laws.{SafeIsSafeInFineSteps, FineRunsAreRuns, ConditionsMeanSafeInFineSteps}
use Rattle.grain_law.proofs.Traces.{Fails, InTurn, one_more}
use Rattle.grain_law.proofs.Items.{Sound, works, reading, reading_sound, comes_from, can_fit}
use Rattle.grain_law.proofs.Others.{reads_stay}

-- A step that leaves all as it is.

closed_not_open : (m : Mode) → is_closed m ≡ true → is_open m ≡ false
closed_not_open Absent e = refl
closed_not_open Open e = absurd (both_ways false refl e)
closed_not_open Closed e = refl
closed_not_open Freed e = refl

rests : (p : Program) (s : State) (line : ℕ) → Good p s.heap → IsFine p s (Next s line)
rests p s line good = (
  record {
    well_formed = record { before = good.well_formed.heap_of; after = good.well_formed; fixed = λ o b c. record { fields = λ f e. refl; owned = λ e. refl; listed = refl; shapes = refl } };
    all = λ o c. good.all o (⊎_elim (λ x. x) (λ x. x) c);
  },
  good,
  λ o n c. closed_not_open (s.heap.get o).mode c,
)

-- Threads that don't step.

module _ (u t : ℕ) (fs : List Activation) (more : List Thread) (differ : u ≢ t) where
  abbrev after_step : List Thread → List Thread
  after_step ths = with_frames t fs ths ++ more

  frames_stay : (ths : List Thread) → has_thread u ths ≡ true → frames_of u (after_step ths) ≡ frames_of u ths
  frames_stay [] there = absurd (both_ways false refl there)
  frames_stay (x ∷ xs) there = by (x.number == t) (x.number == u) refl refl there (frames_stay xs)
    where
      by :
          (b c : Bool) → (x.number == t) ≡ b → (x.number == u) ≡ c → c || has_thread u xs ≡ true → (has_thread u xs ≡ true → frames_of u (after_step xs) ≡ frames_of u xs) →
          frames_of u ((if b then record x { frames = fs } else x) ∷ after_step xs) ≡ (if c then x.frames else frames_of u xs)
      by true true d e z ih = absurd (differ (sym (eqb-true x.number u e) ∙ eqb-true x.number t d))
      by true false d e z ih = ap (λ b. if b then fs else frames_of u (after_step xs)) e ∙ ih z
      by false true d e z ih = ap (λ b. if b then x.frames else frames_of u (after_step xs)) e
      by false false d e z ih = ap (λ b. if b then x.frames else frames_of u (after_step xs)) e ∙ ih z

  thread_stays : (ths : List Thread) → has_thread u ths ≡ true → has_thread u (after_step ths) ≡ true
  thread_stays [] there = absurd (both_ways false refl there)
  thread_stays (x ∷ xs) there = by (x.number == t) (or_cases (x.number == u) (has_thread u xs) there) (thread_stays xs)
    where
      by : (b : Bool) → ((x.number == u) ≡ true) ⊎ (has_thread u xs ≡ true) → (has_thread u xs ≡ true → has_thread u (after_step xs) ≡ true) → has_thread u ((if b then record x { frames = fs } else x) ∷ after_step xs) ≡ true
      by true (inl e) ih = or_left (x.number == u) (has_thread u (after_step xs)) e
      by true (inr e) ih = or_right (x.number == u) (has_thread u (after_step xs)) (ih e)
      by false (inl e) ih = or_left (x.number == u) (has_thread u (after_step xs)) e
      by false (inr e) ih = or_right (x.number == u) (has_thread u (after_step xs)) (ih e)

-- What a thread has read for its next item is what it would read now.

abbrev OnFrames : Program → Heap → List Value → List Activation → Type 0
OnFrames p h us [] = ⊥
OnFrames p h us (a ∷ below) = InTurn (works p a a.code below h) us

record Current (p : Program) (s : State) (t : ℕ) (us : List Value) : Type 0 where
  there : has_thread t s.threads ≡ true
  now : OnFrames p s.heap us (frames_of t s.threads)

abbrev IsCurrent : Program → State → ℕ → List Value → Type 0
IsCurrent p s t us = (us ≡ []) ⊎ Current p s t us

frames_current : (p : Program) (typed : WellTyped p) (t : Ref) (h k : Heap) → Rely p t h k → (us : List Value) (fs : List Activation) → FramesOk p typed t fs → OnFrames p h us fs → OnFrames p k us fs
frames_current p typed t h k r us [] ok x = x
frames_current p typed t h k r us (a ∷ below) ok x = reads_stay p a.context h k (subst (λ t. Rely p t h k) (sym ok.0.me_is) r) (item_line p a a.code) a.locals (turn_plan p a a.code below) us x

all_current : (p : Program) (s : State) (a : Activation) (below : List Activation) (t : ℕ) (us : List Value) → frames_of t s.threads ≡ a ∷ below → IsCurrent p s t us → InTurn (works p a a.code below s.heap) us
all_current p s a below t us e (inl x) = subst (InTurn (works p a a.code below s.heap)) (sym x) tt
all_current p s a below t us e (inr x) = subst (OnFrames p s.heap us) e x.now

record FineOk (p : Program) (s0 : State) (f : FineState) : Type 0 where
  events : List Event
  is : f.state ≡ run p events s0
  good : Good p f.state.heap
  current : (t : ℕ) → IsCurrent p f.state t (f.reads t)

start_fine : (p : Program) (s : State) → Good p s.heap → FineOk p s (fine_start s)
start_fine p s good = record { events = []; is = refl; good = good; current = λ t. inl refl }

run_more : (p : Program) (es : List Event) (e : Event) (s : State) → run p (es ++ e ∷ []) s ≡ left_by (run p es s) (step p (run p es s) e)
run_more p [] e s = refl
run_more p (d ∷ es) e s = run_more p es e (left_by s (step p s d))

pub step_is : (p : Program) (s : State) (e : Event) → step p s e ≡ answer_of p s e.thread (thread_turn p (Fresh (next_number s.threads)) e.choices (frames_of e.thread s.threads) s.heap).end
unfolding step
step_is p s e = refl

no_fault : (p : Program) (s : State) (t : ℕ) (z : End Turn) → IsFine p s (answer_of p s t z) → Fails z → ⊥
no_fault p s t Misfit fine x = x
no_fault p s t (Failed n kind line) fine x = fine
no_fault p s t (Gave turn) fine x = x

module _ (p : Program) (typed : WellTyped p) (safe : Safe p) (s0 : State) (start : IsStart p s0) (good0 : Good p s0.heap) where
  module _ (f : FineState) (ok : FineOk p s0 f) (e : Event) where
    machine_fine : (cs : List Value) → IsFine p f.state (step p f.state (record { thread = e.thread; choices = cs }))
    machine_fine cs = subst (λ s. IsFine p s (step p s (record { thread = e.thread; choices = cs }))) (sym ok.is) (safe s0 start good0 ok.events (record { thread = e.thread; choices = cs }))

    state_ok : StateOk p typed f.state
    state_ok = subst (StateOk p typed) (sym ok.is) (run_ok p typed ok.events s0 (start_ok p typed s0 start good0))

    abbrev Relied : State → State → Type 0
    Relied s s2 = Good p s2.heap → (t : ℕ) → t ≢ e.thread → (has_thread t s2.threads ≡ true → has_thread t s.threads ≡ true) → Rely p (thread t) s.heap s2.heap

    relied : OnNext (step p f.state e) (Relied f.state)
    relied = subst (λ s. Good p s.heap → OnNext (step p s e) (Relied s)) (sym ok.is) (steps_are_relied p typed s0 start good0 ok.events e) ok.good

    -- where the event was the item's last
    next_ok :
        (z : End Turn) → step p f.state e ≡ answer_of p f.state e.thread z → IsFine p f.state (answer_of p f.state e.thread z) → OnNext (answer_of p f.state e.thread z) (Relied f.state) →
        FineOk p s0 (next_by f (answer_of p f.state e.thread z) (with_reads e.thread [] f.reads))
    next_ok Misfit is fine rely = ok
    next_ok (Failed n kind line) is fine rely = ok
    next_ok (Gave turn) is fine rely = record {
      events = ok.events ++ e ∷ [];
      is = sym (run_more p ok.events e s0 ∙ ap (λ s. left_by s (step p s e)) (sym ok.is) ∙ ap (left_by f.state) is);
      good = fine.1;
      current = λ u. by u (u == e.thread) refl (ok.current u);
    }
      where
        s2 : State
        s2 = record { heap = turn.heap; threads = with_frames e.thread turn.frames f.state.threads ++ new_threads p turn.started }

        stays : (u : ℕ) → u ≢ e.thread → Current p f.state u (f.reads u) → Current p s2 u (f.reads u)
        stays u differ x = record {
          there = thread_stays u e.thread turn.frames (new_threads p turn.started) differ f.state.threads x.there;
          now = subst (OnFrames p turn.heap (f.reads u)) (sym (frames_stay u e.thread turn.frames (new_threads p turn.started) differ f.state.threads x.there))
              (frames_current p typed (thread u) f.state.heap turn.heap (rely fine.1 u differ (λ z. x.there)) (f.reads u) (frames_of u f.state.threads) (frames_ok p typed u f.state.threads state_ok.threads) x.now);
        }

        by : (u : ℕ) (b : Bool) → (u == e.thread) ≡ b → IsCurrent p f.state u (f.reads u) → IsCurrent p s2 u (if b then [] else f.reads u)
        by u true d x = inl refl
        by u false d (inl x) = inl x
        by u false d (inr x) = inr (stays u (λ same. both_ways (u == e.thread) d (eq-eqb u e.thread same)) x)

    abbrev Both : FineStep → Type 0
    Both step = IsFine p f.state step.answer × FineOk p s0 (next_state f step)

    module _ (a : Activation) (below : List Activation) (frames : frames_of e.thread f.state.threads ≡ a ∷ below) where
      abbrev turn : List Value → End Turn
      turn cs = (turn_of p (Fresh (next_number f.state.threads)) cs a a.code below f.state.heap).end

      step_turn : (cs : List Value) → step p f.state (record { thread = e.thread; choices = cs }) ≡ answer_of p f.state e.thread (turn cs)
      step_turn cs = step_is p f.state (record { thread = e.thread; choices = cs }) ∙ ap (λ fs. answer_of p f.state e.thread (thread_turn p (Fresh (next_number f.state.threads)) cs fs f.state.heap).end) frames

      turn_fine : (cs : List Value) → IsFine p f.state (answer_of p f.state e.thread (turn cs))
      turn_fine cs = subst (IsFine p f.state) (step_turn cs) (machine_fine cs)

      now : InTurn (works p a a.code below f.state.heap) (f.reads e.thread)
      now = all_current p f.state a below e.thread (f.reads e.thread) frames (ok.current e.thread)

      sound : (cs : List Value) → item_fits p a a.code cs ≡ true → Sound (Fresh (next_number f.state.threads)) cs f.state.heap (turn cs) (reading p a a.code below f.state.heap (f.reads e.thread)).end
      sound cs fits = reading_sound p a a.code below f.state.heap (Fresh (next_number f.state.threads)) cs (f.reads e.thread) fits now (no_fault p f.state e.thread (turn cs) (turn_fine cs))

      read_ok : (v : Value) → (reading p a a.code below f.state.heap (f.reads e.thread)).end ≡ Gave (Reads v) → FineOk p s0 (record { state = f.state; reads = with_reads e.thread (f.reads e.thread ++ v ∷ []) f.reads })
      read_ok v is = record { events = ok.events; is = ok.is; good = ok.good; current = λ u. by u (u == e.thread) refl }
        where
          by : (u : ℕ) (b : Bool) → (u == e.thread) ≡ b → IsCurrent p f.state u (if b then f.reads e.thread ++ v ∷ [] else f.reads u)
          by u true d = subst (λ t. IsCurrent p f.state t (f.reads e.thread ++ v ∷ [])) (sym (eqb-true u e.thread d)) (inr (record {
            there = has_frames e.thread f.state.threads a below frames;
            now = subst (OnFrames p f.state.heap (f.reads e.thread ++ v ∷ [])) (sym frames)
                (one_more (works p a a.code below f.state.heap) (f.reads e.thread) v now (comes_from p a a.code below f.state.heap (f.reads e.thread) v is));
          }))
          by u false d = ok.current u

      last_ok : (finish : Finish) (us : List Value) → item_fits p a a.code e.choices ≡ true → (reading p a a.code below f.state.heap (f.reads e.thread)).end ≡ Gave (Ends finish us) →
          Both (record { answer = answer_of p f.state e.thread (finish (Fresh (next_number f.state.threads)) e.choices f.state.heap).end; reads = with_reads e.thread [] f.reads })
      last_ok finish us fits is =
          let same : turn e.choices ≡ (finish (Fresh (next_number f.state.threads)) e.choices f.state.heap).end = subst (Sound (Fresh (next_number f.state.threads)) e.choices f.state.heap (turn e.choices)) is (sound e.choices fits) in
          let steps = step_turn e.choices ∙ ap (answer_of p f.state e.thread) same in
          let fine = subst (IsFine p f.state) steps (machine_fine e.choices) in
          (fine, next_ok (finish (Fresh (next_number f.state.threads)) e.choices f.state.heap).end steps fine (subst (λ x. OnNext x (Relied f.state)) steps relied))

      refused_not : (reading p a a.code below f.state.heap (f.reads e.thread)).end ≡ Gave Refuses → ⊥
      refused_not is = let c = can_fit p a a.code below f.state.heap (f.reads e.thread) is in subst (Sound (Fresh (next_number f.state.threads)) c.0 f.state.heap (turn c.0)) is (sound c.0 c.1)

      item_ok : (r : End (Reading Finish)) (fits bare : Bool) → (reading p a a.code below f.state.heap (f.reads e.thread)).end ≡ r → item_fits p a a.code e.choices ≡ fits → no_choices e.choices ≡ bare → Both (end_step p f e.thread e.choices fits (item_line p a a.code) r)
      item_ok Misfit fits bare is fit none = (tt, ok)
      item_ok (Failed n kind line) true bare is fit none = absurd (subst (Sound (Fresh (next_number f.state.threads)) e.choices f.state.heap (turn e.choices)) is (sound e.choices fit))
      item_ok (Failed n kind line) false bare is fit none = (tt, ok)
      item_ok (Gave Refuses) fits bare is fit none = absurd (refused_not is)
      item_ok (Gave (Reads v)) fits true is fit none =
          subst (λ b. Both (if b then record { answer = Next f.state (item_line p a a.code); reads = with_reads e.thread (f.reads e.thread ++ v ∷ []) f.reads } else record { answer = NotEnabled; reads = f.reads })) (sym none)
          (rests p f.state (item_line p a a.code) ok.good, read_ok v is)
      item_ok (Gave (Reads v)) fits false is fit none =
          subst (λ b. Both (if b then record { answer = Next f.state (item_line p a a.code); reads = with_reads e.thread (f.reads e.thread ++ v ∷ []) f.reads } else record { answer = NotEnabled; reads = f.reads })) (sym none) (tt, ok)
      item_ok (Gave (Ends finish us)) true bare is fit none = last_ok finish us fit is
      item_ok (Gave (Ends finish us)) false bare is fit none = (tt, ok)

    frames_fine : (fs : List Activation) → frames_of e.thread f.state.threads ≡ fs → Both (frames_step p f e fs)
    frames_fine [] frames = (tt, ok)
    frames_fine (a ∷ below) frames = item_ok a below frames _ _ _ refl refl refl

    step_fine : Both (fine_step p f e)
    step_fine = frames_fine (frames_of e.thread f.state.threads) refl

  run_fine : (es : List Event) (f : FineState) → FineOk p s0 f → FineOk p s0 (fine_run p es f)
  run_fine [] f ok = ok
  run_fine (e ∷ es) f ok = run_fine es (next_state f (fine_step p f e)) (step_fine f ok e).1

pub safe_is_safe_in_fine_steps : SafeIsSafeInFineSteps
safe_is_safe_in_fine_steps p typed safe s start good events e = (step_fine p typed safe s start good (fine_run p events (fine_start s)) (run_fine p typed safe s start good events (fine_start s) (start_fine p s good)) e).0

pub fine_runs_are_runs : FineRunsAreRuns
fine_runs_are_runs p typed safe s start good events = let ok = run_fine p typed safe s start good events (fine_start s) (start_fine p s good) in (ok.events, ok.is)

pub conditions_mean_safe_in_fine_steps : ConditionsMeanSafeInFineSteps
conditions_mean_safe_in_fine_steps p typed scoped text valid = safe_is_safe_in_fine_steps p typed (conditions_mean_safe p typed scoped text valid)

-- From a state that a run of a safe program reaches, a thread that is about to do a silent item can do it, and then less is silent in front of its next concrete one.
use Rattle.std.proofs.Common.{◌≡◌, ◌≢◌, ℕ, ◌<◌, ◌==◌, Bool, true, false, cond, not, List, [], ◌∷◌, ◌++◌, Option, refl, sym, subst}
use Rattle.object_types.specs.declared.values.Value.{Value}
use Rattle.method.specs.declared.program.FunctionInfo.{FunctionInfo}
use Rattle.method.specs.declared.program.Program.{Program}
use Rattle.object_types.specs.References.{thread}
use Rattle.method.specs.Typing.{WellTyped}
use Rattle.method.specs.Expressions.{End, Misfit, Failed, Gave}
use Rattle.method.specs.Actions.{Fresh}
use Rattle.method.specs.Machine.{Activation, Thread, State, Event, Turn, Next, IsFine, frames_of, with_frames, new_threads, next_number, thread_turn, answer_of, step}
use Rattle.machine_laws.proofs.Outcomes.{OnEnd}
use Rattle.machine_laws.proofs.Frames.{FramesOk}
use Rattle.machine_laws.proofs.Legality.{frames_ok, run_ok, start_ok}
use Rattle.erasure_law.specs.Laws.{silent, concrete_code, concrete_frames}
use Rattle.erasure_law.proofs.Fits.{Fits, NotFailed}
use Rattle.erasure_law.proofs.Reached.{turn_passes}
use Rattle.erasure_runs.proofs.Reached.{Reached, reached}
pub use Rattle.erasure_runs.proofs.SilentSizes.{silent_size}
use Rattle.erasure_runs.proofs.SilentSizes.{turn_less}
use Rattle.erasure_runs.proofs.SilentFits.{code_takes, turn_fits}

-- with some choices the thread's next item goes on, and less is silent in front of its next concrete item
pub record Goes (p : Program) (s : State) (t : ℕ) : Type 0 where
  pub choices : List Value
  pub next : State
  pub line : ℕ
  pub is : step p s (record { thread = t; choices = choices }) ≡ Next next line
  pub less : silent_size (frames_of t next.threads) < silent_size (frames_of t s.threads)

-- a thread of the state has the frames that it is given
frames_given : (t : ℕ) (fs : List Activation) (ths more : List Thread) → frames_of t ths ≢ [] → frames_of t (with_frames t fs ths ++ more) ≡ fs
frames_given t fs [] more there = absurd (there refl)
frames_given t fs (x ∷ xs) more there = by (x.number == t) refl there (frames_given t fs xs more)
  where
    by : (b : Bool) → (x.number == t) ≡ b → cond b x.frames (frames_of t xs) ≢ [] → (frames_of t xs ≢ [] → frames_of t (with_frames t fs xs ++ more) ≡ fs) →
        cond ((cond b (record x { frames = fs }) x).number == t) (cond b (record x { frames = fs }) x).frames (frames_of t (with_frames t fs xs ++ more)) ≡ fs
    by true e k go = subst (λ b. cond b fs (frames_of t (with_frames t fs xs ++ more)) ≡ fs) (sym e) refl
    by false e k go = subst (λ b. cond b x.frames (frames_of t (with_frames t fs xs ++ more)) ≡ fs) (sym e) (go k)

-- a turn that fits and is no fault is a step
goes_on : (p : Program) (s : State) (t : ℕ) (choices : List Value) → frames_of t s.threads ≢ [] → (e : End Turn) → step p s (record { thread = t; choices = choices }) ≡ answer_of p s t e →
    Fits e → NotFailed e → OnEnd e (λ turn. silent_size turn.frames < silent_size (frames_of t s.threads)) → Goes p s t
goes_on p s t choices there Misfit is fit pass less = absurd fit
goes_on p s t choices there (Failed n kind line) is fit pass less = absurd pass
goes_on p s t choices there (Gave turn) is fit pass less = record {
  choices = choices;
  next = record { heap = turn.heap; threads = with_frames t turn.frames s.threads ++ new_threads p turn.started };
  line = turn.line;
  is = is;
  less = subst (λ fs. silent_size fs < silent_size (frames_of t s.threads)) (sym (frames_given t turn.frames s.threads (new_threads p turn.started) there)) less;
}

step_is : (p : Program) (s : State) (e : Event) → step p s e ≡ answer_of p s e.thread (thread_turn p (Fresh (next_number s.threads)) e.choices (frames_of e.thread s.threads) s.heap).end
unfolding step
step_is p s e = refl

so_silent : (b : Bool) → not b ≡ false → b ≡ true
so_silent true e = refl
so_silent false e = sym e

-- the thread's frames, one of which runs
thread_goes : (p : Program) (typed : WellTyped p) (s : State) (t : ℕ) → ((e : Event) → IsFine p s (step p s e)) → (fs : List Activation) → frames_of t s.threads ≡ fs → fs ≢ [] → FramesOk p typed (thread t) fs → concrete_frames p fs ≡ false → Goes p s t
thread_goes p typed s t fine [] is there ok k = absurd (there refl)
thread_goes p typed s t fine (a ∷ below) is there ok k =
    let f = ok.0.info in
    let number = next_number s.threads in
    let choices = code_takes f a.code in
    let event : Event = record { thread = t; choices = choices } in
    let so = so_silent (silent p f a.code) (subst (λ (o : Option FunctionInfo). concrete_code p o a.code ≡ false) ok.0.is k) in
    goes_on p s t choices (subst (λ fs. fs ≢ []) (sym is) there) (thread_turn p (Fresh number) choices (frames_of t s.threads) s.heap).end (step_is p s event)
    (subst (λ fs. Fits (thread_turn p (Fresh number) choices fs s.heap).end) (sym is) (turn_fits p f a ok.0.is below s.heap number a.code ok.0.code_ok so))
    (turn_passes p s event (fine event))
    (subst (λ fs. OnEnd (thread_turn p (Fresh number) choices fs s.heap).end (λ turn. silent_size turn.frames < silent_size fs)) (sym is) (turn_less p f (Fresh number) choices a below s.heap a.code so))

pub silent_goes : (p : Program) (r : Reached p) (t : ℕ) → frames_of t (reached r).threads ≢ [] → concrete_frames p (frames_of t (reached r).threads) ≡ false → Goes p (reached r) t
silent_goes p r t there k =
    let ok = run_ok p r.typed r.events r.start (start_ok p r.typed r.start r.is_start r.good) in
    thread_goes p r.typed (reached r) t (r.safe r.start r.is_start r.good r.events) (frames_of t (reached r).threads) refl there (frames_ok p r.typed t (reached r).threads ok.threads) k

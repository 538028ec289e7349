-- Every step of a run is legal.
use Rattle.std.proofs.Common.{ℕ, Bool, true, false, cond, ◌==◌, refl, sym, subst, List, [], ◌∷◌, ◌++◌, ⊎_elim, ◌≡◌, ap}
use Rattle.object_types.specs.declared.values.Value.{Value}
use Rattle.method.specs.declared.program.Program.{Program}
use Rattle.object_types.specs.References.{thread, same_ref, is_thread}
use Rattle.object_types.specs.Heap.{Heap}
use Rattle.method.specs.WellFormed.{WellFormed}
use Rattle.method.specs.Legal.{Legal, Good}
use Rattle.method.specs.Typing.{WellTyped}
use Rattle.method.specs.Expressions.{End, Misfit, Failed, Gave, Context}
use Rattle.method.specs.Actions.{Supply, Fresh, Picked, callee}
use Rattle.method.specs.Machine.{Activation, Thread, State, Turn, Event, Answer, NotEnabled, Faulted, Next, frames_of, with_frames, next_number, new_threads, answer_of, step_with, step, left_by, run, thread_turn, begin, IsStart}
use Rattle.method.specs.MachineLaws.{OnNext, Choice, step_any, run_with, StepsAreLegal, has_thread}
use Rattle.machine_laws.specs.Laws.{AnyStepsAreLegal}
use Rattle.machine_laws.proofs.Outcomes.{OnEnd, OnGave}
use Rattle.machine_laws.proofs.Acts.{IsBegun, AllBegun, among, FromSupply}
use Rattle.machine_laws.proofs.Frames.{FramesOk, ThreadsOk, begin_frame}
use Rattle.machine_laws.proofs.Turns.{TurnOk, AllHold, turn_gave}
use Rattle.machine_laws.proofs.Apart.{Apart}
use Rattle.object_types.specs.Sets.{some}
use Rattle.std.proofs.lemmas.Bool.{eqb-true, eq-eqb}
use Rattle.machine_laws.proofs.Typed.{or_left, or_right, or_cases}
use Rattle.method.proofs.Global.{same_ref_is}
use Rattle.object_types.specs.declared.references.Ref.{Ref}
use Rattle.machine_laws.proofs.Parts.{Unopened}

-- what holds in each state that a run reaches
pub record StateOk (p : Program) (typed : WellTyped p) (s : State) : Type 0 where
  pub heap : WellFormed p s.heap
  pub threads : ThreadsOk p typed s.threads

pub frames_ok : (p : Program) (typed : WellTyped p) (t : ℕ) (ths : List Thread) → ThreadsOk p typed ths → FramesOk p typed (thread t) (frames_of t ths)
frames_ok p typed t [] o = tt
frames_ok p typed t (x ∷ xs) o = by (x.number == t) refl (frames_ok p typed t xs o.1)
  where
    by : (b : Bool) → (x.number == t) ≡ b → FramesOk p typed (thread t) (frames_of t xs) → FramesOk p typed (thread t) (cond b x.frames (frames_of t xs))
    by true e r = subst (λ n. FramesOk p typed (thread n) x.frames) (eqb-true x.number t e) o.0
    by false e r = r

with_ok : (p : Program) (typed : WellTyped p) (t : ℕ) (fs : List Activation) (ths : List Thread) → FramesOk p typed (thread t) fs → ThreadsOk p typed ths → ThreadsOk p typed (with_frames t fs ths)
with_ok p typed t fs [] f o = tt
with_ok p typed t fs (x ∷ xs) f o = (by (x.number == t) refl, with_ok p typed t fs xs f o.1)
  where
    by : (b : Bool) → (x.number == t) ≡ b → FramesOk p typed (thread (cond b (record x { frames = fs }) x).number) (cond b (record x { frames = fs }) x).frames
    by true e = subst (λ n. FramesOk p typed (thread n) fs) (sym (eqb-true x.number t e)) f
    by false e = o.0

both_ok : (p : Program) (typed : WellTyped p) (xs ys : List Thread) → ThreadsOk p typed xs → ThreadsOk p typed ys → ThreadsOk p typed (xs ++ ys)
both_ok p typed [] ys a b = b
both_ok p typed (x ∷ xs) ys a b = (a.0, both_ok p typed xs ys a.1 b)

-- a thread's reference is that of its serial
its_serial : (w : Ref) → is_thread w ≡ true → w ≡ thread w.serial
its_serial w e = let k : w.ty ≡ 1 = eqb-true w.ty 1 e in λ i. record { ty = k i; serial = w.serial }

begun_ok : (p : Program) (typed : WellTyped p) (me : Ref) (x : Context) → x.me ≡ me → IsBegun p x → FramesOk p typed me (begin p x ∷ [])
begun_ok p typed me x e b = ((begin_frame p typed me x e b).0, tt)

new_ok : (p : Program) (typed : WellTyped p) (xs : List Context) → AllBegun p xs → ThreadsOk p typed (new_threads p xs)
new_ok p typed [] b = tt
new_ok p typed (x ∷ xs) b = (begun_ok p typed (thread x.me.serial) x (its_serial x.me b.0.thread) b.0, new_ok p typed xs b.1)

some_right : {X : Type 0} (test : X → Bool) (xs ys : List X) → some test ys ≡ true → some test (xs ++ ys) ≡ true
some_right test [] ys e = e
some_right test (x ∷ xs) ys e = or_right (test x) (some test (xs ++ ys)) (some_right test xs ys e)

new_there : (p : Program) (n : ℕ) (xs : List Context) → among xs (thread n) ≡ true → has_thread n (new_threads p xs) ≡ true
new_there p n [] e = absurd (cc)
new_there p n (x ∷ xs) e = ⊎_elim
    (λ s. or_left (x.me.serial == n) (has_thread n (new_threads p xs)) (eq-eqb x.me.serial n (sym (ap (λ (r : Ref). r.serial) (same_ref_is (thread n) x.me s)))))
    (λ m. or_right (x.me.serial == n) (has_thread n (new_threads p xs)) (new_there p n xs m))
    (or_cases (same_ref (thread n) x.me) (among xs (thread n)) e)

-- a step from such a state leads to another, and is legal from a good heap
pub record Stepped (p : Program) (typed : WellTyped p) (supply : Supply) (t : ℕ) (s s2 : State) : Type 0 where
  pub state : StateOk p typed s2
  pub legal : AllHold p s.heap → Legal p s.heap s2.heap
  -- the threads that begin
  pub begins : List Context
  pub actor : Context
  pub acts : actor.me ≡ thread t
  pub apart : (o : Ref) → Apart p actor (among begins) o (s.heap.get o) (s2.heap.get o)
  pub unopened : Unopened s.heap s2.heap
  pub numbers : (w : Ref) → among begins w ≡ true → FromSupply supply w.serial
  pub there : (n : ℕ) → among begins (thread n) ≡ true → has_thread n s2.threads ≡ true

thread_gave :
    (p : Program) (typed : WellTyped p) (me : Ref) (h : Heap) → WellFormed p h → (supply : Supply) (choices : List Value) (fs : List Activation) →
    FramesOk p typed me fs → OnGave (thread_turn p supply choices fs h) (TurnOk p typed me supply h)
thread_gave p typed me h wf supply choices [] o = tt
thread_gave p typed me h wf supply choices (a ∷ below) o = turn_gave p typed me supply h wf choices a a.code o.0 below o.1 a.code o.0.code_ok o.0.ends_ok

answered :
    (p : Program) (typed : WellTyped p) (supply : Supply) (s : State) (t : ℕ) (e : End Turn) → StateOk p typed s → OnEnd e (TurnOk p typed (thread t) supply s.heap) →
    OnNext (answer_of p s t e) (Stepped p typed supply t s)
answered p typed supply s t Misfit o x = tt
answered p typed supply s t (Failed n kind line) o x = tt
answered p typed supply s t (Gave turn) o x = record {
  state = record {
    heap = x.heap;
    threads = both_ok p typed (with_frames t turn.frames s.threads) (new_threads p turn.started)
        (with_ok p typed t turn.frames s.threads x.frames o.threads) (new_ok p typed turn.started x.started);
  };
  legal = x.legal;
  begins = turn.started;
  actor = x.actor;
  acts = x.acts;
  apart = x.apart;
  unopened = x.unopened;
  numbers = x.numbers;
  there = λ n i. some_right (λ th. th.number == n) (with_frames t turn.frames s.threads) (new_threads p turn.started) (new_there p n turn.started i);
}

pub stepped : (p : Program) (typed : WellTyped p) (supply : Supply) (s : State) (e : Event) → StateOk p typed s → OnNext (step_with p supply s e) (Stepped p typed supply e.thread s)
stepped p typed supply s e o = answered p typed supply s e.thread (thread_turn p supply e.choices (frames_of e.thread s.threads) s.heap).end o
    (thread_gave p typed (thread e.thread) s.heap o.heap supply e.choices (frames_of e.thread s.threads) (frames_ok p typed e.thread s.threads o.threads))

pub left_ok : (p : Program) (typed : WellTyped p) (supply : Supply) (t : ℕ) (s : State) (a : Answer) → StateOk p typed s → OnNext a (Stepped p typed supply t s) → StateOk p typed (left_by s a)
left_ok p typed supply t s NotEnabled o x = o
left_ok p typed supply t s (Faulted kind line) o x = o
left_ok p typed supply t s (Next s2 line) o x = x.state

pub step_stepped : (p : Program) (typed : WellTyped p) (s : State) (e : Event) → StateOk p typed s → OnNext (step p s e) (Stepped p typed (Fresh (next_number s.threads)) e.thread s)
unfolding step
step_stepped p typed s e o = stepped p typed (Fresh (next_number s.threads)) s e o

pub run_ok : (p : Program) (typed : WellTyped p) (es : List Event) (s : State) → StateOk p typed s → StateOk p typed (run p es s)
run_ok p typed [] s o = o
run_ok p typed (e ∷ es) s o = run_ok p typed es (left_by s (step p s e)) (left_ok p typed (Fresh (next_number s.threads)) e.thread s (step p s e) o (step_stepped p typed s e o))

pub run_any_ok : (p : Program) (typed : WellTyped p) (cs : List Choice) (s : State) → StateOk p typed s → StateOk p typed (run_with p cs s)
run_any_ok p typed [] s o = o
run_any_ok p typed (c ∷ cs) s o = run_any_ok p typed cs (left_by s (step_any p c s))
    (left_ok p typed (Picked (next_number s.threads) c.news) c.event.thread s (step_any p c s) o (stepped p typed (Picked (next_number s.threads) c.news) s c.event o))

pub start_ok : (p : Program) (typed : WellTyped p) (s : State) → IsStart p s → Good p s.heap → StateOk p typed s
start_ok p typed s i good = record {
  heap = good.well_formed;
  threads = subst (ThreadsOk p typed) (sym i.threads)
      (begun_ok p typed (thread 1) (callee p p.main i.function (thread 1) s.heap i.args) refl (record { info = i.function; is = i.is; thread = refl; args = i.ranges }), tt);
}

pub on_next : (a : Answer) (P Q : State → Type 0) → ((s : State) → P s → Q s) → OnNext a P → OnNext a Q
on_next NotEnabled P Q f x = tt
on_next (Faulted kind line) P Q f x = tt
on_next (Next s line) P Q f x = f s x

pub steps_are_legal : StepsAreLegal
steps_are_legal p typed s start good events e now =
    let s1 = run p events s in
    on_next (step p s1 e) (Stepped p typed (Fresh (next_number s1.threads)) e.thread s1) (λ s2. Legal p s1.heap s2.heap) (λ s2 x. x.legal now.all)
    (step_stepped p typed s1 e (run_ok p typed events s (start_ok p typed s start good)))

pub any_steps_are_legal : AnyStepsAreLegal
any_steps_are_legal p typed s start good cs c now =
    let s1 = run_with p cs s in
    on_next (step_any p c s1) (Stepped p typed (Picked (next_number s1.threads) c.news) c.event.thread s1) (λ s2. Legal p s1.heap s2.heap) (λ s2 x. x.legal now.all)
    (stepped p typed (Picked (next_number s1.threads) c.news) s1 c.event (run_any_ok p typed cs s (start_ok p typed s start good)))

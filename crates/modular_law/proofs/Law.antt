-- The induction over the events.
use Rattle.std.proofs.Common.{◌≡◌, ◌≢◌, ℕ, Bool, true, false, cond, ◌||◌, ◌==◌, List, [], ◌∷◌, ◌++◌, refl, sym, ap, ◌∙◌, subst, IsTrue, ℤ, pos, arith, eq-eqb, append-nil, append_assoc}
use Rattle.std.specs.Prelude.{◌<ℤ◌}
use Rattle.std.proofs.lemmas.Int.{ints}
use Rattle.std.proofs.lemmas.Bool.{eqb-true, eqb-false, or_left, or_right}
use Rattle.object_types.specs.declared.references.Ref.{Ref}
use Rattle.method.specs.declared.program.Program.{Program}
use Rattle.object_types.specs.References.{thread}
use Rattle.object_types.specs.Values.{is_zero_int}
use Rattle.object_types.specs.Heap.{Heap}
use Rattle.method.specs.Legal.{Good, Legal}
use Rattle.method.specs.Admissible.{Admissible}
use Rattle.method.specs.Rely.{Rely}
use Rattle.method.specs.Expressions.{End, Misfit, Failed, Gave, Context}
use Rattle.method.specs.Actions.{Supply, Fresh, Picked}
use Rattle.method.specs.Machine.{Activation, Remaining, Thread, State, Turn, Event, Answer, NotEnabled, Faulted, Next, turn_of, thread_turn, frames_of, with_frames, next_number, new_threads, answer_of, step_with, step, left_by, run, IsStart, IsFine}
use Rattle.method.specs.LocalRuns.{AllLocalOk}
use Rattle.method.specs.Typing.{WellTyped}
use Rattle.method.specs.MachineLaws.{Choice, run_with, has_thread}
use Rattle.method.proofs.Global.{global_law, same_int_is}
use Rattle.modular_law.proofs.Facts.{turn_at, TopSpares, StepFacts}
use Rattle.modular_law.specs.Respect.{IsOlder, ActionsRespect, ActionsLaw, AnyActionsLaw}
use Rattle.modular_law.proofs.Walks.{Above}
use Rattle.modular_law.proofs.Threads.{ThreadOk, thread_yields}
use Rattle.modular_law.proofs.GoodTurns.{AllStart, GoodEnd, GoodTurn, above_older}
use Rattle.modular_law.proofs.Starts.{start_top}
use Rattle.modular_law.proofs.Turns.{turn}
use Rattle.machine_laws.specs.Outcomes.{OnEnd}
use Rattle.machine_laws.proofs.Reliance.{below_next}

abbrev AllOk : Program → Heap → List Thread → Type 0
AllOk p h [] = Unit {0}
AllOk p h (th ∷ ths) = ThreadOk p th.number h th.frames × AllOk p h ths

record StateOk (p : Program) (s : State) : Type 0 where
  good : Good p s.heap
  threads : AllOk p s.heap s.threads

abbrev AnswerOk : Program → State → Answer → Type 0
AnswerOk p s NotEnabled = Unit {0}
AnswerOk p s (Faulted kind line) = ⊥
AnswerOk p s (Next s' line) = IsFine p s (Next s' line) × StateOk p s'

-- Lists of threads.

frames_ok : (p : Program) (h : Heap) (t : ℕ) (ths : List Thread) → AllOk p h ths → ThreadOk p t h (frames_of t ths)
frames_ok p h t [] ok = tt
frames_ok p h t (th ∷ ths) ok = by_number (th.number == t) refl (frames_ok p h t ths ok.1)
  where
    by_number : (b : Bool) → (th.number == t) ≡ b → ThreadOk p t h (frames_of t ths) → ThreadOk p t h (cond b th.frames (frames_of t ths))
    by_number true e rest = subst (λ u. ThreadOk p u h th.frames) (eqb-true th.number t e) ok.0
    by_number false e rest = rest

pub has_frames : (t : ℕ) (ths : List Thread) (a : Activation) (below : List Activation) → frames_of t ths ≡ a ∷ below → has_thread t ths ≡ true
has_frames t [] a below e = absurd (cc)
has_frames t (th ∷ ths) a below e = by_number (th.number == t) e (has_frames t ths a below)
  where
    by_number : (b : Bool) → cond b th.frames (frames_of t ths) ≡ a ∷ below → (frames_of t ths ≡ a ∷ below → has_thread t ths ≡ true) → b || has_thread t ths ≡ true
    by_number true d rest = refl
    by_number false d rest = rest d

all_append : (p : Program) (h : Heap) (xs ys : List Thread) → AllOk p h xs → AllOk p h ys → AllOk p h (xs ++ ys)
all_append p h [] ys a b = b
all_append p h (x ∷ xs) ys a b = (a.0, all_append p h xs ys a.1 b)

new_ok : (p : Program) (h : Heap) (xs : List Context) → AllStart p h xs → AllOk p h (new_threads p xs)
new_ok p h [] a = tt
new_ok p h (x ∷ xs) a = (a.0, new_ok p h xs a.1)

others_ok : (p : Program) (h k : Heap) (t : ℕ) (fs : List Activation) (all ths : List Thread) → ((u : ℕ) → has_thread u ths ≡ true → has_thread u all ≡ true) → ThreadOk p t k fs →
    ((u : ℕ) → u ≢ t → IsTrue (has_thread u all) → Rely p (thread u) h k) → AllOk p h ths → AllOk p k (with_frames t fs ths)
others_ok p h k t fs all [] incl ok rely oks = tt
others_ok p h k t fs all (th ∷ ths) incl ok rely oks = (
  by_number (th.number == t) refl,
  others_ok p h k t fs all ths (λ u e. incl u (or_right (th.number == u) (has_thread u ths) e)) ok rely oks.1,
)
  where
    by_number : (b : Bool) → (th.number == t) ≡ b → let new : Thread = cond b (record th { frames = fs }) th in ThreadOk p new.number k new.frames
    by_number true e = subst (λ u. ThreadOk p u k fs) (sym (eqb-true th.number t e)) ok
    by_number false e = thread_yields p th.number h k th.frames (rely th.number (eqb-false th.number t e)
        (incl th.number (or_left (th.number == th.number) (has_thread th.number ths) (eq-eqb th.number th.number refl)))) oks.0

-- an object with a claim has a count that isn't 0
count_positive : (z : ℤ) → pos 0 <ℤ z → is_zero_int z ≡ false
count_positive z l = by_test (is_zero_int z) refl
  where
    by_test : (b : Bool) → is_zero_int z ≡ b → b ≡ false
    by_test true e = let n : z ≡ pos 0 = same_int_is z (pos 0) e in absurd (omega (arith, ints))
    by_test false e = refl

module _ (p : Program) (wt : WellTyped p) (adm : Admissible p) (local : AllLocalOk p) where
  module _ (supply : Supply) (s : State) (e : Event) (ok : StateOk p s) (above : (t : ℕ) → has_thread t s.threads ≡ true → Above (thread t) supply) where
    -- the turn of the event's thread
    turn_good : (frames : List Activation) → frames_of e.thread s.threads ≡ frames → ThreadOk p e.thread s.heap frames →
        GoodTurn p supply e.thread s.heap (thread_turn p supply e.choices frames s.heap)
    turn_good [] is ok' = record { ends = tt }
    turn_good (a ∷ below) is ok' =
        let o = ok'.0 in
        subst (λ (code : List Remaining). GoodTurn p supply e.thread s.heap (turn_of p supply e.choices a code below s.heap)) o.code
        (turn p wt local o.last
        (record {
          good = ok.good;
          is = o.is;
          me = o.me;
          entry = o.good;
          waits = ok'.1;
          above = subst (λ (r : Ref). Above r supply) (sym o.me)
              (above e.thread (has_frames e.thread s.threads a below is));
          fits = o.fits;
        })
        e.choices o.marks o.fine o.held o.ends)

    answer_end : (u : End Turn) → GoodEnd p supply e.thread s.heap u → OnEnd u (λ turn. Legal p s.heap turn.heap) →
        OnEnd u (λ turn. Good p turn.heap → (t : ℕ) → t ≢ e.thread → IsTrue (has_thread t s.threads) → Rely p (thread t) s.heap turn.heap) →
        OnEnd u (λ turn. Good p turn.heap → TopSpares p e.thread s.heap turn.heap turn.frames) → AnswerOk p s (answer_of p s e.thread u)
    answer_end Misfit y legal relied framed = tt
    answer_end (Failed n kind line) y legal relied framed = y
    answer_end (Gave turn) y legal relied framed =
        let law = global_law p adm s.heap turn.heap ok.good legal in
        let done = y.1 (record { good = law.1; spares = framed law.1 }) in (
          (law.0, law.1, (λ o positive closed. done.unopened o closed (count_positive (s.heap.get o).count positive))),
          record {
            good = law.1;
            threads = all_append p turn.heap (with_frames e.thread turn.frames s.threads) (new_threads p turn.started)
                (others_ok p s.heap turn.heap e.thread turn.frames s.threads s.threads (λ u z. z) done.frames (λ u ne has. relied law.1 u ne has) ok.threads)
                (new_ok p turn.heap turn.started done.started);
          },
        )

    step_ok : StepFacts p supply s e → AnswerOk p s (step_with p supply s e)
    step_ok facts = answer_end (turn_at p supply s e).end (turn_good (frames_of e.thread s.threads) refl (frames_ok p s.heap e.thread s.threads ok.threads)).ends facts.legal facts.relied facts.framed

  left_ok : (s : State) (a : Answer) → StateOk p s → AnswerOk p s a → StateOk p (left_by s a)
  left_ok s NotEnabled ok b = ok
  left_ok s (Faulted kind line) ok b = ok
  left_ok s (Next s' line) ok b = b.1

  fine_answer : (s : State) (a : Answer) → AnswerOk p s a → IsFine p s a
  fine_answer s NotEnabled b = tt
  fine_answer s (Faulted kind line) b = b
  fine_answer s (Next s' line) b = b.0

  start_ok : (s : State) → IsStart p s → Good p s.heap → StateOk p s
  start_ok s start good = record {
    good = good;
    threads = subst (λ (ths : List Thread). AllOk p s.heap ths) (sym start.threads)
        ((start_top p wt local p.main start.function start.is 1 s.heap start.args good start.ranges start.pre, tt), tt);
  }

  -- runs, of whatever supplies
  module _ {X : Type 0} (event : X → Event) (supply : X → State → Supply) (runs : List X → State → State) (nil : (s : State) → runs [] s ≡ s)
      (next : (x : X) (xs : List X) (s : State) → runs (x ∷ xs) s ≡ runs xs (left_by s (step_with p (supply x s) s (event x))))
      (above : (x : X) (s : State) (t : ℕ) → has_thread t s.threads ≡ true → Above (thread t) (supply x s)) (s0 : State) (start : StateOk p s0)
      (facts : (done : List X) (x : X) → StateOk p (runs done s0) → StepFacts p (supply x (runs done s0)) (runs done s0) (event x)) where
    abbrev behind : X → State → State
    behind x s = left_by s (step_with p (supply x s) s (event x))

    one_more : (done : List X) (x : X) (s : State) → runs (done ++ x ∷ []) s ≡ behind x (runs done s)
    one_more [] x s = next x [] s ∙ nil (behind x s) ∙ ap (behind x) (sym (nil s))
    one_more (d ∷ done) x s = next d (done ++ x ∷ []) s ∙ one_more done x (behind d s) ∙ ap (behind x) (sym (next d done s))

    run_step : (done : List X) (x : X) → StateOk p (runs done s0) → AnswerOk p (runs done s0) (step_with p (supply x (runs done s0)) (runs done s0) (event x))
    run_step done x ok = step_ok (supply x (runs done s0)) (runs done s0) (event x) ok (above x (runs done s0)) (facts done x ok)

    reached : (rest done : List X) → StateOk p (runs done s0) → StateOk p (runs (done ++ rest) s0)
    reached [] done ok = subst (λ (xs : List X). StateOk p (runs xs s0)) (sym (append-nil done)) ok
    reached (x ∷ rest) done ok =
        subst (λ (xs : List X). StateOk p (runs xs s0)) (append_assoc done (x ∷ []) rest)
        (reached rest (done ++ x ∷ []) (subst (λ (s : State). StateOk p s) (sym (one_more done x s0)) (left_ok (runs done s0) _ ok (run_step done x ok))))

    all_fine : (xs : List X) (x : X) → IsFine p (runs xs s0) (step_with p (supply x (runs xs s0)) (runs xs s0) (event x))
    all_fine xs x = fine_answer (runs xs s0) _ (run_step xs x (reached xs [] (subst (λ (s : State). StateOk p s) (sym (nil s0)) start)))

-- From the actions alone.

legal_of : (p : Program) (supply : Supply) (t : ℕ) (h : Heap) (u : End Turn) → ActionsRespect p → GoodEnd p supply t h u → OnEnd u (λ turn. Legal p h turn.heap)
legal_of p supply t h Misfit acts y = tt
legal_of p supply t h (Failed n kind line) acts y = tt
legal_of p supply t h (Gave turn) acts y = (y.0 acts).legal

relied_of : (p : Program) (supply : Supply) (t : ℕ) (h : Heap) (ths : List Thread) → ((u : ℕ) → has_thread u ths ≡ true → IsOlder supply u) → (u : End Turn) → ActionsRespect p →
    GoodEnd p supply t h u → OnEnd u (λ turn. Good p turn.heap → (v : ℕ) → v ≢ t → IsTrue (has_thread v ths) → Rely p (thread v) h turn.heap)
relied_of p supply t h ths older Misfit acts y = tt
relied_of p supply t h ths older (Failed n kind line) acts y = tt
relied_of p supply t h ths older (Gave turn) acts y = λ good v ne has. (y.0 acts).relied good v ne (older v has)

framed_of : (p : Program) (supply : Supply) (t : ℕ) (h : Heap) (u : End Turn) → ActionsRespect p → GoodEnd p supply t h u → OnEnd u (λ turn. Good p turn.heap → TopSpares p t h turn.heap turn.frames)
framed_of p supply t h Misfit acts y = tt
framed_of p supply t h (Failed n kind line) acts y = tt
framed_of p supply t h (Gave turn) acts y = (y.0 acts).framed

module _ (p : Program) (wt : WellTyped p) (acts : ActionsRespect p) (adm : Admissible p) (local : AllLocalOk p) where
  facts_of : (supply : Supply) (s : State) (e : Event) → StateOk p s → ((t : ℕ) → has_thread t s.threads ≡ true → Above (thread t) supply) → StepFacts p supply s e
  facts_of supply s e ok above =
      let y = (turn_good p wt adm local supply s e ok above (frames_of e.thread s.threads) refl (frames_ok p s.heap e.thread s.threads ok.threads)).ends in
      let u = (turn_at p supply s e).end in
      record {
        legal = legal_of p supply e.thread s.heap u acts y;
        relied = relied_of p supply e.thread s.heap s.threads (λ t has. above_older supply t (above t has)) u acts y;
        framed = framed_of p supply e.thread s.heap u acts y;
      }

pub actions_law : ActionsLaw
unfolding step
actions_law p wt acts adm local s start good events e =
    all_fine p wt adm local (λ (e : Event). e) (λ e s. Fresh (next_number s.threads)) (run p) (λ s. refl) (λ x xs s. refl) (λ x s t has. below_next t s.threads has) s
    (start_ok p wt adm local s start good)
    (λ done x ok. facts_of p wt acts adm local (Fresh (next_number (run p done s).threads)) (run p done s) x ok (λ t has. below_next t (run p done s).threads has)) events e

pub any_actions_law : AnyActionsLaw
any_actions_law p wt acts adm local s start good cs c =
    all_fine p wt adm local (λ (c : Choice). c.event) (λ c s. Picked (next_number s.threads) c.news) (run_with p) (λ s. refl) (λ x xs s. refl) (λ x s t has. below_next t s.threads has) s
    (start_ok p wt adm local s start good)
    (λ done x ok. facts_of p wt acts adm local (Picked (next_number (run_with p done s).threads) x.news) (run_with p done s) x.event ok (λ t has. below_next t (run_with p done s).threads has)) cs c

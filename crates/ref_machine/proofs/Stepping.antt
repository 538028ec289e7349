-- The step of an event, from the turn of its thread.
use Rattle.std.proofs.Common.{◌≡◌, ℕ, List, [], ◌∷◌, ◌++◌, map, position, slice_get, slice_set, Option, None, Some, Result, Ok, Err, Vec, Global, refl, ap, sym, subst, ◌∙◌}
use Rattle.std.proofs.lemmas.List.{map-append}
use Rattle.object_types.specs.declared.records.Stored.{Stored}
use Rattle.object_types.specs.declared.values.Value.{Value}
use Rattle.object_types.specs.Heap.{Heap, IsFinite}
use Rattle.method.specs.declared.program.Program.{Program}
use Rattle.method.specs.Overflow.{Overflow}
use Rattle.method.specs.Expressions.{End, Misfit, Failed, Gave, Outcome, Unfit, Gives}
use Rattle.method.specs.Machine as m
use Rattle.machine_values.specs.declared.stop.Stop.{Stop}
use Rattle.machine_values.specs.declared.stop.Stop.TheVariants as stop
use Rattle.machine_values.specs.Answers.{StopsOr}
use Rattle.machine_values.specs.Spots.{heap_at}
use Rattle.machine_objects.specs.Runs.{Ended, Lands}
use Rattle.machine_turns.specs.declared.turn.Turn.{Turn}
use Rattle.machine_turns.specs.Frames.{bare_heap}
use Rattle.machine_turns.specs.Turns.{IsHeap, AreFrames, Turned, TurnsAll, behind}
use Rattle.machine_turns.specs.RunsOut.{ThreadRunsOut}
use Rattle.ref_machine.specs.declared.state.State.{State}
use Rattle.ref_machine.specs.declared.state.Thread.{Thread}
use Rattle.ref_machine.specs.declared.step.Plan.{Plan}
use Rattle.ref_machine.specs.declared.step.Stepped.TheVariants as stepped
use Rattle.ref_machine.specs.States.{bare_thread, thread_of, Stands}
use Rattle.ref_machine.specs.Settling.{Changed}
use Rattle.ref_machine.proofs.Threads.{has, Place, no_place, none_found, next_same, new_bare}
use Rattle.object_types.specs.declared.references.Ref.{Ref}
use Rattle.method.specs.Actions.{Fresh}
use Rattle.machine_objects.specs.Runs.{contexts_at}
use Rattle.ref_machine.specs.Plans.{AreThreads, new_thread, turn_in, Planned, Committed, Answers, heap_or}
use Rattle.ref_machine.specs.Answers.{Steps}
use Rattle.ref_machine.specs.RunsOut.{StepRunsOut}

record Landed {A : Type 0} (Q : A → Type 0) (o : Outcome A) : Type 0 where
  what : A
  is : o ≡ Gives what
  holds : Q what

landed_by : {A : Type 0} (Q : A → Type 0) (w : Option Overflow) (e : End A) → w ≡ None → Ended Q e → Landed Q (record { overflow = w; end = e })
landed_by Q w Misfit fits gave = absurd gave
landed_by Q w (Failed n kind line) fits gave = absurd gave
landed_by Q w (Gave a) fits gave = record { what = a; is = λ i. record { overflow = fits i; end = Gave a }; holds = gave }

landed : {A : Type 0} (Q : A → Type 0) (o : Outcome A) → Lands Q o → Landed Q o
landed Q o l = landed_by Q o.overflow o.end l.fits l.gave

pub lands_also : {A : Type 0} (Q R : A → Type 0) (o : Outcome A) → Lands Q o → ((a : A) → Q a → R a) → Lands R o
lands_also Q R o l k = let d = landed Q o l in subst (Lands R) (sym d.is) (record { fits = refl; gave = k d.what d.holds })

-- the heap of a state that stands
pub heap_stands : (s : m.State) (c : State) → Stands s c → s.heap ≡ heap_at s.heap.support c.heap
heap_stands s c is = λ i. record { get = (is.same i).heap.get; support = s.heap.support }

pub threads_stand : (s : m.State) (c : State) → Stands s c → AreThreads s.threads c.threads.items
threads_stand s c is = ap (λ (z : m.State). z.threads) is.same

-- the heap behind a plan
left_heap : (w : Option (List Stored)) (old : List Stored) (h k : Heap) → IsHeap w h k → bare_heap h ≡ heap_at [] old → IsFinite h → (bare_heap k ≡ heap_at [] (heap_or old w)) × IsFinite k
left_heap None old h k is same finite = (ap bare_heap is ∙ same, subst IsFinite (sym is) finite)
left_heap (Some c) old h k is same finite = ((λ i. record { get = is.0 i; support = [] }), is.1)

same_some : {A : Type 0} (a b : A) (x : Option A) → x ≡ Some a → x ≡ Some b → a ≡ b
same_some a b x e f = let g = sym e ∙ f in cc

module _ (p : Program) (s : m.State) (e : m.Event) where
  abbrev turned : Outcome m.Turn
  turned = turn_in p s e.thread e.choices

  module _ (plan : Plan) (c d : State) (stands : Stands s c) (commit : Committed plan c d) where
    -- the state behind
    abbrev reached : m.Turn → m.State
    reached g = record { heap = g.heap; threads = m.with_frames e.thread g.frames s.threads ++ m.new_threads p g.started }

    stands_behind : (g : m.Turn) → Planned plan p s e.thread c g → Stands (reached g) d
    stands_behind g is =
        let heap = left_heap plan.heap c.heap s.heap g.heap is.heap (ap (λ (z : m.State). z.heap) stands.same) stands.finite in
        let one : is.old ≡ commit.old = same_some is.old commit.old (slice_get c.threads.items plan.place) is.is commit.is in
        let fit = commit.frames (m.frames_of e.thread s.threads) g.frames (subst (λ (z : Thread). AreFrames (m.frames_of e.thread s.threads) z.frames.items) one is.are) is.frames in
        let put = is.put commit.new (commit.number ∙ ap (λ (z : Thread). z.number) (sym one)) g.frames fit in
        record {
          same =
              (λ i. record { heap = heap.0 i; threads = (map-append bare_thread (m.with_frames e.thread g.frames s.threads) (m.new_threads p g.started) ∙ (λ j. put j ++ is.new j) ∙ sym (map-append thread_of (slice_set c.threads.items plan.place commit.new) plan.threads.items)) i })
              ∙ (λ i. record { heap = heap_at [] (sym commit.heap i); threads = map thread_of (sym commit.threads i) });
          finite = heap.1;
        }

    pub steps : Lands (Planned plan p s e.thread c) turned → Steps (stepped.Next plan.line) p s e d
    unfolding m.step
    steps l =
        let g = landed (Planned plan p s e.thread c) turned l in
        (reached g.what, ap (λ (o : Outcome m.Turn). m.answer_of p s e.thread o.end) g.is ∙ ap (m.Next (reached g.what)) g.holds.line, ap (λ (o : Outcome m.Turn). o.overflow) g.is, stands_behind g.what g.holds)

  pub stops : (c : State) (z : Stop) → StopsOr (StepRunsOut p s e) z turned → Answers (Err z) p s e c
  unfolding m.step
  stops c stop.Misfit h = (ap (λ (o : Outcome m.Turn). m.answer_of p s e.thread o.end) h, ap (λ (o : Outcome m.Turn). o.overflow) h)
  stops c (stop.Fault kind line) h = (ap (λ (o : Outcome m.Turn). m.answer_of p s e.thread o.end) h.1, ap (λ (o : Outcome m.Turn). o.overflow) h.1)
  stops c (stop.Wide w) h = h
  stops c stop.Exhausted h = h
  stops c stop.OutOfMemory h = tt

-- a plan, from the turn

record All (t : Turn) (fs : List m.Activation) (h : Heap) (g : m.Turn) : Type 0 where
  heap : IsHeap t.heap h g.heap
  frames : Changed t.frames fs g.frames
  lists : List (List Ref)
  started : g.started ≡ contexts_at lists t.started.items
  line : g.line ≡ t.line

all_of : (U : Type 0) (fs : List m.Activation) (t : Turn) (h : Heap) (o : Outcome m.Turn) → TurnsAll U (Ok t) fs h o → Lands (All t fs h) o
all_of U [] t h o l = absurd l
all_of U (a ∷ below) t h o l = lands_also (Turned t a (behind a.code) below h) (All t (a ∷ below) h) o l (λ g w. record { heap = w.heap; frames = w.frames; lists = w.lists; started = w.started; line = w.line })

pub turns_stop : (U : Type 0) (fs : List m.Activation) (z : Stop) (h : Heap) (o : Outcome m.Turn) → TurnsAll U (Err z) fs h o → StopsOr U z o
turns_stop U [] z h o s = s
turns_stop U (a ∷ below) z h o s = s

module _ (p : Program) (s : m.State) (c : State) (t : ℕ) (choices : List Value) (stands : Stands s c) where
  pub no_thread : position (has t) c.threads.items ≡ None → turn_in p s t choices ≡ Unfit
  no_thread none = ap (λ fs. m.thread_turn p (Fresh (m.next_number s.threads)) choices fs s.heap) (no_place t c.threads.items s.threads (threads_stand s c stands) (none_found t c.threads.items none))

  abbrev pub support : List Ref
  support = s.heap.support

  pub finite : IsFinite (heap_at support c.heap)
  finite = subst IsFinite (heap_stands s c stands) stands.finite

  -- the numbers run out at the next item of these functions
  abbrev pub turn_out : List m.Activation → Type 0
  turn_out fs = ThreadRunsOut p (Fresh (m.next_number s.threads)) choices fs s.heap

  pub turned_in : (r : Result Turn Stop) (next : ℕ) → next ≡ m.next_number (map thread_of c.threads.items) → let fs = m.frames_of t s.threads in TurnsAll (ThreadRunsOut p (Fresh next) choices fs (heap_at support c.heap)) r fs (heap_at support c.heap) (m.thread_turn p (Fresh next) choices fs (heap_at support c.heap)) → TurnsAll (turn_out fs) r fs s.heap (turn_in p s t choices)
  turned_in r next e h =
      let fs = m.frames_of t s.threads in
      let eh = sym (heap_stands s c stands) in
      let en : next ≡ m.next_number s.threads = e ∙ sym (next_same s.threads c.threads.items (threads_stand s c stands)) in
      subst (λ (k : Heap). TurnsAll (ThreadRunsOut p (Fresh (m.next_number s.threads)) choices fs k) r fs k (m.thread_turn p (Fresh (m.next_number s.threads)) choices fs k)) eh
      (subst (λ n. TurnsAll (ThreadRunsOut p (Fresh n) choices fs (heap_at support c.heap)) r fs (heap_at support c.heap) (m.thread_turn p (Fresh n) choices fs (heap_at support c.heap))) en h)

  pub planned : (U : Type 0) (turn : Turn) (i : ℕ) (old : Thread) (vs : Vec Thread Global) → slice_get c.threads.items i ≡ Some old → Place t s.threads c.threads.items i old → map thread_of vs.items ≡ map (new_thread p) turn.started.items → TurnsAll U (Ok turn) (m.frames_of t s.threads) s.heap (turn_in p s t choices) → Lands (Planned (record { place = i; heap = turn.heap; frames = turn.frames; threads = vs; line = turn.line }) p s t c) (turn_in p s t choices)
  planned U turn i old vs is place new l =
      lands_also (All turn (m.frames_of t s.threads) s.heap) _ (turn_in p s t choices) (all_of U (m.frames_of t s.threads) turn s.heap (turn_in p s t choices) l) (λ g w. record {
        heap = w.heap;
        old = old;
        is = is;
        are = place.are;
        frames = w.frames;
        put = place.put;
        new = ap (λ xs. map bare_thread (m.new_threads p xs)) w.started ∙ new_bare p w.lists turn.started.items ∙ sym new;
        line = w.line;
      })

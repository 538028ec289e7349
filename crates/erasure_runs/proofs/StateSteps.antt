-- A step of the machine, without annotations: none, or the plain machine's step.
use Rattle.std.proofs.Common.{◌≡◌, ℕ, ◌==◌, Bool, true, false, List, [], ◌∷◌, ◌++◌, map, Option, if◌then◌else◌, refl, sym, ap, ◌∙◌, subst, append-nil}
use Rattle.std.proofs.lemmas.Bool.{eqb-true, not-false, or_parts}
use Rattle.std.proofs.lemmas.List.{map-append}
use Rattle.object_types.specs.declared.references.Ref.{Ref}
use Rattle.object_types.specs.declared.values.Value.{Value}
use Rattle.method.specs.declared.program.FunctionInfo.{FunctionInfo}
use Rattle.method.specs.declared.program.Program.{Program}
use Rattle.object_types.specs.References.{thread}
use Rattle.object_types.specs.Heap.{Heap, Same}
use Rattle.method.specs.Typing.{WellTyped}
use Rattle.method.specs.Expressions.{End, Misfit, Failed, Gave, Context}
use Rattle.method.specs.Actions.{Supply, Fresh}
use Rattle.method.specs.Machine.{Activation, Thread, State, Event, Turn, Answer, NotEnabled, Faulted, Next, thread_turn, begin, frames_of, with_frames, new_threads, next_number, answer_of, step, left_by, run}
use Rattle.method.specs.MachineLaws.{OnNext, has_thread}
use Rattle.machine_laws.proofs.Outcomes.{OnEnd}
use Rattle.machine_laws.proofs.Frames.{FramesOk}
use Rattle.machine_laws.proofs.Legality.{StateOk, frames_ok, left_ok, on_next, step_stepped, start_ok}
use Rattle.plain_machine.specs.PlainSteps.{Comes, Waits, Fails, Yields, PlainFrame, PlainThread, PlainTurn, PlainState, PlainAnswer, plain_turn, plain_frames, with_plain_frames, plain_number, plain_answer, plain_step}
use Rattle.plain_machine.specs.PlainSteps as plain
use Rattle.plain_machine.specs.Erasure.{plain_heap, plain_frame, plain_threads, erasure}
use Rattle.plain_machine.specs.SafePlain.{SamePlain}
use Rattle.erasure_law.specs.Choices.{frames_choices}
use Rattle.erasure_law.specs.Laws.{silent, LeavesAll, Leaves, LeadsIn, concrete_code, concrete_frames}
use Rattle.erasure_law.proofs.Turns.{ghost_turns_are_silent}
use Rattle.erasure_law.proofs.Reached.{concrete_turns_lead, safe_good, frames_plain}
use Rattle.erasure_runs.proofs.Reached.{Reached, reached}
use Rattle.erasure_runs.proofs.NewThreads.{StartsOne, Distinct, ThreadStep, new_number, turn_numbers, threads_step}
use Rattle.erasure_runs.proofs.AbsentOwners.{absents, next_both, absents_stay, reached_ok, state_number}

-- No two threads of a reached state have the same number.

left_distinct : (t : ℕ) (s : State) (a : Answer) → Distinct s.threads → OnNext a (ThreadStep t s) → Distinct (left_by s a).threads
left_distinct t s NotEnabled d x = d
left_distinct t s (Faulted kind line) d x = d
left_distinct t s (Next s2 line) d x = x.distinct d

pub run_distinct : (p : Program) (typed : WellTyped p) (es : List Event) (s : State) → StateOk p typed s → Distinct s.threads → Distinct (run p es s).threads
run_distinct p typed [] s ok d = d
run_distinct p typed (e ∷ es) s ok d =
    run_distinct p typed es (left_by s (step p s e)) (left_ok p typed (Fresh (next_number s.threads)) e.thread s (step p s e) ok (step_stepped p typed s e ok))
    (left_distinct e.thread s (step p s e) d (threads_step p typed s e ok))

pub reached_distinct : (p : Program) (r : Reached p) → Distinct (reached r).threads
reached_distinct p r =
    run_distinct p r.typed r.events r.start (start_ok p r.typed r.start r.is_start r.good) (subst Distinct (sym r.is_start.threads) (refl, tt))

-- A silent item.

away : (t : ℕ) (fs : List Activation) (ths : List Thread) → has_thread t ths ≡ false → with_frames t fs ths ≡ ths
away t fs [] e = refl
away t fs (x ∷ xs) e =
    let o = or_parts (x.number == t) (has_thread t xs) e in
    let rest = away t fs xs o.1 in
    λ i. (if o.0 i then record x { frames = fs } else x) ∷ rest i

-- other frames that are the same without annotations
same_frames : (p : Program) (t : ℕ) (fs : List Activation) (ths : List Thread) → Distinct ths → map (plain_frame p) fs ≡ map (plain_frame p) (frames_of t ths) → plain_threads p (with_frames t fs ths) ≡ plain_threads p ths
same_frames p t fs [] d e = refl
same_frames p t fs (x ∷ xs) d e = by (x.number == t) refl e (same_frames p t fs xs d.1)
  where
    by : (b : Bool) → (x.number == t) ≡ b → map (plain_frame p) fs ≡ map (plain_frame p) (if b then x.frames else frames_of t xs) →
        (map (plain_frame p) fs ≡ map (plain_frame p) (frames_of t xs) → plain_threads p (with_frames t fs xs) ≡ plain_threads p xs) →
        plain_threads p ((if b then record x { frames = fs } else x) ∷ with_frames t fs xs) ≡ plain_threads p (x ∷ xs)
    by true i e more =
        let gone = away t fs xs (subst (λ n. has_thread n xs ≡ false) (eqb-true x.number t i) d.0) in
        λ j. record { number = x.number; frames = e j } ∷ plain_threads p (gone j)
    by false i e more = let rest = more e in λ j. record { number = x.number; frames = map (plain_frame p) x.frames } ∷ rest j

-- the same heap and threads, without annotations
pub record SameParts (p : Program) (s s2 : State) : Type 0 where
  pub heap : Same (plain_heap p s.heap) (plain_heap p s2.heap)
  pub threads : plain_threads p s2.threads ≡ plain_threads p s.threads

silent_answer : (p : Program) (s : State) (t : ℕ) (e : End Turn) → Distinct s.threads → OnEnd e (LeavesAll p s.heap (frames_of t s.threads)) → OnNext (answer_of p s t e) (SameParts p s)
silent_answer p s t Misfit d x = tt
silent_answer p s t (Failed n kind line) d x = tt
silent_answer p s t (Gave turn) d x = record {
  heap = x.heap;
  threads =
      ap (λ xs. plain_threads p (with_frames t turn.frames s.threads ++ new_threads p xs)) x.started
      ∙ ap (plain_threads p) (append-nil (with_frames t turn.frames s.threads))
      ∙ same_frames p t turn.frames s.threads d x.frames;
}

leaves_on : (p : Program) (h : Heap) (fs : List Activation) (e : End Turn) → Leaves p h fs e → OnEnd e (LeavesAll p h fs)
leaves_on p h fs Misfit x = tt
leaves_on p h fs (Failed n kind line) x = tt
leaves_on p h fs (Gave turn) x = x

frames_leave : (p : Program) (typed : WellTyped p) (me : Ref) (supply : Supply) (choices : List Value) (h : Heap) (fs : List Activation) → FramesOk p typed me fs → concrete_frames p fs ≡ false → OnEnd (thread_turn p supply choices fs h).end (LeavesAll p h fs)
frames_leave p typed me supply choices h [] ok k = tt
frames_leave p typed me supply choices h (a ∷ below) ok k =
    leaves_on p h (a ∷ below) (thread_turn p supply choices (a ∷ below) h).end
    (ghost_turns_are_silent p supply choices a below h ok.0.info ok.0.is
    (not-false (silent p ok.0.info a.code) (subst (λ (o : Option FunctionInfo). concrete_code p o a.code ≡ false) ok.0.is k)))

silent_parts : (p : Program) (typed : WellTyped p) (s : State) (e : Event) → StateOk p typed s → Distinct s.threads → concrete_frames p (frames_of e.thread s.threads) ≡ false → OnNext (step p s e) (SameParts p s)
unfolding step
silent_parts p typed s e ok d k =
    silent_answer p s e.thread (thread_turn p (Fresh (next_number s.threads)) e.choices (frames_of e.thread s.threads) s.heap).end d
    (frames_leave p typed (thread e.thread) (Fresh (next_number s.threads)) e.choices s.heap (frames_of e.thread s.threads) (frames_ok p typed e.thread s.threads ok.threads) k)

-- a step on a silent item is none of the plain machine
pub step_silent : (p : Program) (r : Reached p) (e : Event) → concrete_frames p (frames_of e.thread (reached r).threads) ≡ false → OnNext (step p (reached r) e) (λ s'. SamePlain (erasure p (reached r)) (erasure p s'))
step_silent p r e k =
    let s = reached r in
    let ok = reached_ok p r in
    on_next (step p s e) (λ s2. SameParts p s s2 × (absents s2 ≡ absents s)) (λ s2. SamePlain (erasure p s) (erasure p s2))
    (λ s2 z. record { heap = z.0.heap; threads = z.0.threads; skips = z.1 })
    (next_both (step p s e) (SameParts p s) (λ s2. absents s2 ≡ absents s) (silent_parts p r.typed s e ok (reached_distinct p r) k) (absents_stay p r.typed s e ok))

-- A concrete item.

-- the answer goes on, to this state but for its heap's list of references
abbrev pub PlainNext : PlainAnswer → PlainState → Type 0
PlainNext plain.NotEnabled q = ⊥
PlainNext (plain.Faulted kind line) q = ⊥
PlainNext (plain.Next s line) q = SamePlain s q

plain_with : (p : Program) (t : ℕ) (fs : List Activation) (ths : List Thread) → plain_threads p (with_frames t fs ths) ≡ with_plain_frames t (map (plain_frame p) fs) (plain_threads p ths)
plain_with p t fs [] = refl
plain_with p t fs (x ∷ xs) = by (x.number == t) (plain_with p t fs xs)
  where
    its : PlainThread
    its = record { number = x.number; frames = map (plain_frame p) x.frames }

    by : (b : Bool) → plain_threads p (with_frames t fs xs) ≡ with_plain_frames t (map (plain_frame p) fs) (plain_threads p xs) →
        plain_threads p ((if b then record x { frames = fs } else x) ∷ with_frames t fs xs) ≡ (if b then record its { frames = map (plain_frame p) fs } else its) ∷ with_plain_frames t (map (plain_frame p) fs) (plain_threads p xs)
    by true e = λ i. record { number = x.number; frames = map (plain_frame p) fs } ∷ e i
    by false e = λ i. its ∷ e i

-- plain threads that begin with these functions
abbrev begun : ℕ → List PlainFrame → List PlainThread
begun m fs = map (λ (a : PlainFrame). record { number = m; frames = a ∷ [] }) fs

plain_new : (p : Program) (m : ℕ) (xs : List Context) → StartsOne m xs → plain_threads p (new_threads p xs) ≡ begun m (map (λ x. plain_frame p (begin p x)) xs)
plain_new p m [] one = refl
plain_new p m (x ∷ []) one = λ i. record { number = (one i).serial; frames = plain_frame p (begin p x) ∷ [] } ∷ []
plain_new p m (x ∷ y ∷ xs) one = absurd one

leads_at : (p : Program) (s : State) (t : ℕ) (turn : Turn) (c : Comes PlainTurn) → LeadsIn p c turn → StartsOne (new_number s) turn.started →
    absents (record { heap = turn.heap; threads = with_frames t turn.frames s.threads ++ new_threads p turn.started }) ≡ absents s →
    PlainNext (plain_answer (erasure p s) t c) (erasure p (record { heap = turn.heap; threads = with_frames t turn.frames s.threads ++ new_threads p turn.started }))
leads_at p s t turn Waits x one same = absurd x.1
leads_at p s t turn (Fails kind line) x one same = absurd x.1
leads_at p s t turn (Yields u) x one same =
    let olds : plain_threads p (with_frames t turn.frames s.threads) ≡ with_plain_frames t u.frames (plain_threads p s.threads) =
    plain_with p t turn.frames s.threads ∙ ap (λ fs. with_plain_frames t fs (plain_threads p s.threads)) (sym x.1.frames) in
    let news : plain_threads p (new_threads p turn.started) ≡ begun (plain_number (erasure p s)) u.started =
    plain_new p (new_number s) turn.started one
    ∙ ap (λ m. begun m (map (λ x. plain_frame p (begin p x)) turn.started)) (state_number p s) ∙ ap (begun (plain_number (erasure p s))) (sym x.1.started) in
    record {
      heap = x.1.heap;
      threads = map-append (λ (th : Thread). record { number = th.number; frames = map (plain_frame p) th.frames }) (with_frames t turn.frames s.threads) (new_threads p turn.started) ∙ (λ i. olds i ++ news i);
      skips = same;
    }

leads_answer : (p : Program) (s : State) (t : ℕ) (e : End Turn) (c : Comes PlainTurn) → OnEnd e (LeadsIn p c) → OnEnd e (λ turn. StartsOne (new_number s) turn.started) →
    OnNext (answer_of p s t e) (λ s2. absents s2 ≡ absents s) → OnNext (answer_of p s t e) (λ s2. PlainNext (plain_answer (erasure p s) t c) (erasure p s2))
leads_answer p s t Misfit c x one same = tt
leads_answer p s t (Failed n kind line) c x one same = tt
leads_answer p s t (Gave turn) c x one same = leads_at p s t turn c x one same

-- a step on a concrete item is the plain machine's step
pub step_leads : (p : Program) (r : Reached p) (e : Event) → let s = reached r in concrete_frames p (frames_of e.thread s.threads) ≡ true →
    OnNext (step p s e) (λ s'. PlainNext (plain_step p (erasure p s) (record e { choices = frames_choices p (frames_of e.thread s.threads) e.choices })) (erasure p s'))
unfolding step plain_step
step_leads p r e k =
    let s = reached r in
    let ok = reached_ok p r in
    let end = (thread_turn p (Fresh (next_number s.threads)) e.choices (frames_of e.thread s.threads) s.heap).end in
    let choices = frames_choices p (frames_of e.thread s.threads) e.choices in
    leads_answer p s e.thread end (plain_turn p choices (plain_frames e.thread (plain_threads p s.threads)) (plain_heap p s.heap))
    (subst (λ fs. OnEnd end (LeadsIn p (plain_turn p choices fs (plain_heap p s.heap)))) (sym (frames_plain p e.thread s.threads))
    (concrete_turns_lead p r.typed r.apart r.start r.is_start r.good r.events (safe_good p r.events r.start (r.safe r.start r.is_start r.good) r.good) e k))
    (turn_numbers p r.typed s e ok) (absents_stay p r.typed s e ok)

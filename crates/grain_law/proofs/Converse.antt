-- Each step of the machine is some fine steps: the reads of its item, and its last event.
use Rattle.std.proofs.Common.{◌≡◌, ℕ, zero, suc, ◌==◌, Bool, true, false, List, [], ◌∷◌, ◌++◌, ◌⊎◌, inl, inr, ⊎_elim, refl, sym, ap, ◌∙◌, subst, if◌then◌else◌}
use Rattle.std.proofs.lemmas.Bool.{both_ways, eqb-true, eq-eqb}
use Rattle.std.proofs.lemmas.List.{append_assoc, append-nil}
use Rattle.object_types.specs.declared.values.Value.{Value}
use Rattle.method.specs.declared.program.Program.{Program}
use Rattle.method.specs.declared.program.CheckKind.{CheckKind}
use Rattle.method.specs.declared.program.CheckKind.TheVariants.{Read, LoopInv}
use Rattle.method.specs.Expressions.{End, Misfit, Failed, Gave, Outcome, Spot}
use Rattle.method.specs.Actions.{Fresh}
use Rattle.method.specs.Machine.{Activation, State, Turn, Event, Answer, NotEnabled, Faulted, Next, turn_of, thread_turn, frames_of, next_number, answer_of, step, left_by, run, IsFine}
use Rattle.grain_law.specs.FieldReads.{Reading, Refuses, Reads, Ends}
use Rattle.grain_law.specs.Plans.{Finish, item_fits, item_line}
use Rattle.grain_law.specs.FineSteps.{FineState, FineStep, with_reads, next_state, end_step, frames_step, fine_step, fine_run, reads_by, fine_start, first_tests}
use Rattle.grain_law.specs.Laws.{AnswersInFineSteps, StepsAreFineSteps, RunsAreFineRuns, SafeInFineStepsIsSafe}
use Rattle.grain_law.proofs.Traces.{Stops, Finishes, Along, along_same}
use Rattle.grain_law.proofs.Plans.{bind, ItemGoes, item_goes, item_waits}
use Rattle.grain_law.proofs.Items.{all_hold, tests_pass, tests_end, first_hold, works, reading, tests, bare}
use Rattle.grain_law.proofs.Law.{step_is}

fine_more : (p : Program) (es : List Event) (e : Event) (f : FineState) → fine_run p (es ++ e ∷ []) f ≡ next_state (fine_run p es f) (fine_step p (fine_run p es f) e)
fine_more p [] e f = refl
fine_more p (d ∷ es) e f = fine_more p es e (next_state f (fine_step p f d))

fine_append : (p : Program) (es ds : List Event) (f : FineState) → fine_run p (es ++ ds) f ≡ fine_run p ds (fine_run p es f)
fine_append p [] ds f = refl
fine_append p (e ∷ es) ds f = fine_append p es ds (next_state f (fine_step p f e))

abbrev one_read : ℕ → Event
one_read t = record { thread = t; choices = [] }

reads_and_one : (n t : ℕ) → reads_by n t ++ one_read t ∷ [] ≡ reads_by (suc n) t
reads_and_one zero t = refl
reads_and_one (suc n) t = ap (λ es. one_read t ∷ es) (reads_and_one n t)

-- reads of the thread lead there
record ReadsTo (p : Program) (t : ℕ) (f0 f : FineState) : Type 0 where
  number : ℕ
  is : fine_run p (reads_by number t) f0 ≡ f

reads_more : (p : Program) (t : ℕ) (f0 f : FineState) → ReadsTo p t f0 f → ReadsTo p t f0 (next_state f (fine_step p f (one_read t)))
reads_more p t f0 f r = record {
  number = suc r.number;
  is = ap (λ es. fine_run p es f0) (sym (reads_and_one r.number t)) ∙ fine_more p (reads_by r.number t) (one_read t) f0 ∙ ap (λ f. next_state f (fine_step p f (one_read t))) r.is;
}

abbrev with_lists : State → (ℕ → List Value) → FineState
with_lists s ls = record { state = s; reads = ls }

-- no thread but this one has read anything for its next item
abbrev OnlyFor : ℕ → (ℕ → List Value) → Type 0
OnlyFor t ls = (u : ℕ) → (u ≡ t → ⊥) → ls u ≡ []

list_of : (t : ℕ) (us : List Value) (ls : ℕ → List Value) → with_reads t us ls t ≡ us
list_of t us ls = ap (λ b. if b then us else ls t) (eq-eqb t t refl)

list_other : (t : ℕ) (us : List Value) (ls : ℕ → List Value) → OnlyFor t ls → OnlyFor t (with_reads t us ls)
list_other t us ls only u differ = by (u == t) refl
  where
    by : (b : Bool) → (u == t) ≡ b → (if b then us else ls u) ≡ []
    by true e = absurd (differ (eqb-true u t e))
    by false e = only u differ

list_none : (t : ℕ) (ls : ℕ → List Value) → OnlyFor t ls → (u : ℕ) → with_reads t [] ls u ≡ []
list_none t ls only u = by (u == t) refl
  where
    by : (b : Bool) → (u == t) ≡ b → (if b then [] else ls u) ≡ []
    by true e = refl
    by false e = only u (λ same. both_ways (u == t) e (eq-eqb u t same))

-- behind a step the list of its thread is empty
abbrev Emptied : ℕ → (ℕ → List Value) → Answer → (ℕ → List Value) → Type 0
Emptied t ls NotEnabled reads = Unit {0}
Emptied t ls (Faulted kind line) reads = Unit {0}
Emptied t ls (Next s line) reads = reads ≡ with_reads t [] ls

emptied : (t : ℕ) (ls : ℕ → List Value) (answer : Answer) → Emptied t ls answer (with_reads t [] ls)
emptied t ls NotEnabled = tt
emptied t ls (Faulted kind line) = tt
emptied t ls (Next s line) = refl

-- reads that leave the state, and an event behind them to which the answer is the machine's
record Answers (p : Program) (s : State) (e : Event) : Type 0 where
  lists : ℕ → List Value
  reached : ReadsTo p e.thread (fine_start s) (with_lists s lists)
  only : OnlyFor e.thread lists
  choices : List Value
  gives : FineStep
  is : fine_step p (with_lists s lists) (record { thread = e.thread; choices = choices }) ≡ gives
  answer : gives.answer ≡ step p s e
  empty : Emptied e.thread lists gives.answer gives.reads

module _ (p : Program) where
  module _ (s : State) (t : ℕ) (a : Activation) (below : List Activation) (frames : frames_of t s.threads ≡ a ∷ below) where
    abbrev works_here : List Value → Outcome (Reading Finish)
    works_here us = works p a a.code below s.heap us

    abbrev here : ℕ
    here = item_line p a a.code

    step_by : (ls : ℕ → List Value) (us cs : List Value) (r : End (Reading Finish)) → ls t ≡ us → (reading p a a.code below s.heap us).end ≡ r → fine_step p (with_lists s ls) (record { thread = t; choices = cs }) ≡ end_step p (with_lists s ls) t cs (item_fits p a a.code cs) here r
    step_by ls us cs r at_us is =
        ap (frames_step p (with_lists s ls) (record { thread = t; choices = cs })) frames ∙ ap (end_step p (with_lists s ls) t cs (item_fits p a a.code cs) here) (ap (λ vs. (reading p a a.code below s.heap vs).end) at_us ∙ is)

    -- all that the item reads has been read
    record AllRead (c : End Finish) : Type 0 where
      lists : ℕ → List Value
      reached : ReadsTo p t (fine_start s) (with_lists s lists)
      only : OnlyFor t lists
      finishes : Finishes here (λ vs. works_here (lists t ++ vs)) c

    module _ (holds : all_hold (tests p a a.code below s.heap) ≡ true) where
      reading_is : (us : List Value) → (reading p a a.code below s.heap us).end ≡ (works_here us).end
      reading_is us = tests_pass (bare p a a.code below s.heap) LoopInv (works_here us) (first_tests us (tests p a a.code below s.heap)) 0 (first_hold us (tests p a a.code below s.heap) holds)

      all_read : (rs us : List Value) (ls : ℕ → List Value) (c : End Finish) → ReadsTo p t (fine_start s) (with_lists s ls) → OnlyFor t ls → ls t ≡ us → Along here rs (λ vs. works_here (us ++ vs)) c → AllRead c
      all_read [] us ls c r only is x = record { lists = ls; reached = r; only = only; finishes = subst (λ us. Finishes here (λ vs. works_here (us ++ vs)) c) (sym is) x }
      all_read (v ∷ rs) us ls c r only is x =
          all_read rs (us ++ v ∷ []) (with_reads t (ls t ++ v ∷ []) ls) c
          (subst (ReadsTo p t (fine_start s)) (ap (next_state (with_lists s ls)) (step_by ls us [] (Gave (Reads v)) is (reading_is us ∙ ap (λ us. (works_here us).end) (sym (append-nil us)) ∙ x.0))) (reads_more p t (fine_start s) (with_lists s ls) r))
          (list_other t (ls t ++ v ∷ []) ls only)
          (list_of t (ls t ++ v ∷ []) ls ∙ ap (λ us. us ++ v ∷ []) is)
          (along_same here rs (λ vs. works_here ((us ++ v ∷ []) ++ vs)) (λ vs. works_here (us ++ v ∷ vs)) c (λ vs. ap (λ us. (works_here us).end) (append_assoc us (v ∷ []) vs)) x.1)

  module _ (s : State) (e : Event) where
    module _ (a : Activation) (below : List Activation) (frames : frames_of e.thread s.threads ≡ a ∷ below) where
      abbrev turn : End Turn
      turn = (turn_of p (Fresh (next_number s.threads)) e.choices a a.code below s.heap).end

      none_yet : ReadsTo p e.thread (fine_start s) (fine_start s)
      none_yet = record { number = zero; is = refl }

      abbrev answers : List Value → End (Reading Finish)
      answers us = (reading p a a.code below s.heap us).end

      step_turn : step p s e ≡ answer_of p s e.thread turn
      step_turn = step_is p s e ∙ ap (λ fs. answer_of p s e.thread (thread_turn p (Fresh (next_number s.threads)) e.choices fs s.heap).end) frames

      -- where the item fails a check, once it has read
      stops_so : (ls : ℕ → List Value) → ReadsTo p e.thread (fine_start s) (with_lists s ls) → OnlyFor e.thread ls → item_fits p a a.code e.choices ≡ true → (kind : CheckKind) (line : ℕ) → Faulted kind line ≡ step p s e →
          (r : End (Reading Finish)) → answers (ls e.thread) ≡ r → Stops (item_line p a a.code) kind line r → Answers p s e
      stops_so ls reached only fits kind line faults Misfit is z = absurd z
      stops_so ls reached only fits kind line faults (Failed n k l) is z = record {
        lists = ls;
        reached = reached;
        only = only;
        choices = e.choices;
        gives = record { answer = Faulted k l; reads = ls };
        is = step_by s e.thread a below frames ls (ls e.thread) e.choices (Failed n k l) refl is ∙ ap (λ b. end_step p (with_lists s ls) e.thread e.choices b (item_line p a a.code) (Failed n k l)) fits;
        answer = (λ i. Faulted (z.0 i) (z.1 i)) ∙ faults;
        empty = tt;
      }
      stops_so ls reached only fits kind line faults (Gave Refuses) is z = record {
        lists = ls;
        reached = reached;
        only = only;
        choices = [];
        gives = record { answer = Faulted Read (item_line p a a.code); reads = ls };
        is = step_by s e.thread a below frames ls (ls e.thread) [] (Gave Refuses) refl is;
        answer = (λ i. Faulted (z.0 i) (z.1 i)) ∙ faults;
        empty = tt;
      }
      stops_so ls reached only fits kind line faults (Gave (Reads v)) is z = absurd z
      stops_so ls reached only fits kind line faults (Gave (Ends finish us)) is z = absurd z

      ends_so :
          (holds : all_hold (tests p a a.code below s.heap) ≡ true) → item_fits p a a.code e.choices ≡ true → (c : End Finish) → turn ≡ bind c (λ finish. (finish (Fresh (next_number s.threads)) e.choices s.heap).end) → AllRead s e.thread a below frames c → Answers p s e
      ends_so holds fits Misfit is y = absurd y.finishes
      ends_so holds fits (Failed n kind line) is y =
          stops_so y.lists y.reached y.only fits kind line (sym (step_turn ∙ ap (answer_of p s e.thread) is)) _ (reading_is s e.thread a below frames holds (y.lists e.thread) ∙ ap (λ us. (works p a a.code below s.heap us).end) (sym (append-nil (y.lists e.thread)))) y.finishes
      ends_so holds fits (Gave finish) is y = record {
        lists = y.lists;
        reached = y.reached;
        only = y.only;
        choices = e.choices;
        gives = record { answer = answer_of p s e.thread (finish (Fresh (next_number s.threads)) e.choices s.heap).end; reads = with_reads e.thread [] y.lists };
        is = step_by s e.thread a below frames y.lists (y.lists e.thread) e.choices (Gave (Ends finish [])) refl (reading_is s e.thread a below frames holds (y.lists e.thread) ∙ ap (λ us. (works p a a.code below s.heap us).end) (sym (append-nil (y.lists e.thread))) ∙ y.finishes [])
            ∙ ap (λ b. end_step p (with_lists s y.lists) e.thread e.choices b (item_line p a a.code) (Gave (Ends finish []))) fits;
        answer = sym (step_turn ∙ ap (answer_of p s e.thread) is);
        empty = emptied e.thread y.lists (answer_of p s e.thread (finish (Fresh (next_number s.threads)) e.choices s.heap).end);
      }

      abbrev at_ : Spot
      at_ = bare p a a.code below s.heap

      fitting_answers : item_fits p a a.code e.choices ≡ true → Answers p s e
      fitting_answers fits = by_tests (all_hold (tests p a a.code below s.heap)) refl
        where
          goes : ItemGoes p a (Fresh (next_number s.threads)) e.choices s.heap a.code below
          goes = item_goes p a (Fresh (next_number s.threads)) e.choices s.heap a.code below fits

          by_tests : (b : Bool) → all_hold (tests p a a.code below s.heap) ≡ b → Answers p s e
          by_tests true holds =
              ends_so holds fits goes.goes.at_once.end (goes.is ∙ tests_pass at_ LoopInv goes.rest (tests p a a.code below s.heap) 0 holds ∙ goes.goes.is)
              (all_read s e.thread a below frames holds goes.goes.traces.0 [] (λ t. []) goes.goes.at_once.end none_yet (λ u d. refl) refl goes.goes.traces.1)
          by_tests false holds =
              let z = tests_end at_ LoopInv goes.rest (tests p a a.code below s.heap) 0 holds in
              let y = tests_end at_ LoopInv (works p a a.code below s.heap []) (tests p a a.code below s.heap) 0 holds in
              stops_so (λ t. []) none_yet (λ u d. refl) fits LoopInv (item_line p a a.code) (sym (step_turn ∙ ap (answer_of p s e.thread) (goes.is ∙ z.1))) (Failed y.0 LoopInv (item_line p a a.code)) y.1 (refl, refl)

      frame_answers : (b : Bool) → item_fits p a a.code e.choices ≡ b → (step p s e ≡ NotEnabled) ⊎ Answers p s e
      frame_answers true fits = inr (fitting_answers fits)
      frame_answers false fits = inl (step_turn ∙ ap (answer_of p s e.thread) (item_waits p a (Fresh (next_number s.threads)) e.choices s.heap a.code below fits))

    frames_answer : (fs : List Activation) → frames_of e.thread s.threads ≡ fs → (step p s e ≡ NotEnabled) ⊎ Answers p s e
    frames_answer [] frames = inl (step_is p s e ∙ ap (λ fs. answer_of p s e.thread (thread_turn p (Fresh (next_number s.threads)) e.choices fs s.heap).end) frames)
    frames_answer (a ∷ below) frames = frame_answers a below frames _ refl

    step_answers : (step p s e ≡ NotEnabled) ⊎ Answers p s e
    step_answers = frames_answer (frames_of e.thread s.threads) refl

pub steps_are_fine_steps : StepsAreFineSteps
steps_are_fine_steps p s e = ⊎_elim inl (λ y. inr (answered y)) (step_answers p s e)
  where
    answered : Answers p s e → AnswersInFineSteps p s e
    answered y = record {
      number = y.reached.number;
      choices = y.choices;
      stays = ap (λ (f : FineState). f.state) y.reached.is;
      answers = ap (λ f. (fine_step p f (record { thread = e.thread; choices = y.choices })).answer) y.reached.is ∙ ap (λ (z : FineStep). z.answer) y.is ∙ y.answer;
    }

module _ (p : Program) (s0 : State) where
  -- a state of the machine that fine steps lead to, in which no thread has read anything for its next item
  record Between (s : State) : Type 0 where
    events : List Event
    is : fine_run p events (fine_start s0) ≡ fine_start s

  next_between : (s : State) → Between s → (e : Event) (ls : ℕ → List Value) (cs : List Value) (answer : Answer) (reads : ℕ → List Value) → ReadsTo p e.thread (fine_start s) (with_lists s ls) → OnlyFor e.thread ls →
      fine_step p (with_lists s ls) (record { thread = e.thread; choices = cs }) ≡ record { answer = answer; reads = reads } → Emptied e.thread ls answer reads → Between (left_by s answer)
  next_between s x e ls cs NotEnabled reads r only is empty = x
  next_between s x e ls cs (Faulted kind line) reads r only is empty = x
  next_between s x e ls cs (Next s2 line) reads r only is empty =
      let last : Event = record { thread = e.thread; choices = cs } in
      let more = reads_by r.number e.thread in
      record {
        events = x.events ++ (more ++ last ∷ []);
        is = fine_append p x.events (more ++ last ∷ []) (fine_start s0) ∙ ap (fine_run p (more ++ last ∷ [])) x.is ∙ fine_more p more last (fine_start s) ∙ ap (λ f. next_state f (fine_step p f last)) r.is
            ∙ ap (next_state (with_lists s ls)) is ∙ (λ i. with_lists s2 (λ u. (ap (λ (ls : ℕ → List Value). ls u) empty ∙ list_none e.thread ls only u) i));
      }

  between_next : (s : State) → Between s → (e : Event) → Between (left_by s (step p s e))
  between_next s x e =
      ⊎_elim (λ z. subst (λ answer. Between (left_by s answer)) (sym z) x)
      (λ y. subst (λ answer. Between (left_by s answer)) y.answer (next_between s x e y.lists y.choices y.gives.answer y.gives.reads y.reached y.only y.is y.empty)) (step_answers p s e)

  between_run : (es : List Event) (s : State) → Between s → Between (run p es s)
  between_run [] s x = x
  between_run (e ∷ es) s x = between_run es (left_by s (step p s e)) (between_next s x e)

  between_start : Between s0
  between_start = record { events = []; is = refl }

pub runs_are_fine_runs : RunsAreFineRuns
runs_are_fine_runs p s events = let x = between_run p s events s (between_start p s) in (x.events, x.is)

-- So what is safe in fine steps is safe.
pub safe_in_fine_steps_is_safe : SafeInFineStepsIsSafe
safe_in_fine_steps_is_safe p safe s0 start good events e = ⊎_elim (λ z. subst (IsFine p s) (sym z) tt) answered (step_answers p s e)
  where
    s : State
    s = run p events s0

    between : Between p s0 s
    between = between_run p s0 events s0 (between_start p s0)

    answered : Answers p s e → IsFine p s (step p s e)
    answered y =
        let event : Event = record { thread = e.thread; choices = y.choices } in
        let more = reads_by y.reached.number e.thread in
        let there = fine_append p between.events more (fine_start s0) ∙ ap (fine_run p more) between.is ∙ y.reached.is in
        let passes = subst (λ (f : FineState). IsFine p f.state (fine_step p f event).answer) there (safe s0 start good (between.events ++ more) event) in
        subst (IsFine p s) y.answer (subst (λ (z : FineStep). IsFine p s z.answer) y.is passes)

-- With admissible types and stable claims every state of a run is good, and every step keeps every invariant.
use Rattle.std.proofs.Common.{ℕ, List, [], ◌∷◌}
use Rattle.method.specs.declared.program.Program.{Program}
use Rattle.method.specs.Legal.{Good}
use Rattle.method.specs.Admissible.{Admissible}
use Rattle.method.specs.Typing.{WellTyped}
use Rattle.method.specs.Actions.{Supply, Fresh}
use Rattle.method.specs.Machine.{State, Event, Answer, NotEnabled, Faulted, Next, next_number, step, left_by, run}
use Rattle.method.specs.MachineLaws.{OnNext}
use Rattle.method.proofs.Global.{global_law}
use Rattle.machine_laws.specs.Laws.{IsFineStep, RunsStayGood}
use Rattle.machine_laws.proofs.Legality.{StateOk, Stepped, start_ok, left_ok, step_stepped, on_next}

-- a state that is good besides
record GoodState (p : Program) (typed : WellTyped p) (s : State) : Type 0 where
  state : StateOk p typed s
  good : Good p s.heap

fine_step : (p : Program) (typed : WellTyped p) → Admissible p → (supply : Supply) (t : ℕ) (s s2 : State) → Good p s.heap → Stepped p typed supply t s s2 → IsFineStep p s.heap s2.heap
fine_step p typed adm supply t s s2 good x =
    let g = global_law p adm s.heap s2.heap good (x.legal good.all) in
    record { kept = g.0; good = g.1; unopened = x.unopened }

good_after : (p : Program) (typed : WellTyped p) → Admissible p → (supply : Supply) (t : ℕ) (s : State) (a : Answer) → Good p s.heap → OnNext a (Stepped p typed supply t s) → Good p (left_by s a).heap
good_after p typed adm supply t s NotEnabled good x = good
good_after p typed adm supply t s (Faulted kind line) good x = good
good_after p typed adm supply t s (Next s2 line) good x = (fine_step p typed adm supply t s s2 good x).good

good_run : (p : Program) (typed : WellTyped p) → Admissible p → (es : List Event) (s : State) → GoodState p typed s → GoodState p typed (run p es s)
good_run p typed adm [] s g = g
good_run p typed adm (e ∷ es) s g =
    let x = step_stepped p typed s e g.state in
    let supply = Fresh (next_number s.threads) in
    good_run p typed adm es (left_by s (step p s e))
    (record { state = left_ok p typed supply e.thread s (step p s e) g.state x; good = good_after p typed adm supply e.thread s (step p s e) g.good x })

pub runs_stay_good : RunsStayGood
runs_stay_good p typed adm s start good events e =
    let s1 = run p events s in
    let g = good_run p typed adm events s (record { state = start_ok p typed s start good; good = good }) in (
      g.good,
      on_next (step p s1 e) (Stepped p typed (Fresh (next_number s1.threads)) e.thread s1) (λ s2. IsFineStep p s1.heap s2.heap)
          (λ s2 x. fine_step p typed adm (Fresh (next_number s1.threads)) e.thread s1 s2 g.good x) (step_stepped p typed s1 e g.state),
    )

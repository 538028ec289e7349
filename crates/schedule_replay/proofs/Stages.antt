-- A replay in two parts.
use Rattle.std.proofs.Common.{◌≡◌, ℕ, ◌+◌, List, [], ◌∷◌, ◌++◌, length, Option, Some, None, refl, sym, ap, ◌∙◌, append_assoc, arith}
use Rattle.method.specs.declared.program.Program.{Program}
use Rattle.method.specs.Overflow.{Overflow}
use Rattle.method.specs.Machine.{State, Event, Answer, NotEnabled, Faulted, Next, step, step_overflow, left_by, run}
use Rattle.schedule_replay.specs.ReplayText.{Replay, goes_on, step_text, replay_step, replay_from}
use Rattle.schedule_replay.specs.Stages.{line_before, lines}

one_more : (k t : ℕ) (w : Option Overflow) (answer : Answer) (more : Option (List ℕ)) (text : List ℕ) (next last : Replay) → line_before k t w answer more ≡ Some text → ((rest : List ℕ) → more ≡ Some rest → next ≡ goes_on rest last) → replay_step k t w answer next ≡ goes_on text last
one_more k t None (Next s line) (Some more) text next last e go =
    let same : step_text k t line ++ more ≡ text = cc in
    ap (goes_on (step_text k t line)) (go more refl) ∙ (ap (λ (x : List ℕ). record { text = x; ending = last.ending }) (sym (append_assoc (step_text k t line) more last.text)) ∙ ap (λ (x : List ℕ). goes_on x last) same)
one_more k t None (Next s line) None text next last e go = absurd cc
one_more k t None (Faulted kind line) more text next last e go = absurd cc
one_more k t None NotEnabled more text next last e go = absurd cc
one_more k t (Some w) answer more text next last e go = absurd cc

-- Where the first events are steps with these lines, the replay goes on with the others behind them.
pub continues : (p : Program) (k : ℕ) (es fs : List Event) (s : State) (text : List ℕ) → lines p k es s ≡ Some text → replay_from p k (es ++ fs) s ≡ goes_on text (replay_from p (k + length es) fs (run p es s))
unfolding replay_from
continues p k [] fs s text e =
    let none : [] ≡ text = cc in
    let same : k ≡ k + length {A = Event} [] = omega arith in
    ap (λ (n : ℕ). replay_from p n fs s) same ∙ ap (λ (x : List ℕ). goes_on x (replay_from p (k + length {A = Event} []) fs s)) none
continues p k (e ∷ es) fs s text is =
    let same : (k + 1) + length es ≡ k + length (e ∷ es) = omega arith in
    one_more (k + 1) e.thread (step_overflow p s e) (step p s e) (lines p (k + 1) es (left_by s (step p s e))) text (replay_from p (k + 1) (es ++ fs) (left_by s (step p s e))) (replay_from p (k + length (e ∷ es)) fs (run p es (left_by s (step p s e)))) is
    (λ rest more. continues p (k + 1) es fs (left_by s (step p s e)) rest more ∙ ap (λ (n : ℕ). goes_on rest (replay_from p n fs (run p es (left_by s (step p s e))))) same)

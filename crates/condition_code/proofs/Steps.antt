-- A path's steps: of two paths, of one that is guarded, and their conditions.
use Rattle.std.specs.Prelude.{ℕ, List, [], ◌∷◌, ◌≡◌, ◌++◌, length, map}
use Rattle.std.proofs.Common.{refl, ap, sym, ◌∙◌}
use Rattle.std.proofs.lemmas.List.{append-nil, append_assoc, map-append, take_at}
use Rattle.terms.specs.Formula.{Formula}
use Rattle.conditions.specs.Formulas.{imp, all_of}
use Rattle.conditions.specs.Paths.{Path, Done, Check, Fact, Branch, Standalone, sequence, facts, guarded, conditions, Execution, check_each}
use Rattle.conditions.specs.Paths as path
use Rattle.condition_code.specs.Steps.{FormulaStep, Checked, Known, Alone, Entered, Left, steps_of, guard_step, all_checks, facts_of, conditions_left}

pub steps_sequence : (q r : Path) → steps_of (sequence q r) ≡ steps_of q ++ steps_of r
steps_sequence Done r = refl
steps_sequence (Check f q) r = ap (λ (s : List FormulaStep). Checked f ∷ s) (steps_sequence q r)
steps_sequence (Fact f q) r = ap (λ (s : List FormulaStep). Known f ∷ s) (steps_sequence q r)
steps_sequence (Branch b q) r =
    ap (λ (s : List FormulaStep). (Entered ∷ steps_of b) ++ Left ∷ s) (steps_sequence q r) ∙ sym (append_assoc (Entered ∷ steps_of b) (Left ∷ steps_of q) (steps_of r))
steps_sequence (Standalone f q) r = ap (λ (s : List FormulaStep). Alone f ∷ s) (steps_sequence q r)

pub steps_guarded : (f : Formula) (q : Path) → steps_of (guarded f q) ≡ map (guard_step f) (steps_of q)
steps_guarded f Done = refl
steps_guarded f (Check g q) = ap (λ (s : List FormulaStep). Checked (imp f g) ∷ s) (steps_guarded f q)
steps_guarded f (Fact g q) = ap (λ (s : List FormulaStep). Known g ∷ s) (steps_guarded f q)
steps_guarded f (Branch b q) =
    ap (λ (s : List FormulaStep). (Entered ∷ s) ++ Left ∷ steps_of (guarded f q)) (steps_guarded f b) ∙ ap (λ (s : List FormulaStep). (Entered ∷ map (guard_step f) (steps_of b)) ++ Left ∷ s) (steps_guarded f q) ∙ sym (map-append (guard_step f) (Entered ∷ steps_of b) (Left ∷ steps_of q))
steps_guarded f (Standalone g q) = ap (λ (s : List FormulaStep). Alone g ∷ s) (steps_guarded f q)

-- Checks and facts before an execution.

pub check_each_path : {A : Type 0} (fs : List Formula) (t : Execution A) → (check_each fs t).path ≡ sequence (all_checks fs) t.path
check_each_path [] t = refl
check_each_path (f ∷ fs) t = ap (λ (q : Path). Check f q) (check_each_path fs t)

pub check_each_gives : {A : Type 0} (fs : List Formula) (t : Execution A) → (check_each fs t).gives ≡ t.gives
check_each_gives [] t = refl
check_each_gives (f ∷ fs) t = check_each_gives fs t

pub all_facts_path : {A : Type 0} (fs : List Formula) (t : Execution A) → (path.all_facts fs t).path ≡ sequence (facts_of fs) t.path
all_facts_path [] t = refl
all_facts_path (f ∷ fs) t = ap (λ (q : Path). Fact f q) (all_facts_path fs t)

pub all_facts_gives : {A : Type 0} (fs : List Formula) (t : Execution A) → (path.all_facts fs t).gives ≡ t.gives
all_facts_gives [] t = refl
all_facts_gives (f ∷ fs) t = all_facts_gives fs t

-- The conditions of a path, and of what is left behind it.
pub left_behind : (known : List Formula) (marks : List ℕ) (q : Path) (rest : List FormulaStep) → conditions_left known marks (steps_of q ++ rest) ≡ conditions known q ++ conditions_left (known ++ facts q) marks rest
left_behind known marks Done rest = ap (λ (k : List Formula). conditions_left k marks rest) (sym (append-nil known))
left_behind known marks (Check f q) rest =
    ap (λ (s : List Formula). imp (all_of known) f ∷ s) (left_behind (known ++ f ∷ []) marks q rest ∙ ap (λ (k : List Formula). conditions (known ++ f ∷ []) q ++ conditions_left k marks rest) (append_assoc known (f ∷ []) (facts q)))
left_behind known marks (Fact f q) rest =
    left_behind (known ++ f ∷ []) marks q rest ∙ ap (λ (k : List Formula). conditions (known ++ f ∷ []) q ++ conditions_left k marks rest) (append_assoc known (f ∷ []) (facts q))
left_behind known marks (Branch b q) rest =
    ap (λ (s : List FormulaStep). conditions_left known (length known ∷ marks) s) (append_assoc (steps_of b) (Left ∷ steps_of q) rest) ∙ left_behind known (length known ∷ marks) b (Left ∷ steps_of q ++ rest) ∙ ap (λ (k : List Formula). conditions known b ++ conditions_left k marks (steps_of q ++ rest)) (take_at known (facts b) (length known) refl) ∙ ap (λ (s : List Formula). conditions known b ++ s) (left_behind known marks q rest) ∙ sym (append_assoc (conditions known b) (conditions known q) (conditions_left (known ++ facts q) marks rest))
left_behind known marks (Standalone f q) rest = ap (λ (s : List Formula). f ∷ s) (left_behind known marks q rest)

-- of a whole path from nothing they are its conditions
pub whole_left : (q : Path) → conditions_left [] [] (steps_of q) ≡ conditions [] q
whole_left q =
    ap (λ (s : List FormulaStep). conditions_left [] [] s) (sym (append-nil (steps_of q))) ∙ left_behind [] [] q [] ∙ append-nil (conditions [] q)

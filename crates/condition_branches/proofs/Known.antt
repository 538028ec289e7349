-- The facts of a path, by its steps.
use Rattle.std.specs.Prelude.{ℕ, zero, suc, List, [], ◌∷◌, ◌≡◌, ◌++◌, ◌<◌, ◌≤◌, ◌+◌, length, drop}
use Rattle.std.proofs.Common.{refl, ap, sym, ◌∙◌, subst, get_or, arith}
use Rattle.std.proofs.lemmas.List.{append-nil, append_assoc, drop_at, drop_more, drop_all, length-append}
use Rattle.terms.specs.declared.term.Term.{Term}
use Rattle.terms.specs.Formula.{Formula}
use Rattle.conditions.specs.Paths.{Path, Done, Check, Fact, Branch, Standalone, facts}
use Rattle.condition_formulas.specs.Standing.{StandAll}
use Rattle.condition_formulas.proofs.Rows.{none, more, both, same_ids}
use Rattle.condition_code.specs.declared.walk.Step.{Step}
use Rattle.condition_code.specs.declared.walk.Step.TheVariants as code
use Rattle.condition_code.specs.Steps.{FormulaStep, Checked, Known, Alone, Entered, Left, steps_of}
use Rattle.condition_code.specs.Walks.{IsStep, EachStep, Goes}
use Rattle.condition_code.proofs.Emitters.{by_check, by_fact, by_alone, by_enter, by_leave}
use Rattle.condition_branches.specs.Facts.{depth_behind, fact_of, fact_at, facts_left}

-- what the loop over the steps keeps, a step on
pub facts_on : (steps : List Step) (i : ℕ) (e : Step) (ids next whole : List ℕ) (d m : ℕ) → i < length steps → ids ++ facts_left d (drop i steps) ≡ whole → next ≡ ids ++ fact_at d (get_or steps i e) → m ≡ depth_behind d (get_or steps i e) → next ++ facts_left m (drop (i + 1) steps) ≡ whole
facts_on steps i e ids next whole d m below so_far more deeper =
    let c : Step = get_or steps i e in
    let rest : List Step = drop (i + 1) steps in
    ap (λ (js : List ℕ). js ++ facts_left m rest) more ∙ ap (λ (k : ℕ). (ids ++ fact_at d c) ++ facts_left k rest) deeper ∙ append_assoc ids (fact_at d c) (facts_left (depth_behind d c) rest) ∙ ap (λ (cs : List Step). ids ++ facts_left d cs) (sym (drop_more steps i e below)) ∙ so_far

pub facts_end : (steps : List Step) (i : ℕ) (ids whole : List ℕ) (d : ℕ) → length steps ≤ i → ids ++ facts_left d (drop i steps) ≡ whole → ids ≡ whole
facts_end steps i ids whole d above so_far = sym (ap (λ (cs : List Step). ids ++ facts_left d cs) (drop_all i steps above) ∙ append-nil ids) ∙ so_far

-- The same of steps of formulas.

abbrev behind : ℕ → FormulaStep → ℕ
behind d (Checked f) = d
behind d (Known f) = d
behind d (Alone f) = d
behind d Entered = suc d
behind zero Left = zero
behind (suc d) Left = d

abbrev formulas_of : FormulaStep → List Formula
formulas_of (Checked f) = f ∷ []
formulas_of (Known f) = f ∷ []
formulas_of (Alone f) = []
formulas_of Entered = []
formulas_of Left = []

abbrev known : ℕ → FormulaStep → List Formula
known zero e = formulas_of e
known (suc d) e = []

abbrev all_known : ℕ → List FormulaStep → List Formula
all_known d [] = []
all_known d (e ∷ es) = known d e ++ all_known (behind d e) es

-- within a way that is gone a path leaves nothing
inside : (q : Path) (d : ℕ) (rest : List FormulaStep) → all_known (suc d) (steps_of q ++ rest) ≡ all_known (suc d) rest
inside Done d rest = refl
inside (Check f q) d rest = inside q d rest
inside (Fact f q) d rest = inside q d rest
inside (Branch b q) d rest =
    ap (λ (es : List FormulaStep). all_known (suc (suc d)) es) (append_assoc (steps_of b) (Left ∷ steps_of q) rest) ∙ inside b (suc d) (Left ∷ steps_of q ++ rest) ∙ inside q d rest
inside (Standalone f q) d rest = inside q d rest

outside : (q : Path) (rest : List FormulaStep) → all_known zero (steps_of q ++ rest) ≡ facts q ++ all_known zero rest
outside Done rest = refl
outside (Check f q) rest = ap (λ (fs : List Formula). f ∷ fs) (outside q rest)
outside (Fact f q) rest = ap (λ (fs : List Formula). f ∷ fs) (outside q rest)
outside (Branch b q) rest =
    ap (λ (es : List FormulaStep). all_known (suc zero) es) (append_assoc (steps_of b) (Left ∷ steps_of q) rest) ∙ inside b zero (Left ∷ steps_of q ++ rest) ∙ outside q rest
outside (Standalone f q) rest = outside q rest

all_facts : (q : Path) → all_known zero (steps_of q) ≡ facts q
all_facts q = ap (λ (es : List FormulaStep). all_known zero es) (sym (append-nil (steps_of q))) ∙ outside q [] ∙ append-nil (facts q)

-- The code's steps leave what those of formulas leave.

record Matches (ts : List Term) (c : Step) (e : FormulaStep) : Type 0 where
  here : StandAll ts (fact_of c) (formulas_of e)
  there : (d : ℕ) → depth_behind d c ≡ behind d e

leaving : (d : ℕ) → depth_behind d code.Leave ≡ behind d Left
leaving zero = refl
leaving (suc d) = refl

matches : (ts : List Term) (c : Step) (e : FormulaStep) → IsStep ts c e → Matches ts c e
matches ts (code.Check id) e h = by_check (λ (e : FormulaStep). Matches ts (code.Check id) e) refl (λ f is. record { here = more is none; there = λ d. refl }) e h
matches ts (code.Fact id) e h = by_fact (λ (e : FormulaStep). Matches ts (code.Fact id) e) refl (λ f is. record { here = more is none; there = λ d. refl }) e h
matches ts (code.Standalone id) e h = by_alone (λ (e : FormulaStep). Matches ts (code.Standalone id) e) refl (λ f is. record { here = none; there = λ d. refl }) e h
matches ts code.Enter e h = by_enter (λ (e : FormulaStep). Matches ts code.Enter e) refl (record { here = none; there = λ d. refl }) e h
matches ts code.Leave e h = by_leave (λ (e : FormulaStep). Matches ts code.Leave e) refl (record { here = none; there = leaving }) e h

at_depth : (ts : List Term) (d : ℕ) (c : Step) (e : FormulaStep) → Matches ts c e → StandAll ts (fact_at d c) (known d e)
at_depth ts zero c e m = m.here
at_depth ts (suc d) c e m = none

each_left : (ts : List Term) (d : ℕ) (cs : List Step) (es : List FormulaStep) → EachStep ts cs es → StandAll ts (facts_left d cs) (all_known d es)
each_left ts d [] [] h = none
each_left ts d [] (e ∷ es) h = absurd h
each_left ts d (c ∷ cs) [] h = absurd h
each_left ts d (c ∷ cs) (e ∷ es) h =
    let m = matches ts c e h.0 in
    both (at_depth ts d c e m) (subst (λ (n : ℕ). StandAll ts (facts_left (depth_behind d c) cs) (all_known n es)) (m.there d) (each_left ts (depth_behind d c) cs es h.1))

-- what the path's steps from a place on leave are the facts of the way that was gone from there
pub facts_stand : {first now : List Term} {before path rest : List Step} {ids : List ℕ} (q : Path) (from : ℕ) → length before ≡ from → Goes first now before path q → rest ≡ drop from path → ids ≡ facts_left 0 rest → StandAll now ids (facts q)
facts_stand {now = now} {before = before} {rest = rest} {ids = ids} q from long goes end is =
    let more : rest ≡ goes.more = end ∙ ap (λ (p : List Step). drop from p) goes.path ∙ drop_at before goes.more from long in
    same_ids (is ∙ ap (λ (cs : List Step). facts_left 0 cs) more) (subst (λ (fs : List Formula). StandAll now (facts_left 0 goes.more) fs) (all_facts q) (each_left now 0 goes.more (steps_of q) goes.steps.each))

-- the place is on the path
pub on_path : {first now : List Term} {before path : List Step} {q : Path} (from : ℕ) → length before ≡ from → Goes first now before path q → from ≤ length path
on_path {before = before} from long goes = omega (arith, ap length goes.path, length-append before goes.more, long)

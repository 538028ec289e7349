-- Walks: put together, and kept.
use Rattle.std.specs.Prelude.{ℕ, zero, suc, List, [], ◌∷◌, ◌≡◌, ◌++◌, ◌<◌, ◌≤◌, ◌+◌, length, map, take, drop}
use Rattle.std.proofs.Common.{refl, ap, sym, ◌∙◌, subst, get_or, arith}
use Rattle.std.proofs.lemmas.List.{append-nil, append_assoc, map-append, take_at, drop_at}
use Rattle.std.proofs.Math.Seq.{take-length}
use Rattle.terms.specs.declared.term.Term.{Term}
use Rattle.terms.specs.Formula.{Formula}
use Rattle.conditions.specs.Paths.{Path, Done, Check, Fact, Branch, Standalone, Execution, Gives, sequence, guarded, prefix, check, check_each}
use Rattle.conditions.specs.Paths as path
use Rattle.conditions.specs.Symbolic as symbolic
use Rattle.condition_formulas.specs.declared.symbolic.Symbolic.{Symbolic}
use Rattle.condition_formulas.specs.Standing.{StandsAs, StandAll, Each, Later}
use Rattle.condition_formulas.specs.Symbolics.{IsSymbolic}
use Rattle.condition_code.specs.declared.walk.Step.{Step}
use Rattle.condition_code.specs.declared.walk.Step.TheVariants as code
use Rattle.condition_code.specs.Steps.{FormulaStep, Checked, Known, Alone, Entered, Left, steps_of, guard_step, all_checks, facts_of}
use Rattle.condition_code.specs.Walks.{Alike, IsStep, EachStep, StandSteps, Goes, GoesTo}
use Rattle.condition_code.proofs.Steps.{steps_sequence, steps_guarded, check_each_path, check_each_gives, all_facts_path, all_facts_gives}

-- Steps.

alike_later : (old new : List Term) (c : Step) (d : FormulaStep) → Later old new → Alike old c d → Alike new c d
alike_later old new (code.Check n) (Checked f) later h = later n f h
alike_later old new (code.Check n) (Known f) later h = absurd h
alike_later old new (code.Check n) (Alone f) later h = absurd h
alike_later old new (code.Check n) Entered later h = absurd h
alike_later old new (code.Check n) Left later h = absurd h
alike_later old new (code.Fact n) (Checked f) later h = absurd h
alike_later old new (code.Fact n) (Known f) later h = later n f h
alike_later old new (code.Fact n) (Alone f) later h = absurd h
alike_later old new (code.Fact n) Entered later h = absurd h
alike_later old new (code.Fact n) Left later h = absurd h
alike_later old new (code.Standalone n) (Checked f) later h = absurd h
alike_later old new (code.Standalone n) (Known f) later h = absurd h
alike_later old new (code.Standalone n) (Alone f) later h = later n f h
alike_later old new (code.Standalone n) Entered later h = absurd h
alike_later old new (code.Standalone n) Left later h = absurd h
alike_later old new code.Enter (Checked f) later h = absurd h
alike_later old new code.Enter (Known f) later h = absurd h
alike_later old new code.Enter (Alone f) later h = absurd h
alike_later old new code.Enter Entered later h = tt
alike_later old new code.Enter Left later h = absurd h
alike_later old new code.Leave (Checked f) later h = absurd h
alike_later old new code.Leave (Known f) later h = absurd h
alike_later old new code.Leave (Alone f) later h = absurd h
alike_later old new code.Leave Entered later h = absurd h
alike_later old new code.Leave Left later h = tt

pub step_later : {old new : List Term} {c : Step} {d : FormulaStep} → Later old new → IsStep old c d → IsStep new c d
step_later {old} {new} {c} {d} later h = record { is = alike_later old new c d later h.is }

each_later : (old new : List Term) (cs : List Step) (ds : List FormulaStep) → Later old new → EachStep old cs ds → EachStep new cs ds
each_later old new [] [] later h = tt
each_later old new [] (d ∷ ds) later h = absurd h
each_later old new (c ∷ cs) [] later h = absurd h
each_later old new (c ∷ cs) (d ∷ ds) later h = (step_later later h.0, each_later old new cs ds later h.1)

pub steps_later : {old new : List Term} {cs : List Step} {ds : List FormulaStep} → Later old new → StandSteps old cs ds → StandSteps new cs ds
steps_later {old} {new} {cs} {ds} later h = record { each = each_later old new cs ds later h.each }

each_both : (ts : List Term) (as' bs : List Step) (cs ds : List FormulaStep) → EachStep ts as' cs → EachStep ts bs ds → EachStep ts (as' ++ bs) (cs ++ ds)
each_both ts [] bs [] ds first second = second
each_both ts [] bs (c ∷ cs) ds first second = absurd first
each_both ts (a ∷ as') bs [] ds first second = absurd first
each_both ts (a ∷ as') bs (c ∷ cs) ds first second = (first.0, each_both ts as' bs cs ds first.1 second)

pub both_steps : {ts : List Term} {as' bs : List Step} {cs ds : List FormulaStep} → StandSteps ts as' cs → StandSteps ts bs ds → StandSteps ts (as' ++ bs) (cs ++ ds)
both_steps {ts} {as'} {bs} {cs} {ds} first second = record { each = each_both ts as' bs cs ds first.each second.each }

pub no_steps : {ts : List Term} → StandSteps ts [] []
no_steps = record { each = tt }

pub one_step : {ts : List Term} {c : Step} {d : FormulaStep} → IsStep ts c d → StandSteps ts (c ∷ []) (d ∷ [])
one_step h = record { each = (h, tt) }

pub as_steps : {ts : List Term} {cs : List Step} {ds es : List FormulaStep} → ds ≡ es → StandSteps ts cs ds → StandSteps ts cs es
as_steps {ts} {cs} e h = subst (λ (ds : List FormulaStep). StandSteps ts cs ds) e h

pub same_steps : {ts : List Term} {cs ks : List Step} {ds : List FormulaStep} → cs ≡ ks → StandSteps ts ks ds → StandSteps ts cs ds
same_steps {ts} {ds = ds} e h = subst (λ (js : List Step). StandSteps ts js ds) (sym e) h

-- Ways that a walk goes.

pub nowhere : {old new : List Term} {p : List Step} → Later old new → Goes old new p p Done
nowhere {p = p} later = record { later = later; more = []; path = sym (append-nil p); steps = no_steps }

pub by_step : {ts : List Term} {p r : List Step} {c : Step} {d : FormulaStep} {q : Path} → r ≡ p ++ c ∷ [] → IsStep ts c d → steps_of q ≡ d ∷ [] → Goes ts ts p r q
by_step {c = c} path is one = record { later = λ n f h. h; more = c ∷ []; path = path; steps = as_steps (sym one) (one_step is) }

pub by_check : {ts : List Term} {p r : List Step} {id : ℕ} {f : Formula} → r ≡ p ++ code.Check id ∷ [] → StandsAs ts id f → Goes ts ts p r (Check f Done)
by_check path is = by_step path (record { is = is }) refl

pub by_fact : {ts : List Term} {p r : List Step} {id : ℕ} {f : Formula} → r ≡ p ++ code.Fact id ∷ [] → StandsAs ts id f → Goes ts ts p r (Fact f Done)
by_fact path is = by_step path (record { is = is }) refl

pub by_standalone : {ts : List Term} {p r : List Step} {id : ℕ} {f : Formula} → r ≡ p ++ code.Standalone id ∷ [] → StandsAs ts id f → Goes ts ts p r (Standalone f Done)
by_standalone path is = by_step path (record { is = is }) refl

each_check : (ts : List Term) (ids : List ℕ) (fs : List Formula) → Each ts ids fs → EachStep ts (map code.Check ids) (steps_of (all_checks fs))
each_check ts [] [] h = tt
each_check ts [] (f ∷ fs) h = absurd h
each_check ts (id ∷ ids) [] h = absurd h
each_check ts (id ∷ ids) (f ∷ fs) h = (record { is = h.0 }, each_check ts ids fs h.1)

pub by_checks : {ts : List Term} {p r : List Step} {ids : List ℕ} {fs : List Formula} → r ≡ p ++ map code.Check ids → StandAll ts ids fs → Goes ts ts p r (all_checks fs)
by_checks {ts} {ids = ids} {fs = fs} path all = record { later = λ n f h. h; more = map code.Check ids; path = path; steps = record { each = each_check ts ids fs all.each } }

each_fact : (ts : List Term) (ids : List ℕ) (fs : List Formula) → Each ts ids fs → EachStep ts (map code.Fact ids) (steps_of (facts_of fs))
each_fact ts [] [] h = tt
each_fact ts [] (f ∷ fs) h = absurd h
each_fact ts (id ∷ ids) [] h = absurd h
each_fact ts (id ∷ ids) (f ∷ fs) h = (record { is = h.0 }, each_fact ts ids fs h.1)

pub by_facts : {ts : List Term} {p r : List Step} {ids : List ℕ} {fs : List Formula} → r ≡ p ++ map code.Fact ids → StandAll ts ids fs → Goes ts ts p r (facts_of fs)
by_facts {ts} {ids = ids} {fs = fs} path all = record { later = λ n f h. h; more = map code.Fact ids; path = path; steps = record { each = each_fact ts ids fs all.each } }

-- one way and then another
pub goes_then : {g0 g1 g2 : List Term} {p0 p1 p2 : List Step} {q r : Path} → Goes g0 g1 p0 p1 q → Goes g1 g2 p1 p2 r → Goes g0 g2 p0 p2 (sequence q r)
goes_then {p0 = p0} {q = q} {r = r} first second = record {
  later = λ n f h. second.later n f (first.later n f h);
  more = first.more ++ second.more;
  path = second.path ∙ ap (λ (p : List Step). p ++ second.more) first.path ∙ append_assoc p0 first.more second.more;
  steps = as_steps (sym (steps_sequence q r)) (both_steps (steps_later second.later first.steps) second.steps);
}

-- formulas that are built before, and behind
pub built_then : {g0 g1 g2 : List Term} {p0 p1 : List Step} {q : Path} → Later g0 g1 → Goes g1 g2 p0 p1 q → Goes g0 g2 p0 p1 q
built_then later goes = record { later = λ n f h. goes.later n f (later n f h); more = goes.more; path = goes.path; steps = goes.steps }

pub then_built : {g0 g1 g2 : List Term} {p0 p1 : List Step} {q : Path} → Goes g0 g1 p0 p1 q → Later g1 g2 → Goes g0 g2 p0 p1 q
then_built goes later = record { later = λ n f h. later n f (goes.later n f h); more = goes.more; path = goes.path; steps = steps_later later goes.steps }

pub goes_as : {g0 g1 : List Term} {p0 p1 : List Step} {q r : Path} → steps_of q ≡ steps_of r → Goes g0 g1 p0 p1 q → Goes g0 g1 p0 p1 r
goes_as e goes = record { later = goes.later; more = goes.more; path = goes.path; steps = as_steps e goes.steps }

-- a way between its marks
pub branched : {g0 g1 : List Term} {p0 p1 p2 p3 : List Step} {q : Path} → p1 ≡ p0 ++ code.Enter ∷ [] → Goes g0 g1 p1 p2 q → p3 ≡ p2 ++ code.Leave ∷ [] → Goes g0 g1 p0 p3 (Branch q Done)
branched {p0 = p0} first goes last = record {
  later = goes.later;
  more = (code.Enter ∷ goes.more) ++ code.Leave ∷ [];
  path = last ∙ ap (λ (p : List Step). p ++ code.Leave ∷ []) (goes.path ∙ ap (λ (p : List Step). p ++ goes.more) first ∙ append_assoc p0 (code.Enter ∷ []) goes.more) ∙ append_assoc p0 (code.Enter ∷ goes.more) (code.Leave ∷ []);
  steps = both_steps (both_steps (one_step (record { is = tt })) goes.steps) (one_step (record { is = tt }));
}

-- Executions.

pub gives : {A B : Type 0} {Is : List Term → A → B → Type 0} {g0 g1 : List Term} {p : List Step} {v : A} {b : B} → Later g0 g1 → Is g1 v b → GoesTo Is g0 g1 p p v (Gives b)
gives later is = record { gives = is; goes = nowhere later }

pub run_then : {A B C D : Type 0} {IsA : List Term → A → B → Type 0} {IsC : List Term → C → D → Type 0} {g0 g1 g2 : List Term} {p0 p1 p2 : List Step} {v : A} {w : C} {t : Execution B} {u : Execution D} → GoesTo IsA g0 g1 p0 p1 v t → GoesTo IsC g1 g2 p1 p2 w u → GoesTo IsC g0 g2 p0 p2 w (prefix t.path u)
run_then first second = record { gives = second.gives; goes = goes_then first.goes second.goes }

pub run_built : {A B : Type 0} {Is : List Term → A → B → Type 0} {g0 g1 g2 : List Term} {p0 p1 : List Step} {v : A} {t : Execution B} → Later g0 g1 → GoesTo Is g1 g2 p0 p1 v t → GoesTo Is g0 g2 p0 p1 v t
run_built later goes = record { gives = goes.gives; goes = built_then later goes.goes }

pub check_then : {A B : Type 0} {Is : List Term → A → B → Type 0} {g0 g1 g2 : List Term} {p0 p1 p2 : List Step} {v : A} {f : Formula} {t : Execution B} → Goes g0 g1 p0 p1 (Check f Done) → GoesTo Is g1 g2 p1 p2 v t → GoesTo Is g0 g2 p0 p2 v (check f t)
check_then first second = record { gives = second.gives; goes = goes_then first second.goes }

pub fact_then : {A B : Type 0} {Is : List Term → A → B → Type 0} {g0 g1 g2 : List Term} {p0 p1 p2 : List Step} {v : A} {f : Formula} {t : Execution B} → Goes g0 g1 p0 p1 (Fact f Done) → GoesTo Is g1 g2 p1 p2 v t → GoesTo Is g0 g2 p0 p2 v (path.fact f t)
fact_then first second = record { gives = second.gives; goes = goes_then first second.goes }

pub standalone_then : {A B : Type 0} {Is : List Term → A → B → Type 0} {g0 g1 g2 : List Term} {p0 p1 p2 : List Step} {v : A} {f : Formula} {t : Execution B} → Goes g0 g1 p0 p1 (Standalone f Done) → GoesTo Is g1 g2 p1 p2 v t → GoesTo Is g0 g2 p0 p2 v (path.standalone f t)
standalone_then first second = record { gives = second.gives; goes = goes_then first second.goes }

pub branch_then : {A B : Type 0} {Is : List Term → A → B → Type 0} {g0 g1 g2 : List Term} {p0 p1 p2 : List Step} {v : A} {q : Path} {t : Execution B} → Goes g0 g1 p0 p1 (Branch q Done) → GoesTo Is g1 g2 p1 p2 v t → GoesTo Is g0 g2 p0 p2 v (path.branch q t)
branch_then first second = record { gives = second.gives; goes = goes_then first second.goes }

pub checks_then : {A B : Type 0} {Is : List Term → A → B → Type 0} {g0 g1 g2 : List Term} {p0 p1 p2 : List Step} {v : A} {t : Execution B} (fs : List Formula) → Goes g0 g1 p0 p1 (all_checks fs) → GoesTo Is g1 g2 p1 p2 v t → GoesTo Is g0 g2 p0 p2 v (check_each fs t)
checks_then {B = B} {Is = Is} {g2 = g2} {v = v} {t = t} fs first second = record {
  gives = subst (λ (b : B). Is g2 v b) (sym (check_each_gives fs t)) second.gives;
  goes = goes_as (ap steps_of (sym (check_each_path fs t))) (goes_then first second.goes);
}

pub facts_then : {A B : Type 0} {Is : List Term → A → B → Type 0} {g0 g1 g2 : List Term} {p0 p1 p2 : List Step} {v : A} {t : Execution B} (fs : List Formula) → Goes g0 g1 p0 p1 (facts_of fs) → GoesTo Is g1 g2 p1 p2 v t → GoesTo Is g0 g2 p0 p2 v (path.all_facts fs t)
facts_then {B = B} {Is = Is} {g2 = g2} {v = v} {t = t} fs first second = record {
  gives = subst (λ (b : B). Is g2 v b) (sym (all_facts_gives fs t)) second.gives;
  goes = goes_as (ap steps_of (sym (all_facts_path fs t))) (goes_then first second.goes);
}

-- what was guarded behind it
pub symbolic_run : {g0 g2 : List Term} {p0 p2 : List Step} {v : Symbolic} {w : symbolic.Symbolic} {q : Path} → IsSymbolic g2 v w → Goes g0 g2 p0 p2 q → GoesTo IsSymbolic g0 g2 p0 p2 v (record { path = q; gives = w })
symbolic_run is goes = record { gives = is; goes = goes }

-- the way that was gone, from here
pub from_here : {g0 g1 : List Term} {p0 p1 : List Step} {q : Path} → Goes g0 g1 p0 p1 q → Goes g1 g1 p0 p1 q
from_here goes = record { later = λ n f h. h; more = goes.more; path = goes.path; steps = goes.steps }

-- Guards.

pub guards : {first old new : List Term} {before whole behind made : List Step} {q : Path} (f : Formula) (from : ℕ) → Goes first old before whole q → length before ≡ from → Later old new → ((ds : List FormulaStep) → StandSteps old (drop from whole) ds → StandSteps new made (map (guard_step f) ds)) → behind ≡ take from whole ++ made → Goes first new before behind (guarded f q)
guards {old = old} {before = before} {whole = whole} {made = made} {q = q} f from goes long later each path =
    let front : take from whole ≡ before = ap (λ (p : List Step). take from p) goes.path ∙ take_at before goes.more from long in
    let end : drop from whole ≡ goes.more = ap (λ (p : List Step). drop from p) goes.path ∙ drop_at before goes.more from long in
    record {
      later = λ n g h. later n g (goes.later n g h);
      more = made;
      path = path ∙ ap (λ (p : List Step). p ++ made) front;
      steps = as_steps (sym (steps_guarded f q)) (each (steps_of q) (subst (λ (cs : List Step). StandSteps old cs (steps_of q)) (sym end) goes.steps));
    }

no_more_steps : (ts : List Term) (ds : List FormulaStep) (f : Formula) → EachStep ts [] ds → EachStep ts [] (map (guard_step f) ds)
no_more_steps ts [] f h = tt
no_more_steps ts (d ∷ ds) f h = absurd h

-- nothing stands behind the place
pub guards_none : {first old : List Term} {before whole : List Step} {q : Path} (f : Formula) (from : ℕ) → Goes first old before whole q → length before ≡ from → take from whole ≡ whole → drop from whole ≡ [] → Goes first old before whole (guarded f q)
guards_none {old = old} {whole = whole} f from goes long front end =
    guards {made = []} f from goes long (λ n g h. h) (λ ds h. record { each = no_more_steps old ds f (subst (λ (cs : List Step). EachStep old cs ds) end h.each) }) (sym (append-nil (take from whole) ∙ front))

each_step_long : (ts : List Term) (cs : List Step) (ds : List FormulaStep) → EachStep ts cs ds → length cs ≡ length ds
each_step_long ts [] [] each = refl
each_step_long ts [] (d ∷ ds) each = absurd each
each_step_long ts (c ∷ cs) [] each = absurd each
each_step_long ts (c ∷ cs) (d ∷ ds) each = ap suc (each_step_long ts cs ds each.1)

pub steps_long : {ts : List Term} {cs : List Step} {ds : List FormulaStep} → StandSteps ts cs ds → length cs ≡ length ds
steps_long {ts} {cs} {ds} all = each_step_long ts cs ds all.each

-- what stands at a place
pub record StepAt (ts : List Term) (c : Step) (i : ℕ) (cs : List Step) (ds : List FormulaStep) : Type 0 where
  pub step : FormulaStep
  pub is : drop i ds ≡ step ∷ drop (i + 1) ds
  pub here : IsStep ts c step
  pub rest : StandSteps ts (drop (i + 1) cs) (drop (i + 1) ds)

each_step_at : (ts : List Term) (cs : List Step) (ds : List FormulaStep) (i : ℕ) (e : Step) → EachStep ts cs ds → i < length cs → (d : FormulaStep) × (drop i ds ≡ d ∷ drop (suc i) ds) × IsStep ts (get_or cs i e) d × EachStep ts (drop (suc i) cs) (drop (suc i) ds)
each_step_at ts [] ds i e each below = absurd (omega arith)
each_step_at ts (c ∷ cs) [] i e each below = absurd each
each_step_at ts (c ∷ cs) (d ∷ ds) zero e each below = (d, refl, each.0, each.1)
each_step_at ts (c ∷ cs) (d ∷ ds) (suc i) e each below = each_step_at ts cs ds i e each.1 (omega arith)

pub step_at : {ts : List Term} {cs : List Step} {ds : List FormulaStep} (i : ℕ) (e : Step) → StandSteps ts cs ds → i < length cs → StepAt ts (get_or cs i e) i cs ds
step_at {ts} {cs} {ds} i e all below =
    let found = each_step_at ts cs ds i e all.each below in
    let next : suc i ≡ i + 1 = omega arith in
    record {
      step = found.0;
      is = found.1 ∙ ap (λ (j : ℕ). found.0 ∷ drop j ds) next;
      here = found.2;
      rest = record { each = subst (λ (j : ℕ). EachStep ts (drop j cs) (drop j ds)) next found.3 };
    }

-- What a loop that guards steps one by one keeps.
pub record GuardedTo (old new : List Term) (test : ℕ) (cs made : List Step) (i : ℕ) : Type 0 where
  pub later : Later old new
  pub done : (f : Formula) (ds : List FormulaStep) → StandsAs old test f → StandSteps old cs ds → StandSteps new made (map (guard_step f) (take i ds))

pub guarded_none : {ts : List Term} {test : ℕ} {cs made : List Step} → made ≡ [] → GuardedTo ts ts test cs made 0
guarded_none {ts} {made = made} e = record { later = λ n f h. h; done = λ f ds is all. subst (λ (ms : List Step). StandSteps ts ms []) (sym e) no_steps }

take_step : (ds : List FormulaStep) (i : ℕ) (d : FormulaStep) (rest : List FormulaStep) → drop i ds ≡ d ∷ rest → take (suc i) ds ≡ take i ds ++ d ∷ []
take_step [] zero d rest is = cc
take_step [] (suc i) d rest is = cc
take_step (e ∷ es) zero d rest is = cc
take_step (e ∷ es) (suc i) d rest is = ap (λ (hs : List FormulaStep). e ∷ hs) (take_step es i d rest is)

take_one : (ds : List FormulaStep) (i : ℕ) (d : FormulaStep) → drop i ds ≡ d ∷ drop (i + 1) ds → take (i + 1) ds ≡ take i ds ++ d ∷ []
take_one ds i d is =
    let next : i + 1 ≡ suc i = omega arith in
    ap (λ (j : ℕ). take j ds) next ∙ take_step ds i d (drop (i + 1) ds) is

pub guarded_more : (old mid new : List Term) (test : ℕ) (cs made next : List Step) (i : ℕ) (e one : Step) → GuardedTo old mid test cs made i → i < length cs → Later mid new → ((f : Formula) (d : FormulaStep) → StandsAs mid test f → IsStep mid (get_or cs i e) d → IsStep new one (guard_step f d)) → next ≡ made ++ one ∷ [] → GuardedTo old new test cs next (i + 1)
guarded_more old mid new test cs made next i e one to below later guarded more = record {
  later = λ n f h. later n f (to.later n f h);
  done = λ f ds is all.
      let here = step_at i e all below in
      let whole : map (guard_step f) (take (i + 1) ds) ≡ map (guard_step f) (take i ds) ++ guard_step f here.step ∷ [] =
      ap (map (guard_step f)) (take_one ds i here.step here.is) ∙ map-append (guard_step f) (take i ds) (here.step ∷ []) in
      let both = both_steps (steps_later later (to.done f ds is all)) (one_step (guarded f here.step (to.later _ _ is) (step_later to.later here.here))) in
      subst (λ (ks : List Step). StandSteps new ks (map (guard_step f) (take (i + 1) ds))) (sym more) (as_steps (sym whole) both);
}

pub guarded_all : {old new : List Term} {test : ℕ} {cs made : List Step} {i : ℕ} → GuardedTo old new test cs made i → length cs ≤ i → i ≤ length cs → (f : Formula) (ds : List FormulaStep) → StandsAs old test f → StandSteps old cs ds → StandSteps new made (map (guard_step f) ds)
guarded_all {new = new} {made = made} {i = i} to above below f ds is all =
    let long : i ≡ length ds = omega (arith, steps_long all) in
    let whole : take i ds ≡ ds = ap (λ (k : ℕ). take k ds) long ∙ take-length ds in
    subst (λ (es : List FormulaStep). StandSteps new made (map (guard_step f) es)) whole (to.done f ds is all)

-- The conditions of a path, one by one.
use Rattle.std.specs.Prelude.{ℕ, zero, suc, take, List, [], ◌∷◌, ◌≡◌, ◌++◌, ◌<◌, ◌≤◌, ◌+◌, length, drop, reverse, Option, Some, None}
use Rattle.std.proofs.Common.{refl, ap, sym, ◌∙◌, subst, get_or}
use Rattle.std.proofs.lemmas.List.{drop_more, drop_all, reverse-append}
use Rattle.terms.specs.declared.term.Term.{Term}
use Rattle.terms.specs.Formula.{Formula}
use Rattle.conditions.specs.Formulas.{imp, all_of}
use Rattle.conditions.specs.Paths.{Path, conditions}
use Rattle.condition_formulas.specs.Standing.{StandsAs, StandAll, Each, Later}
use Rattle.condition_formulas.proofs.Rows.{none}
use Rattle.condition_code.specs.declared.walk.Step.{Step}
use Rattle.condition_code.specs.declared.walk.Step.TheVariants as code
use Rattle.condition_code.specs.declared.emitter.Emitter.{Emitter}
use Rattle.condition_code.specs.Steps.{FormulaStep, Checked, Known, Alone, Entered, Left, steps_of, known_before, marks_around, conditions_left}
use Rattle.condition_code.specs.Walks.{Alike, IsStep, EachStep, StandSteps}
use Rattle.condition_code.specs.Emitters.{Leaves, Holds, First, Passes}
use Rattle.condition_code.proofs.Steps.{whole_left}
use Rattle.condition_code.proofs.Walks.{steps_later}

pub at_start : {ids marks : List ℕ} → ids ≡ [] → marks ≡ [] → (ts : List Term) (path : List Step) (q : Path) → StandSteps ts path (steps_of q) → Leaves ts 0 ids marks path (conditions [] q)
at_start {ids} {marks} no_ids no_marks ts path q steps = record {
  known = [];
  steps = steps_of q;
  known_are = subst (λ (is : List ℕ). StandAll ts is []) (sym no_ids) none;
  steps_are = steps;
  left = sym (ap (λ (m : List ℕ). conditions_left [] (reverse m) (steps_of q)) no_marks ∙ whole_left q);
}

-- Steps of each kind, taken apart.

alike_check : {ts : List Term} {id : ℕ} (P : FormulaStep → Type 0) → ((f : Formula) → StandsAs ts id f → P (Checked f)) → (d : FormulaStep) → Alike ts (code.Check id) d → P d
alike_check P go (Checked f) h = go f h
alike_check P go (Known f) h = absurd h
alike_check P go (Alone f) h = absurd h
alike_check P go Entered h = absurd h
alike_check P go Left h = absurd h

alike_fact : {ts : List Term} {id : ℕ} (P : FormulaStep → Type 0) → ((f : Formula) → StandsAs ts id f → P (Known f)) → (d : FormulaStep) → Alike ts (code.Fact id) d → P d
alike_fact P go (Checked f) h = absurd h
alike_fact P go (Known f) h = go f h
alike_fact P go (Alone f) h = absurd h
alike_fact P go Entered h = absurd h
alike_fact P go Left h = absurd h

alike_alone : {ts : List Term} {id : ℕ} (P : FormulaStep → Type 0) → ((f : Formula) → StandsAs ts id f → P (Alone f)) → (d : FormulaStep) → Alike ts (code.Standalone id) d → P d
alike_alone P go (Checked f) h = absurd h
alike_alone P go (Known f) h = absurd h
alike_alone P go (Alone f) h = go f h
alike_alone P go Entered h = absurd h
alike_alone P go Left h = absurd h

alike_enter : (ts : List Term) (P : FormulaStep → Type 0) → P Entered → (d : FormulaStep) → Alike ts code.Enter d → P d
alike_enter ts P go (Checked f) h = absurd h
alike_enter ts P go (Known f) h = absurd h
alike_enter ts P go (Alone f) h = absurd h
alike_enter ts P go Entered h = go
alike_enter ts P go Left h = absurd h

alike_leave : (ts : List Term) (P : FormulaStep → Type 0) → P Left → (d : FormulaStep) → Alike ts code.Leave d → P d
alike_leave ts P go (Checked f) h = absurd h
alike_leave ts P go (Known f) h = absurd h
alike_leave ts P go (Alone f) h = absurd h
alike_leave ts P go Entered h = absurd h
alike_leave ts P go Left h = go

pub by_check : {ts : List Term} {c : Step} {id : ℕ} (P : FormulaStep → Type 0) → c ≡ code.Check id → ((f : Formula) → StandsAs ts id f → P (Checked f)) → (d : FormulaStep) → IsStep ts c d → P d
by_check {ts} P e go d h = alike_check P go d (subst (λ (c : Step). Alike ts c d) e h.is)

pub by_fact : {ts : List Term} {c : Step} {id : ℕ} (P : FormulaStep → Type 0) → c ≡ code.Fact id → ((f : Formula) → StandsAs ts id f → P (Known f)) → (d : FormulaStep) → IsStep ts c d → P d
by_fact {ts} P e go d h = alike_fact P go d (subst (λ (c : Step). Alike ts c d) e h.is)

pub by_alone : {ts : List Term} {c : Step} {id : ℕ} (P : FormulaStep → Type 0) → c ≡ code.Standalone id → ((f : Formula) → StandsAs ts id f → P (Alone f)) → (d : FormulaStep) → IsStep ts c d → P d
by_alone {ts} P e go d h = alike_alone P go d (subst (λ (c : Step). Alike ts c d) e h.is)

pub by_enter : {ts : List Term} {c : Step} (P : FormulaStep → Type 0) → c ≡ code.Enter → P Entered → (d : FormulaStep) → IsStep ts c d → P d
by_enter {ts} P e go d h = alike_enter ts P go d (subst (λ (c : Step). Alike ts c d) e h.is)

pub by_leave : {ts : List Term} {c : Step} (P : FormulaStep → Type 0) → c ≡ code.Leave → P Left → (d : FormulaStep) → IsStep ts c d → P d
by_leave {ts} P e go d h = alike_leave ts P go d (subst (λ (c : Step). Alike ts c d) e h.is)

-- One step further.

pub passes_check : {ts : List Term} {before ids behind : List ℕ} {known : List Formula} {f : Formula} {id : ℕ} → behind ≡ before → StandAll ts ids (known ++ f ∷ []) → StandsAs ts id (imp (all_of known) f) → Passes ts before ids behind known (Checked f) (Some id)
passes_check {known = known} {f = f} same all is =
    record { next = known ++ f ∷ []; next_are = all; given = λ ds. (imp (all_of known) f, ap (λ (m : List ℕ). imp (all_of known) f ∷ conditions_left (known ++ f ∷ []) (reverse m) ds) (sym same), is) }

pub passes_fact : {ts : List Term} {before ids behind : List ℕ} {known : List Formula} {f : Formula} → behind ≡ before → StandAll ts ids (known ++ f ∷ []) → Passes ts before ids behind known (Known f) None
passes_fact {known = known} {f = f} same all =
    record { next = known ++ f ∷ []; next_are = all; given = λ ds. ap (λ (m : List ℕ). conditions_left (known ++ f ∷ []) (reverse m) ds) (sym same) }

pub passes_alone : {ts : List Term} {marks ids : List ℕ} {known : List Formula} {f : Formula} {id : ℕ} → StandAll ts ids known → StandsAs ts id f → Passes ts marks ids marks known (Alone f) (Some id)
passes_alone {known = known} {f = f} all is = record { next = known; next_are = all; given = λ ds. (f, refl, is) }

pub passes_enter : {ts : List Term} {before ids behind : List ℕ} {known : List Formula} {n : ℕ} → behind ≡ before ++ n ∷ [] → n ≡ length known → StandAll ts ids known → Passes ts before ids behind known Entered None
passes_enter {before = before} {behind = behind} {known = known} {n = n} more long all =
    let marks : reverse behind ≡ length known ∷ reverse before = ap (λ (m : List ℕ). reverse m) more ∙ reverse-append before (n ∷ []) ∙ ap (λ (k : ℕ). k ∷ reverse before) long in
    record { next = known; next_are = all; given = λ ds. ap (λ (m : List ℕ). conditions_left known m ds) (sym marks) }

each_before : (ts : List Term) (marks : List ℕ) (ids : List ℕ) (known : List Formula) → StandAll ts ids known → StandAll ts (known_before marks ids) (known_before marks known)
each_before ts [] ids known all = all
each_before ts (n ∷ marks) ids known all = record { each = taken n ids known all.each } where
  taken : (n : ℕ) (ids : List ℕ) (known : List Formula) → Each ts ids known → Each ts (take n ids) (take n known)
  taken zero ids known h = tt
  taken (suc n) [] [] h = tt
  taken (suc n) [] (f ∷ fs) h = absurd h
  taken (suc n) (id ∷ ids) [] h = absurd h
  taken (suc n) (id ∷ ids) (f ∷ fs) h = (h.0, taken n ids fs h.1)

pub passes_leave : {ts : List Term} {before old ids behind : List ℕ} {known : List Formula} → ids ≡ known_before (reverse before) old → reverse behind ≡ marks_around (reverse before) → StandAll ts old known → Passes ts before ids behind known Left None
passes_leave {ts} {before} {old} {ids} {behind} {known} fewer around all = record {
  next = known_before (reverse before) known;
  next_are = subst (λ (is : List ℕ). StandAll ts is (known_before (reverse before) known)) (sym fewer) (each_before ts (reverse before) old known all);
  given = λ ds. ap (λ (m : List ℕ). conditions_left (known_before (reverse before) known) m ds) (sym around);
}

-- Along the path.

record Split (ts : List Term) (c : Step) (cs : List Step) (ds : List FormulaStep) : Type 0 where
  step : FormulaStep
  rest : List FormulaStep
  is : ds ≡ step ∷ rest
  here : IsStep ts c step
  there : StandSteps ts cs rest

split : (ts : List Term) (c : Step) (cs : List Step) (ds : List FormulaStep) → EachStep ts (c ∷ cs) ds → Split ts c cs ds
split ts c cs [] h = absurd h
split ts c cs (d ∷ ds) h = record { step = d; rest = ds; is = refl; here = h.0; there = record { each = h.1 } }

split_at : {ts : List Term} {ds : List FormulaStep} (path : List Step) (at : ℕ) (e : Step) → at < length path → StandSteps ts (drop at path) ds → Split ts (get_or path at e) (drop (at + 1) path) ds
split_at {ts} {ds} path at e below h = split ts _ _ ds (subst (λ (cs : List Step). EachStep ts cs ds) (drop_more path at e below) h.each)

pub leaves_on : {old new : List Term} {at next : ℕ} {ids more marks around : List ℕ} {path : List Step} {fs : List Formula} {o : Option ℕ} (e : Step) → o ≡ None → at < length path → next ≡ at + 1 → Later old new → ((known : List Formula) (d : FormulaStep) → StandAll old ids known → IsStep old (get_or path at e) d → Passes new marks more around known d o) → Leaves old at ids marks path fs → Leaves new next more around path fs
leaves_on {new = new} {at = at} {next = next} {more = more} {marks = marks} {around = around} {path = path} e nothing below one later passes h =
    let s = split_at path at e below h.steps_are in
    let p = subst (λ (o : Option ℕ). Passes new marks more around h.known s.step o) nothing (passes h.known s.step h.known_are s.here) in
    record {
      known = p.next;
      steps = s.rest;
      known_are = p.next_are;
      steps_are = subst (λ (n : ℕ). StandSteps new (drop n path) s.rest) (sym one) (steps_later later s.there);
      left = h.left ∙ ap (λ (ds : List FormulaStep). conditions_left h.known (reverse marks) ds) s.is ∙ p.given s.rest;
    }

pub gives_first : {old new : List Term} {e : Emitter} {at id : ℕ} {ids marks : List ℕ} {path : List Step} {fs : List Formula} {o : Option ℕ} (c : Step) → o ≡ Some id → at < length path → e.at ≡ at + 1 → Later old new → ((known : List Formula) (d : FormulaStep) → StandAll old ids known → IsStep old (get_or path at c) d → Passes new marks e.known.items e.marks.items known d o) → Leaves old at ids marks path fs → First new e path id fs
gives_first {new = new} {e = e} {at = at} {marks = marks} {path = path} c something below one later passes h =
    let s = split_at path at c below h.steps_are in
    let p = subst (λ (o : Option ℕ). Passes new marks e.known.items e.marks.items h.known s.step o) something (passes h.known s.step h.known_are s.here) in
    let g = p.given s.rest in
    record {
      condition = g.0;
      rest = conditions_left p.next (reverse e.marks.items) s.rest;
      conditions = h.left ∙ ap (λ (ds : List FormulaStep). conditions_left h.known (reverse marks) ds) s.is ∙ g.1;
      stands = g.2;
      holds = record { known = p.next; steps = s.rest; known_are = p.next_are; steps_are = subst (λ (n : ℕ). StandSteps new (drop n path) s.rest) (sym one) (steps_later later s.there); left = refl };
    }

no_more : (ts : List Term) (known : List Formula) (marks : List ℕ) (ds : List FormulaStep) → EachStep ts [] ds → conditions_left known marks ds ≡ []
no_more ts known marks [] h = refl
no_more ts known marks (d ∷ ds) h = absurd h

pub none_left : {ts : List Term} {at : ℕ} {ids marks : List ℕ} {path : List Step} {fs : List Formula} → length path ≤ at → Leaves ts at ids marks path fs → fs ≡ []
none_left {ts} {at} {ids} {marks} {path} above h =
    h.left ∙ no_more ts h.known (reverse marks) h.steps (subst (λ (cs : List Step). EachStep ts cs h.steps) (drop_all at path above) h.steps_are.each)

-- what the loop over the steps keeps
pub record Emits (old new : List Term) (before behind : Emitter) (path : List Step) : Type 0 where
  pub later : Later old new
  pub holds : (fs : List Formula) → Holds old before path fs → Holds new behind path fs

pub no_step : (ts : List Term) (e : Emitter) (path : List Step) → Emits ts ts e e path
no_step ts e path = record { later = λ n f h. h; holds = λ fs h. h }

pub is_none : (o : Option ℕ) → ((x : ℕ) → o ≡ Some x → ⊥) → o ≡ None
is_none None other = refl
is_none (Some x) other = absurd (other x refl)

-- Statements inside a block, by the vectors of the code, and what a loop over them keeps.
use Rattle.std.specs.Prelude.{◌≡◌, ℕ, suc, ◌+◌, ◌<◌, ◌≤◌, false, List, [], ◌∷◌, Vec, length, drop}
use Rattle.std.specs.Global.{Global}
use Rattle.std.proofs.Common.{refl, ap, sym, ◌∙◌, subst, get_or, arith}
use Rattle.std.proofs.Math.ListN.{drop_of_length-le}
use Rattle.std.proofs.Math.Seq.{drop-cons}
use mathlib.Core.Former.{Count}
use Rattle.terms.specs.declared.term.Term.{Term}
use Rattle.terms.specs.Formula.{Formula}
use Rattle.method.specs.declared.program.Expr.{Expr}
use Rattle.method.specs.declared.program.Inner as i
use Rattle.method.specs.declared.program.Program.{Program}
use Rattle.conditions.specs.Code as spec
use Rattle.conditions.specs.Symbolic.{test}
use Rattle.conditions.specs.Paths.{Execution, after, prefix}
use Rattle.conditions.specs.Actions.{run_inner, run_row, run_list, conditional, join_branches, without_deferred, with_counters}
use Rattle.condition_formulas.specs.Standing.{Later}
use Rattle.condition_code.specs.declared.state.Spot.{Spot}
use Rattle.condition_code.specs.declared.state.State.{State}
use Rattle.condition_code.specs.declared.walk.Step.{Step}
use Rattle.condition_code.specs.States.{IsSpot, IsState}
use Rattle.condition_code.specs.Walks.{GoesTo}
use Rattle.condition_code.proofs.States.{spot_later}
use Rattle.condition_code.proofs.Walks.{gives, run_then}

abbrev first_row : i.Inner → (n : Count) × i.Row_of-Inner n
first_row (i.InsideIf' line e m a k b) = (_, a)
first_row _ = (_, i.end_of-Inner)

abbrev second_row : i.Inner → (n : Count) × i.Row_of-Inner n
second_row (i.InsideIf' line e m a k b) = (_, b)
second_row _ = (_, i.end_of-Inner)

module _ (p : Program) (b : spec.Spot) where
  row_runs : (n : Count) (row : i.Row_of-Inner n) (s : spec.State) → run_row p b row s ≡ run_list p b (i.items-the_row-Inner n row) s
  row_runs n i.end_of-Inner s = refl
  row_runs n (i.more_of-Inner x rest) s = ap (λ (t : Execution spec.State). prefix (run_inner p b x s).path t) (row_runs _ rest (run_inner p b x s).gives)

  -- a branch inside a block, by lists
  abbrev pub forked : Expr → List i.Inner → List i.Inner → spec.State → Execution spec.State
  forked e xs ys s = after (spec.code p b s e) (λ v. conditional [] s (test v) false false (λ s1. run_list p b xs s1) (λ s1. run_list p b ys s1))

  inside_if : (line : ℕ) (e : Expr) (x y : Vec i.Inner Global) (s : spec.State) → run_inner p b (i.InsideIf line e x y) s ≡ forked e x.items y.items s
  inside_if line e x y s =
      let r = first_row (i.InsideIf line e x y) in
      let q = second_row (i.InsideIf line e x y) in
      let t : Formula = test (spec.code p b s e).gives in
      let front = (spec.code p b s e).path in
      let one : Execution spec.State = run_list p b x.items (without_deferred s) in
      let first = row_runs r.0 r.1 (without_deferred s) ∙ ap (λ (xs : List i.Inner). run_list p b xs (without_deferred s)) (i.items_hidden-the_row-Inner-0 x) in
      let second = row_runs q.0 q.1 (with_counters s one.gives) ∙ ap (λ (xs : List i.Inner). run_list p b xs (with_counters s one.gives)) (i.items_hidden-the_row-Inner-0 y) in
      ap (λ (u : Execution spec.State). prefix front (join_branches [] s t false false u (run_row p b q.1 (with_counters s u.gives)))) first
      ∙ ap (λ (u : Execution spec.State). prefix front (join_branches [] s t false false one u)) second

  pub ran_inside_if : {old new : List Term} {before behind : List Step} {r : State} {inner : i.Inner} {xs ys : List i.Inner} (line : ℕ) (e : Expr) (x y : Vec i.Inner Global) (s : spec.State) → inner ≡ i.InsideIf line e x y → xs ≡ x.items → ys ≡ y.items → GoesTo IsState old new before behind r (forked e xs ys s) → GoesTo IsState old new before behind r (run_inner p b inner s)
  ran_inside_if {old} {new} {before} {behind} {r} {inner} {xs} {ys} line e x y s is one other run =
      let by : Execution spec.State → Type 0 = λ t. GoesTo IsState old new before behind r t in
      subst by (sym (ap (λ (j : i.Inner). run_inner p b j s) is ∙ inside_if line e x y s)) (subst by (ap (λ (zs : List i.Inner). forked e zs ys s) one ∙ ap (λ (zs : List i.Inner). forked e x.items zs s) other) run)

-- how far the statements have run: in this state, from which the others lead where all of them lead
pub record Reached (p : Program) (b : spec.Spot) (body : List i.Inner) (old now : List Term) (before here : List Step) (state : State) (k : ℕ) (s : spec.State) : Type 0 where
  pub reached : spec.State
  pub later : Later old now
  pub is : IsState now state reached
  pub rest : (new : List Term) (behind : List Step) (r : State) → GoesTo IsState now new here behind r (run_list p b (drop k body) reached) → GoesTo IsState old new before behind r (run_list p b body s)

-- what the loop keeps
pub record Onward (p : Program) (a : Spot) (body : List i.Inner) (old now : List Term) (before here : List Step) (first state : State) (k : ℕ) : Type 0 where
  pub goes : (b : spec.Spot) (s : spec.State) → IsSpot old a b → IsState old first s → Reached p b body old now before here state k s

pub onward_first : (p : Program) (a : Spot) (body : List i.Inner) (ts : List Term) (path : List Step) (first : State) → Onward p a body ts ts path path first first 0
onward_first p a body ts path first = record { goes = λ b s hb hs. record { reached = s; later = λ n f h. h; is = hs; rest = λ new behind r run. run } }

element : (xs : List i.Inner) (k : ℕ) (x : i.Inner) → k < length xs → x ≡ get_or xs k x → drop k xs ≡ x ∷ drop (k + 1) xs
element xs k x below item =
    let next : suc k ≡ k + 1 = omega arith in
    drop-cons xs k x below ∙ ap (λ j. get_or xs k x ∷ drop j xs) next ∙ ap (λ y. y ∷ drop (k + 1) xs) (sym item)

pub onward_next : {p : Program} {a : Spot} {body : List i.Inner} {old mid now : List Term} {before here there : List Step} {first state next : State} {k : ℕ} (x : i.Inner) → x ≡ get_or body k x → Onward p a body old mid before here first state k → k < length body → ((b : spec.Spot) (s : spec.State) → IsSpot mid a b → IsState mid state s → GoesTo IsState mid now here there next (run_inner p b x s)) → Onward p a body old now before there first next (k + 1)
onward_next {p} {a} {body} {old} {mid} {now} {before} {here} {there} {first} {state} {next} {k} x item so_far below inner = record {
  goes = λ b s hb hs.
      let t = so_far.goes b s hb hs in
      let run = inner b t.reached (spot_later t.later hb) t.is in
      let front = element body k x below item in
      record {
        reached = (run_inner p b x t.reached).gives;
        later = λ n f h. run.goes.later n f (t.later n f h);
        is = run.gives;
        rest = λ new behind r more. t.rest new behind r (subst (λ (xs : List i.Inner). GoesTo IsState mid new here behind r (run_list p b xs t.reached)) (sym front) (run_then run more));
      };
}

pub onward_last : {p : Program} {a : Spot} {body : List i.Inner} {old now : List Term} {before here : List Step} {first state : State} {k : ℕ} → Onward p a body old now before here first state k → length body ≤ k → (b : spec.Spot) (s : spec.State) → IsSpot old a b → IsState old first s → GoesTo IsState old now before here state (run_list p b body s)
onward_last {p} {a} {body} {old} {now} {before} {here} {first} {state} {k} so_far above b s hb hs =
    let t = so_far.goes b s hb hs in
    t.rest now here state (subst (λ (xs : List i.Inner). GoesTo IsState now now here here state (run_list p b xs t.reached)) (sym (drop_of_length-le body above)) (gives (λ n f h. h) t.is))

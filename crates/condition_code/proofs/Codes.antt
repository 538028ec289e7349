-- Several expressions, one by one.
use Rattle.std.specs.Prelude.{ℕ, List, [], ◌∷◌, ◌≡◌, ◌++◌, ◌<◌, ◌≤◌, ◌+◌, length, take, Vec}
use Rattle.std.specs.Global.{Global}
use Rattle.std.proofs.Common.{refl, ap, sym, ◌∙◌, subst, get_or}
use Rattle.std.proofs.lemmas.List.{append-nil, append_assoc, take_more, take_all}
use Rattle.terms.specs.declared.term.Term.{Term}
use Rattle.terms.specs.Formula.{Formula}
use Rattle.method.specs.declared.program.Expr.{Expr}
use Rattle.method.specs.declared.program.Program.{Program}
use Rattle.conditions.specs.Code as spec
use Rattle.conditions.specs.Paths.{Path, Done, sequence}
use Rattle.conditions.specs.Symbolic as symbolic
use Rattle.condition_formulas.specs.declared.symbolic.Symbolic.{Symbolic}
use Rattle.condition_formulas.specs.Standing.{StandsAs, StandAll, Later}
use Rattle.condition_formulas.specs.Symbolics.{IsSymbolic, AreSymbolic, EachSymbolic}
use Rattle.condition_formulas.proofs.Rows.{all_later, none, same_ids, then_one}
use Rattle.condition_formulas.proofs.Symbolics.{are_later}
use Rattle.condition_code.specs.declared.walk.Step.{Step}
use Rattle.condition_code.specs.declared.state.Spot.{Spot}
use Rattle.condition_code.specs.declared.state.State.{State}
use Rattle.condition_code.specs.Steps.{FormulaStep, steps_of}
use Rattle.condition_code.specs.States.{AreValues, IsSpot, IsState}
use Rattle.condition_code.specs.Walks.{AreIds, GoesTo}
use Rattle.condition_code.proofs.Steps.{steps_sequence}
use Rattle.condition_code.proofs.States.{spot_later, state_later, no_values, same_values}
use Rattle.condition_code.proofs.Walks.{goes_as, goes_then, gives, then_built}

-- an expression that is another
pub same_code : (p : Program) (b : spec.Spot) (s : spec.State) {old new : List Term} {before behind : List Step} {v : Symbolic} {x y : Expr} → x ≡ y → GoesTo IsSymbolic old new before behind v (spec.code p b s y) → GoesTo IsSymbolic old new before behind v (spec.code p b s x)
same_code p b s {old} {new} {before} {behind} {v} e h = subst (λ (z : Expr). GoesTo IsSymbolic old new before behind v (spec.code p b s z)) (sym e) h

-- One expression more.

one_path : (p : Program) (b : spec.Spot) (s : spec.State) (y : Expr) → steps_of (sequence (spec.code p b s y).path (sequence Done Done)) ≡ steps_of (sequence Done (spec.code p b s y).path)
one_path p b s y = steps_sequence (spec.code p b s y).path Done ∙ append-nil (steps_of (spec.code p b s y).path)

pub all_code_path : (p : Program) (b : spec.Spot) (s : spec.State) (xs : List Expr) (y : Expr) → steps_of (sequence (spec.all_code p b s xs).path (spec.code p b s y).path) ≡ steps_of (spec.all_code p b s (xs ++ y ∷ [])).path
all_code_path p b s [] y = sym (one_path p b s y)
all_code_path p b s (x ∷ xs) y =
    let first : List FormulaStep = steps_of (spec.code p b s x).path in
    let rest : Path = (spec.all_code p b s xs).path in
    let more : Path = (spec.all_code p b s (xs ++ y ∷ [])).path in
    let whole : Path = sequence (spec.code p b s x).path (sequence rest Done) in
    let ended : steps_of (sequence rest Done) ≡ steps_of rest = steps_sequence rest Done ∙ append-nil (steps_of rest) in
    let last : steps_of (sequence more Done) ≡ steps_of more = steps_sequence more Done ∙ append-nil (steps_of more) in
    steps_sequence whole (spec.code p b s y).path ∙ ap (λ (k : List FormulaStep). k ++ steps_of (spec.code p b s y).path) (steps_sequence (spec.code p b s x).path (sequence rest Done) ∙ ap (λ (k : List FormulaStep). first ++ k) ended) ∙ append_assoc first (steps_of rest) (steps_of (spec.code p b s y).path) ∙ ap (λ (k : List FormulaStep). first ++ k) (sym (steps_sequence rest (spec.code p b s y).path) ∙ all_code_path p b s xs y ∙ sym last) ∙ sym (steps_sequence (spec.code p b s x).path (sequence more Done))

pub all_code_gives : (p : Program) (b : spec.Spot) (s : spec.State) (xs : List Expr) (y : Expr) → (spec.all_code p b s xs).gives ++ symbolic.term (spec.code p b s y).gives ∷ [] ≡ (spec.all_code p b s (xs ++ y ∷ [])).gives
all_code_gives p b s [] y = refl
all_code_gives p b s (x ∷ xs) y = ap (λ (fs : List Formula). symbolic.term (spec.code p b s x).gives ∷ fs) (all_code_gives p b s xs y)

pub all_symbolic_path : (p : Program) (b : spec.Spot) (s : spec.State) (xs : List Expr) (y : Expr) → steps_of (sequence (spec.all_symbolic p b s xs).path (spec.code p b s y).path) ≡ steps_of (spec.all_symbolic p b s (xs ++ y ∷ [])).path
all_symbolic_path p b s [] y = sym (one_path p b s y)
all_symbolic_path p b s (x ∷ xs) y =
    let first : List FormulaStep = steps_of (spec.code p b s x).path in
    let rest : Path = (spec.all_symbolic p b s xs).path in
    let more : Path = (spec.all_symbolic p b s (xs ++ y ∷ [])).path in
    let whole : Path = sequence (spec.code p b s x).path (sequence rest Done) in
    let ended : steps_of (sequence rest Done) ≡ steps_of rest = steps_sequence rest Done ∙ append-nil (steps_of rest) in
    let last : steps_of (sequence more Done) ≡ steps_of more = steps_sequence more Done ∙ append-nil (steps_of more) in
    steps_sequence whole (spec.code p b s y).path ∙ ap (λ (k : List FormulaStep). k ++ steps_of (spec.code p b s y).path) (steps_sequence (spec.code p b s x).path (sequence rest Done) ∙ ap (λ (k : List FormulaStep). first ++ k) ended) ∙ append_assoc first (steps_of rest) (steps_of (spec.code p b s y).path) ∙ ap (λ (k : List FormulaStep). first ++ k) (sym (steps_sequence rest (spec.code p b s y).path) ∙ all_symbolic_path p b s xs y ∙ sym last) ∙ sym (steps_sequence (spec.code p b s x).path (sequence more Done))

pub all_symbolic_gives : (p : Program) (b : spec.Spot) (s : spec.State) (xs : List Expr) (y : Expr) → (spec.all_symbolic p b s xs).gives ++ (spec.code p b s y).gives ∷ [] ≡ (spec.all_symbolic p b s (xs ++ y ∷ [])).gives
all_symbolic_gives p b s [] y = refl
all_symbolic_gives p b s (x ∷ xs) y = ap (λ (ws : List symbolic.Symbolic). (spec.code p b s x).gives ∷ ws) (all_symbolic_gives p b s xs y)

-- What the loop over expressions keeps, as terms.
pub record CodesTo (p : Program) (a : Spot) (st : State) (es : List Expr) (old new : List Term) (before behind : List Step) (v : Vec ℕ Global) (i : ℕ) : Type 0 where
  pub ran : (b : spec.Spot) (s : spec.State) → IsSpot old a b → IsState old st s → GoesTo AreIds old new before behind v (spec.all_code p b s (take i es))

pub no_code : {p : Program} {a : Spot} {st : State} {es : List Expr} {ts : List Term} {path : List Step} {v : Vec ℕ Global} → v.items ≡ [] → CodesTo p a st es ts ts path path v 0
no_code e = record { ran = λ b s hb hs. gives (λ n f h. h) (record { all = same_ids e none }) }

pub one_code : {p : Program} {a : Spot} {st : State} {es : List Expr} {g0 g1 g2 g3 : List Term} {p0 p1 p2 : List Step} {v w : Vec ℕ Global} {i id : ℕ} {c : Symbolic} (d : Expr) → d ≡ get_or es i d → CodesTo p a st es g0 g1 p0 p1 v i → i < length es → ((b : spec.Spot) (s : spec.State) → IsSpot g1 a b → IsState g1 st s → GoesTo IsSymbolic g1 g2 p1 p2 c (spec.code p b s d)) → Later g2 g3 → ((u : symbolic.Symbolic) → IsSymbolic g2 c u → StandsAs g3 id (symbolic.term u)) → w.items ≡ v.items ++ id ∷ [] → CodesTo p a st es g0 g3 p0 p2 w (i + 1)
one_code {p = p} {es = es} {g0 = g0} {g3 = g3} {p0 = p0} {p2 = p2} {w = w} {i = i} d item to below coded later is more = record {
  ran = λ b s hb hs.
      let first = to.ran b s hb hs in
      let next = coded b s (spot_later first.goes.later hb) (state_later first.goes.later hs) in
      let ids = same_ids more (then_one (all_later later (all_later next.goes.later first.gives.all)) (is _ next.gives)) in
      let P : List Expr → Type 0 = λ xs. GoesTo AreIds g0 g3 p0 p2 w (spec.all_code p b s xs) in
      subst P (sym (take_more es i d below ∙ ap (λ (x : Expr). take i es ++ x ∷ []) (sym item))) (record {
        gives = record { all = subst (λ (fs : List Formula). StandAll g3 w.items fs) (all_code_gives p b s (take i es) d) ids };
        goes = goes_as (all_code_path p b s (take i es) d) (then_built (goes_then first.goes next.goes) later);
      });
}

pub every_code : {p : Program} {a : Spot} {st : State} {es : List Expr} {old new : List Term} {before behind : List Step} {v : Vec ℕ Global} {i : ℕ} → CodesTo p a st es old new before behind v i → length es ≤ i → (b : spec.Spot) (s : spec.State) → IsSpot old a b → IsState old st s → GoesTo AreIds old new before behind v (spec.all_code p b s es)
every_code {p} {es = es} {old = old} {new = new} {before = before} {behind = behind} {v = v} {i = i} to above b s hb hs =
    let P : List Expr → Type 0 = λ xs. GoesTo AreIds old new before behind v (spec.all_code p b s xs) in
    subst P (take_all i es above) (to.ran b s hb hs)

-- The same of values.

each_more : (ts : List Term) (vs : List Symbolic) (ws : List symbolic.Symbolic) (v : Symbolic) (w : symbolic.Symbolic) → EachSymbolic ts vs ws → IsSymbolic ts v w → EachSymbolic ts (vs ++ v ∷ []) (ws ++ w ∷ [])
each_more ts [] [] v w each is = (is, tt)
each_more ts [] (u ∷ us) v w each is = absurd each
each_more ts (u ∷ us) [] v w each is = absurd each
each_more ts (u ∷ us) (x ∷ xs) v w each is = (each.0, each_more ts us xs v w each.1 is)

pub then_value : {ts : List Term} {vs : List Symbolic} {ws : List symbolic.Symbolic} {v : Symbolic} {w : symbolic.Symbolic} → AreSymbolic ts vs ws → IsSymbolic ts v w → AreSymbolic ts (vs ++ v ∷ []) (ws ++ w ∷ [])
then_value {ts} {vs} {ws} {v} {w} are is = record { each = each_more ts vs ws v w are.each is }

pub record ValuesTo (p : Program) (a : Spot) (st : State) (es : List Expr) (old new : List Term) (before behind : List Step) (v : Vec Symbolic Global) (i : ℕ) : Type 0 where
  pub ran : (b : spec.Spot) (s : spec.State) → IsSpot old a b → IsState old st s → GoesTo AreValues old new before behind v (spec.all_symbolic p b s (take i es))

pub no_value : {p : Program} {a : Spot} {st : State} {es : List Expr} {ts : List Term} {path : List Step} {v : Vec Symbolic Global} → v.items ≡ [] → ValuesTo p a st es ts ts path path v 0
no_value e = record { ran = λ b s hb hs. gives (λ n f h. h) (record { all = same_values e no_values }) }

pub one_value : {p : Program} {a : Spot} {st : State} {es : List Expr} {g0 g1 g2 : List Term} {p0 p1 p2 : List Step} {v w : Vec Symbolic Global} {i : ℕ} {c : Symbolic} (d : Expr) → d ≡ get_or es i d → ValuesTo p a st es g0 g1 p0 p1 v i → i < length es → ((b : spec.Spot) (s : spec.State) → IsSpot g1 a b → IsState g1 st s → GoesTo IsSymbolic g1 g2 p1 p2 c (spec.code p b s d)) → w.items ≡ v.items ++ c ∷ [] → ValuesTo p a st es g0 g2 p0 p2 w (i + 1)
one_value {p = p} {es = es} {g0 = g0} {g2 = g2} {p0 = p0} {p2 = p2} {w = w} {i = i} d item to below coded more = record {
  ran = λ b s hb hs.
      let first = to.ran b s hb hs in
      let next = coded b s (spot_later first.goes.later hb) (state_later first.goes.later hs) in
      let values = same_values more (then_value (are_later next.goes.later first.gives.all) next.gives) in
      let P : List Expr → Type 0 = λ xs. GoesTo AreValues g0 g2 p0 p2 w (spec.all_symbolic p b s xs) in
      subst P (sym (take_more es i d below ∙ ap (λ (x : Expr). take i es ++ x ∷ []) (sym item))) (record {
        gives = record { all = subst (λ (ws : List symbolic.Symbolic). AreSymbolic g2 w.items ws) (all_symbolic_gives p b s (take i es) d) values };
        goes = goes_as (all_symbolic_path p b s (take i es) d) (goes_then first.goes next.goes);
      });
}

pub every_value : {p : Program} {a : Spot} {st : State} {es : List Expr} {old new : List Term} {before behind : List Step} {v : Vec Symbolic Global} {i : ℕ} → ValuesTo p a st es old new before behind v i → length es ≤ i → (b : spec.Spot) (s : spec.State) → IsSpot old a b → IsState old st s → GoesTo AreValues old new before behind v (spec.all_symbolic p b s es)
every_value {p} {es = es} {old = old} {new = new} {before = before} {behind = behind} {v = v} {i = i} to above b s hb hs =
    let P : List Expr → Type 0 = λ xs. GoesTo AreValues old new before behind v (spec.all_symbolic p b s xs) in
    subst P (take_all i es above) (to.ran b s hb hs)

-- Runs put together: a path in front, expressions as terms one by one.
use Rattle.std.specs.Prelude.{◌≡◌, ℕ, List, [], ◌∷◌, Vec}
use Rattle.std.specs.Global.{Global}
use Rattle.std.proofs.Common.{◌⊎◌, inl, inr, sym, ◌∙◌, subst}
use Rattle.std.proofs.lemmas.List.{append-nil}
use Rattle.terms.specs.declared.term.Term.{Term}
use Rattle.terms.specs.Formula.{Formula}
use Rattle.method.specs.declared.program.Expr.{Expr}
use Rattle.method.specs.declared.program.Operation.{Operation}
use Rattle.method.specs.declared.program.Operation.TheVariants.{Increment, Decrement}
use Rattle.method.specs.declared.program.Program.{Program}
use Rattle.method.specs.Actions.{operands}
use Rattle.conditions.specs.Code as spec
use Rattle.conditions.specs.Paths.{Path, Done, Execution, sequence, prefix}
use Rattle.condition_formulas.specs.Standing.{StandsAs, StandAll, Later}
use Rattle.condition_formulas.proofs.Rows.{more, none, same_ids}
use Rattle.condition_code.specs.declared.walk.Step.{Step}
use Rattle.condition_code.specs.Steps.{steps_of}
use Rattle.condition_code.specs.Walks.{AreIds, Goes, GoesTo}
use Rattle.condition_code.proofs.Steps.{steps_sequence}
use Rattle.condition_code.proofs.Walks.{gives, goes_as, goes_then, then_built}
use Rattle.condition_actions.specs.Operands.{term_of}

-- a way that a walk went, and then a run
pub path_then : {A B : Type 0} {Is : List Term → A → B → Type 0} {g0 g1 g2 : List Term} {p0 p1 p2 : List Step} {v : A} {q : Path} {t : Execution B} → Goes g0 g1 p0 p1 q → GoesTo Is g1 g2 p1 p2 v t → GoesTo Is g0 g2 p0 p2 v (prefix q t)
path_then first second = record { gives = second.gives; goes = goes_then first second.goes }

-- a run, and then formulas that are built
pub run_later : {A B : Type 0} {Is : List Term → A → B → Type 0} {g0 g1 g2 : List Term} {p0 p1 : List Step} {v : A} {t : Execution B} → GoesTo Is g0 g1 p0 p1 v t → Later g1 g2 → Is g2 v t.gives → GoesTo Is g0 g2 p0 p1 v t
run_later run later is = record { gives = is; goes = then_built run.goes later }

ended : (q : Path) → steps_of q ≡ steps_of (sequence q Done)
ended q = sym (steps_sequence q Done ∙ append-nil (steps_of q))

-- one expression in front of others
pub with_first : {g0 g1 g2 : List Term} {p0 p1 p2 : List Step} {id : ℕ} {ids : List ℕ} (p : Program) (b : spec.Spot) (s : spec.State) (x : Expr) (es : List Expr) → GoesTo StandsAs g0 g1 p0 p1 id (term_of p b s x) → GoesTo StandAll g1 g2 p1 p2 ids (spec.all_code p b s es) → GoesTo StandAll g0 g2 p0 p2 (id ∷ ids) (spec.all_code p b s (x ∷ es))
with_first p b s x es first second = record {
  gives = more (second.goes.later _ _ first.gives) second.gives;
  goes = goes_then first.goes (goes_as (ended (spec.all_code p b s es).path) second.goes);
}

-- in a vector
pub as_ids : {g0 g1 : List Term} {p0 p1 : List Step} {v : Vec ℕ Global} {ids : List ℕ} {t : Execution (List Formula)} → v.items ≡ ids → GoesTo StandAll g0 g1 p0 p1 ids t → GoesTo AreIds g0 g1 p0 p1 v t
as_ids e run = record { gives = record { all = same_ids e run.gives }; goes = run.goes }

-- an operation without operands
pub no_operands : {ts : List Term} {path : List Step} {v : Vec ℕ Global} {o : Operation} (p : Program) (b : spec.Spot) (s : spec.State) → v.items ≡ [] → (o ≡ Increment) ⊎ (o ≡ Decrement) → GoesTo AreIds ts ts path path v (spec.all_code p b s (operands o))
no_operands {ts} {path} {v} p b s e is =
    let here : GoesTo AreIds ts ts path path v (spec.all_code p b s []) = gives (λ n f h. h) (record { all = same_ids e none }) in
    let by : Operation → Type 0 = λ o. GoesTo AreIds ts ts path path v (spec.all_code p b s (operands o)) in
    elim is [ inl is ↦ subst by (sym is) here | inr is ↦ subst by (sym is) here ]

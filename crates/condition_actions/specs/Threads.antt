-- The start of a thread. Own.
use Rattle.std.specs.Prelude.{ℕ, List, [], ◌∷◌, slice_get}
use Rattle.method.specs.declared.program.Expr.{Expr}
use Rattle.method.specs.declared.program.Program.{Program}
use Rattle.terms.specs.declared.term.Kind.TheVariants as k
use Rattle.terms.specs.Formula.{Formula}
use Rattle.conditions.specs.Formulas.{node, nat, me, not', and', eq, typ}
use Rattle.conditions.specs.Paths.{Execution, after}
use Rattle.conditions.specs.Code.{Spot, State, all_symbolic, wrapped, writable}
use Rattle.conditions.specs.Actions.{spawn}

-- what is known of a new thread u in the heap h
abbrev pub newness : Formula → Formula → List Formula
newness u h = eq (typ u) (nat 1) ∷ not' (eq u me) ∷ node k.Idle (u ∷ h ∷ []) ∷ []

-- the item is wrapped, and may be written
abbrev pub passable : Program → Spot → State → Formula → Formula
passable p b s o = and' (wrapped s o) (writable p b o)

-- `_(spawn)` of function g, by these expressions
abbrev pub spawned : Program → Spot → ℕ → List Expr → State → Execution State
spawned p b g es s = after (all_symbolic p b s es) (λ args. spawn p b (slice_get p.functions.items g) args s)

-- Parts of actions by themselves, as the code has them. Own.
use Rattle.std.specs.Prelude.{ℕ, List, [], ◌∷◌}
use Rattle.method.specs.declared.program.Expr.{Expr}
use Rattle.method.specs.declared.program.Operation.{Operation}
use Rattle.method.specs.declared.program.InterlockedResult.{InterlockedResult}
use Rattle.method.specs.declared.program.OwnsChange.{OwnsChange}
use Rattle.method.specs.declared.program.Program.{Program}
use Rattle.method.specs.Actions.{operands}
use Rattle.terms.specs.declared.term.Kind.TheVariants as k
use Rattle.terms.specs.Formula.{Formula}
use Rattle.conditions.specs.Formulas.{nat, null, get, field_column, status}
use Rattle.conditions.specs.Symbolic.{term}
use Rattle.conditions.specs.Paths.{Execution, Gives, after}
use Rattle.conditions.specs.Code.{Spot, State, ValueAndState, code, all_code}
use Rattle.conditions.specs.Actions.{change_counts, exchange, exchange_result, owned_change, end_claim}

-- an expression as a term
abbrev pub term_of : Program → Spot → State → Expr → Execution Formula
term_of p b s e = record { path = (code p b s e).path; gives = term (code p b s e).gives }

-- the right side that is an expression
abbrev pub computed : Program → Spot → Expr → State → Execution ValueAndState
computed p b e s = after (code p b s e) (λ v. Gives (record { value = v; state = s }))

-- the right side that is an Interlocked operation
abbrev pub interlocked : Program → Spot → Expr → ℕ → Operation → InterlockedResult → State → Execution ValueAndState
interlocked p b e f op then' s =
    after (code p b s e) (λ o.
    after (all_code p b s (operands op)) (λ xs.
    after (exchange p b op (term o) f xs (get (field_column f) s.heap (term o ∷ [])) s) (λ v. exchange_result p b then' v)
    )
    )

-- a change of an owned set, by these expressions
abbrev pub changed_set : Program → Spot → OwnsChange → Expr → List Expr → State → Execution State
changed_set p b c e es s = after (code p b s e) (λ o. after (all_code p b s es) (λ qs. owned_change p b c (term o) qs s))

-- the end of a claim of these objects
abbrev pub ended_claim : Program → Spot → ℕ → Expr → List Expr → State → Execution State
ended_claim p b q e es s =
    after (code p b s e) (λ c. after (all_code p b s es) (λ os. end_claim p b q (term c) os s (change_counts k.Sub os (status s.heap (term c) (nat 3) null))))

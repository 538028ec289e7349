-- Interlocked calls, apart from where their value goes. Own.
use Rattle.std.specs.Prelude.{◌≡◌, ℕ, ◌+◌, true, Option, Some, None}
use Rattle.object_types.specs.declared.values.Value.{Value}
use Rattle.object_types.specs.Values.{referent}
use Rattle.method.specs.declared.program.Expr.{Expr}
use Rattle.method.specs.declared.program.Operation.{Operation}
use Rattle.method.specs.declared.program.InterlockedResult.{InterlockedResult}
use Rattle.method.specs.declared.program.Program.{Program}
use Rattle.method.specs.Expressions.{Outcome, Gives, after, Spot, checks, all_checks}
use Rattle.method.specs.Actions as m
use Rattle.machine_objects.specs.Runs.{IsReplacement}

-- an expression that changes nothing, as a right side
abbrev pub run_value : Program → Spot → Expr → ℕ → m.Progress → Outcome m.Valued
run_value p at_ e n g = after (m.run_expr p at_ e n g) (λ v. Gives (record { value = v; starting = g }))

-- the object, the operands, the exchange, and what becomes of its value
abbrev pub run_call : Program → Spot → Expr → ℕ → Operation → InterlockedResult → ℕ → m.Progress → Outcome m.Valued
run_call p at_ e f op ending n g =
    after (m.run_expr p at_ e n g) (λ o.
    after (m.run_exprs p at_ (m.operands op) (n + checks e) g) (λ vs.
    after (m.exchange p at_ op (referent o) f vs (n + checks e + all_checks (m.operands op)) g) (λ v.
    m.afterwards p at_ ending (n + checks e + m.operation_checks op) v
    )
    )
    )

-- the value by which the operation replaces another; only a count has none, where it leaves 128 bits
abbrev pub IsReplaced : Operation → Option Value → Value → Type 0
IsReplaced op (Some v) w = w ≡ v
IsReplaced op None w = IsReplacement None w × (m.counts op ≡ true)

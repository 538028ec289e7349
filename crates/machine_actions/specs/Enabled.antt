-- Actions, as the code takes them. Own.
use Rattle.std.specs.Prelude.{ℕ, ◌+◌, List, slice_get}
use Rattle.method.specs.declared.program.Action.{Action}
use Rattle.method.specs.declared.program.Expr.{Expr}
use Rattle.method.specs.declared.program.Program.{Program}
use Rattle.method.specs.Expressions.{Outcome, Spot, after, all_checks}
use Rattle.method.specs.Actions.{Progress, action_fits, fitting, run_action, run_exprs, spawn}

-- an action, where the event's choices are some that it has: method's `act`, at any place and from any progress
abbrev pub enabled_action : Program → Spot → Action → ℕ → Progress → Outcome Progress
enabled_action p at_ a n g = fitting (action_fits p at_.context.function a at_.choices) (run_action p at_ a n g)

-- a start of a thread with the function of this number: the arguments, and then the start itself
abbrev pub thread_start : Program → Spot → ℕ → List Expr → ℕ → Progress → Outcome Progress
thread_start p at_ k es n g =
    after (run_exprs p at_ es n g) (λ args. spawn p at_ k (slice_get p.functions.items k) args (n + all_checks es) g)

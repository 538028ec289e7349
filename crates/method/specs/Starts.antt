-- How a program starts. Own: main's requires clauses are checked one by one, each with its own line, and then its writes list is worked out, which makes no check.
use Rattle.std.specs.Prelude.{◌≡◌, ◌↔◌, List, [], ◌∷◌, Option, Some, None, slice_get}
use Rattle.object_types.specs.declared.values.Value.{Value}
use Rattle.method.specs.declared.program.CheckKind.TheVariants.{Requires}
use Rattle.method.specs.declared.program.Clause.{Clause}
use Rattle.method.specs.declared.program.FunctionInfo.{FunctionInfo}
use Rattle.method.specs.declared.program.Program.{Program}
use Rattle.object_types.specs.References.{thread}
use Rattle.object_types.specs.Heap.{Heap}
use Rattle.method.specs.Expressions.{Outcome, Unfit, Gives, Gave, Context, call_scene, spec_test, check_spec, weighed}
use Rattle.method.specs.Actions.{spot, fitting, callee, items_overflow}
use Rattle.method.specs.Machine.{State, begin, fit_parameters, IsStart}

-- the requires clauses of a function that begins, and what comes behind them
abbrev pub requires_checked : {A : Type 0} → Program → Context → List Clause → Outcome A → Outcome A
requires_checked p x [] o = o
requires_checked p x (c ∷ cs) o = check_spec (spot x [] c.line) (spec_test p c.spec (call_scene x.me x.entry x.args)) 0 Requires (requires_checked p x cs o)

-- one thread, about to run this function
abbrev pub alone : Program → Context → State
alone p x = record { heap = x.entry; threads = record { number = x.me.serial; frames = begin p x ∷ [] } ∷ [] }

abbrev pub start_in : Program → FunctionInfo → Context → Outcome State
start_in p f x = requires_checked p x f.requires_.items (weighed (items_overflow p f.writes.items (call_scene x.me x.entry x.args)) (Gives (alone p x)))

abbrev pub start_of : Program → Option FunctionInfo → Heap → List Value → Outcome State
start_of p None h args = Unfit
start_of p (Some f) h args = fitting (fit_parameters f args) (start_in p f (callee p p.main f (thread 1) h args))

-- The start of the program on this heap with these arguments: none where they don't fit main's parameters, a fault at the first requires clause that is false, or else the state.
abbrev pub start : Program → Heap → List Value → Outcome State
start p h args = start_of p (slice_get p.functions.items p.main) h args

-- these states are the starts, and no others
abbrev pub StartLaw : Type 0
StartLaw = (p : Program) (s : State) → IsStart p s ↔ ((args : List Value) × ((start p s.heap args).end ≡ Gave s))

-- How a program starts, as the code answers. Own.
use Rattle.std.specs.Prelude.{◌≡◌, List, [], ◌∷◌, Some, Result, Ok, Err}
use Rattle.method.specs.declared.program.CheckKind.TheVariants.{Requires}
use Rattle.method.specs.declared.program.Clause.{Clause}
use Rattle.method.specs.declared.program.FunctionInfo.{FunctionInfo}
use Rattle.method.specs.declared.program.Program.{Program}
use Rattle.object_types.specs.declared.records.Stored.{Stored}
use Rattle.object_types.specs.declared.values.Value.{Value}
use Rattle.object_types.specs.References.{thread}
use Rattle.object_types.specs.Lookups.{heap_of}
use Rattle.method.specs.Actions.{callee}
use Rattle.method.specs.Starts.{start_in}
use Rattle.method.specs.SpecValue.{Scene, holds}
use Rattle.method.specs.Overflow.{overflow}
use Rattle.method.specs.Expressions as x
use Rattle.method.specs.Machine as m
use Rattle.spec_values.specs.Answers.{operands}
use Rattle.machine_values.specs.declared.stop.Stop.{Stop}
use Rattle.machine_values.specs.declared.stop.Stop.TheVariants as stop
use Rattle.machine_values.specs.Answers.{Verdict, Passes, one_verdict}
use Rattle.ref_machine.specs.declared.state.State.{State}
use Rattle.ref_machine.specs.declared.start.StartFault.{StartFault}
use Rattle.ref_machine.specs.declared.start.StartFault.TheVariants.{BadArgs, Requires as FalseClause, Wide as WideStart, OutOfMemory}
use Rattle.ref_machine.specs.States.{Stands}

-- the first requires clause of main that is false, or leaves 128 bits
abbrev pub start_verdict : Program → List Clause → Scene → Verdict
start_verdict p [] s = Passes
start_verdict p (c ∷ cs) s = one_verdict c.line Requires (overflow p c.spec s) (holds p c.spec s) (start_verdict p cs s)

-- the code's state is the one that the program starts in
abbrev pub Starts : State → x.Outcome m.State → Type 0
Starts c o = (s : m.State) × (o ≡ x.Gives s) × Stands s c

-- the program doesn't start, for this reason
abbrev pub StartsNot : StartFault → x.Outcome m.State → Type 0
StartsNot BadArgs o = o ≡ x.Unfit
StartsNot (FalseClause line) o = o ≡ x.Fault 0 Requires line
StartsNot (WideStart w) o = o.overflow ≡ Some (operands w)
StartsNot OutOfMemory o = Unit {0}

-- the same, where main's arguments fit
abbrev pub StartsIn : Result State Stop → x.Outcome m.State → Type 0
StartsIn (Ok c) o = Starts c o
StartsIn (Err stop.Misfit) o = ⊥
StartsIn (Err (stop.Fault kind line)) o = o ≡ x.Fault 0 Requires line
StartsIn (Err (stop.Wide w)) o = o.overflow ≡ Some (operands w)
StartsIn (Err stop.Exhausted) o = Unit {0}
StartsIn (Err stop.OutOfMemory) o = Unit {0}

-- main's start, where its arguments fit
abbrev pub main_start : Program → FunctionInfo → List Stored → List Value → x.Outcome m.State
main_start p f h args = start_in p f (callee p p.main f (thread 1) (heap_of h) args)

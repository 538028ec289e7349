use Rattle.std.proofs.Common.{◌≡◌, ◌++◌, drop}
use Rattle.method.specs.Machine.{zeros_of}
use Rattle.machine_turns.proofs.code.push_zeros.Given as goal

abbrev pub invariant-loop-variable : goal.invariant-loop-variable
invariant-loop-variable l = l.locals.items ++ zeros_of (drop l.variable-index l.variables) ≡ l.initial.locals.items ++ zeros_of l.variables

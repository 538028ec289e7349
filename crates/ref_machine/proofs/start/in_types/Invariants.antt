use Rattle.std.proofs.Common.{◌≡◌, drop}
use Rattle.method.specs.Machine.{in_types}
use Rattle.ref_machine.proofs.start.in_types.Given as goal

abbrev pub invariant-loop-i : goal.invariant-loop-i
invariant-loop-i l = in_types (drop l.i l.variables) (drop l.i l.values) ≡ in_types l.variables l.values

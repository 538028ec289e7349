use Rattle.std.proofs.Common.{◌≡◌, drop}
use Rattle.conditions.specs.Actions.{is_of}
use Rattle.condition_control.proofs.invariants.is_of.Given as goal

abbrev pub invariant-loop-number : goal.invariant-loop-number
invariant-loop-number l = is_of (drop l.number-index l.numbers) l.i ≡ is_of l.numbers l.i

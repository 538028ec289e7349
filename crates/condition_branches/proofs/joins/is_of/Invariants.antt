use Rattle.std.proofs.Common.{◌≡◌, drop}
use Rattle.conditions.specs.Actions.{is_of}
use Rattle.condition_branches.proofs.joins.is_of.Given as goal

abbrev pub invariant-loop-number : goal.invariant-loop-number
invariant-loop-number l = is_of (drop l.number-index l.declared) l.i ≡ is_of l.declared l.i

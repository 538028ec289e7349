use Rattle.std.proofs.Common.{◌≡◌, ◌++◌, drop}
use Rattle.method.specs.Labels.{claimed_kinds}
use Rattle.check_labels.proofs.simples.add_claimed_kinds.Given as goal

abbrev pub invariant-loop-object : goal.invariant-loop-object
invariant-loop-object l = l.kinds.items ++ claimed_kinds (drop l.object-index l.claimed) ≡ l.fn.kinds.items ++ claimed_kinds l.claimed

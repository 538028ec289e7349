use Rattle.std.proofs.Common.{◌≡◌, ◌++◌, drop}
use Rattle.method.specs.Labels.{all_kinds}
use Rattle.check_labels.proofs.kinds.add_all_kinds.Given as goal

abbrev pub invariant-loop-e : goal.invariant-loop-e
invariant-loop-e l = l.kinds.items ++ all_kinds (drop l.e-index l.es) ≡ l.fn.kinds.items ++ all_kinds l.es

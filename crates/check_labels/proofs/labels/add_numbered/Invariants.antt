use Rattle.std.proofs.Common.{◌≡◌, ◌++◌, drop}
use Rattle.method.specs.Labels.{numbered}
use Rattle.check_labels.specs.Labels.{checks_of, labels_of}
use Rattle.check_labels.proofs.labels.add_numbered.Given as goal

abbrev pub invariant-loop-check : goal.invariant-loop-check
invariant-loop-check l = labels_of l.labels.items ++ numbered l.item l.ordinal (checks_of (drop l.check-index l.checks)) ≡ labels_of l.fn.labels.items ++ numbered l.item 1 (checks_of l.checks)

use Rattle.std.proofs.Common.{◌≡◌, ◌++◌, drop}
use Rattle.method.specs.Actions.{listed_exprs}
use Rattle.method.specs.Labels.{all_kinds}
use Rattle.check_labels.proofs.actions.add_listed_kinds.Given as goal

abbrev pub invariant-loop-entry : goal.invariant-loop-entry
invariant-loop-entry l = l.kinds.items ++ all_kinds (listed_exprs (drop l.entry-index l.listed)) ≡ l.fn.kinds.items ++ all_kinds (listed_exprs l.listed)

use Rattle.std.proofs.Common.{◌≡◌, ◌++◌, drop}
use Rattle.check_labels.specs.Labels.{labels_of, items_labels}
use Rattle.check_labels.proofs.labels.add_items.Given as goal

abbrev pub invariant-loop-item : goal.invariant-loop-item
invariant-loop-item l = labels_of l.labels.items ++ items_labels l.program (drop l.item-index l.items) ≡ labels_of l.fn.labels.items ++ items_labels l.program l.items

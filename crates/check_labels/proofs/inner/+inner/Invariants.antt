use Rattle.std.proofs.Common.{◌≡◌, ◌++◌, drop}
use Rattle.method.specs.Labels.{inner_list_labels}
use Rattle.check_labels.specs.Labels.{checks_of}
use Rattle.check_labels.proofs.inner.+inner.Given as goal

abbrev pub invariant-add_block_labels-loop-inner : goal.invariant-add_block_labels-loop-inner
invariant-add_block_labels-loop-inner l = checks_of l.labels.items ++ inner_list_labels l.program (drop l.inner-index l.inners) ≡ checks_of l.initial.labels.items ++ inner_list_labels l.program l.inners

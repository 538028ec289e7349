use Rattle.std.proofs.Common.{◌≡◌, ◌++◌, drop}
use Rattle.method.specs.Text.{inner_list_sets}
use Rattle.statement_text.proofs.setting.+inner.Given as goal

abbrev pub invariant-add_block_sets-loop-inner : goal.invariant-add_block_sets-loop-inner
invariant-add_block_sets-loop-inner l = l.so_far.items ++ inner_list_sets (drop l.inner-index l.inners) ≡ l.initial.so_far.items ++ inner_list_sets l.inners

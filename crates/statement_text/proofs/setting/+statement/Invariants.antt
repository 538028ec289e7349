use Rattle.std.proofs.Common.{◌≡◌, ◌++◌, drop}
use Rattle.statement_text.specs.Rows.{all_set}
use Rattle.statement_text.proofs.setting.+statement.Given as goal

abbrev pub invariant-add_all_sets-loop-statement : goal.invariant-add_all_sets-loop-statement
invariant-add_all_sets-loop-statement l = l.so_far.items ++ all_set (drop l.statement-index l.statements) ≡ l.initial.so_far.items ++ all_set l.statements

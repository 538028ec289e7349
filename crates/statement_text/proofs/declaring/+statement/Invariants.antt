use Rattle.std.proofs.Common.{◌≡◌, ◌++◌, drop}
use Rattle.statement_text.specs.Rows.{all_declare}
use Rattle.statement_text.proofs.declaring.+statement.Given as goal

abbrev pub invariant-add_all_declares-loop-statement : goal.invariant-add_all_declares-loop-statement
invariant-add_all_declares-loop-statement l = l.so_far.items ++ all_declare (drop l.statement-index l.statements) ≡ l.initial.so_far.items ++ all_declare l.statements

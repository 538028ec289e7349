use Rattle.std.proofs.Common.{◌≡◌, drop}
use Rattle.statement_text.specs.Rows.{one_returns}
use Rattle.statement_text.proofs.ending.+statement.Given as goal

abbrev pub invariant-any_returns-loop-statement : goal.invariant-any_returns-loop-statement
invariant-any_returns-loop-statement l = one_returns (drop l.statement-index l.statements) ≡ one_returns l.statements

use Rattle.std.proofs.Common.{◌≡◌, drop}
use Rattle.method.specs.Text.{clauses_read}
use Rattle.statement_text.proofs.reading.clauses_read.Given as goal

abbrev pub invariant-loop-clause : goal.invariant-loop-clause
invariant-loop-clause l = clauses_read (drop l.clause-index l.clauses) ≡ clauses_read l.clauses

use Rattle.std.proofs.Common.{◌≡◌, ◌++◌, drop}
use Rattle.method.specs.Labels.{body_labels}
use Rattle.check_labels.specs.Labels.{checks_of}
use Rattle.check_labels.proofs.statements.+statement.Given as goal

abbrev pub invariant-add_body_labels-loop-statement : goal.invariant-add_body_labels-loop-statement
invariant-add_body_labels-loop-statement l = checks_of l.labels.items ++ body_labels l.program l.function (drop l.statement-index l.statements) ≡ checks_of l.initial.labels.items ++ body_labels l.program l.function l.statements

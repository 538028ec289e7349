use Rattle.std.proofs.Common.{sym}
use Rattle.rule_instances.proofs.columns.column_of.Goals as goal

pub returns-then-number-lt5 : goal.returns-then-number-lt5
returns-then-number-lt5 c = sym (c.status_column.ensures _)

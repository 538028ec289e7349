use Rattle.rule_layouts.proofs.Once.{never_fails}
use Rattle.rule_layouts.proofs.laws.never_fails.Goals as goal

pub returns : goal.returns
returns c = never_fails

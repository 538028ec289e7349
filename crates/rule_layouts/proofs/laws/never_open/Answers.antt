use Rattle.rule_layouts.proofs.Once.{never_open}
use Rattle.rule_layouts.proofs.laws.never_open.Goals as goal

pub returns : goal.returns
returns c = never_open

use Rattle.rule_layouts.proofs.Once.{never_leaves}
use Rattle.rule_layouts.proofs.laws.never_leaves.Goals as goal

pub returns : goal.returns
returns c = never_leaves

use Rattle.rule_layouts.proofs.Once.{derives_one}
use Rattle.rule_layouts.proofs.laws.derives_one.Goals as goal

pub returns : goal.returns
returns c = derives_one

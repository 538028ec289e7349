use Rattle.rule_layouts.proofs.OneList.{theorems_are_one}
use Rattle.rule_layouts.proofs.laws.theorems_are_one.Goals as goal

pub returns : goal.returns
returns c = theorems_are_one

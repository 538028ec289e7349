use Rattle.rule_layouts.proofs.OneList.{judged_are_theorems}
use Rattle.rule_layouts.proofs.laws.judged_are_theorems.Goals as goal

pub returns : goal.returns
returns c = judged_are_theorems

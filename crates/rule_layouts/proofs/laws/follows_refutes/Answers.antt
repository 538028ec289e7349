use Rattle.rule_layouts.proofs.OneList.{follows_refutes}
use Rattle.rule_layouts.proofs.laws.follows_refutes.Goals as goal

pub returns : goal.returns
returns c = follows_refutes

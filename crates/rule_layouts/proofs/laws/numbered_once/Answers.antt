use Rattle.rule_layouts.proofs.Once.{numbered_once}
use Rattle.rule_layouts.proofs.laws.numbered_once.Goals as goal

pub returns : goal.returns
returns c = numbered_once

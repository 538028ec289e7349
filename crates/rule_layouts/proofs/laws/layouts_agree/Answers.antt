use Rattle.rule_layouts.proofs.Agreeing.{layouts_agree}
use Rattle.rule_layouts.proofs.laws.layouts_agree.Goals as goal

pub returns : goal.returns
returns c = layouts_agree

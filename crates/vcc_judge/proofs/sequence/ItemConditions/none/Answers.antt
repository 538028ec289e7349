use Rattle.vcc_judge.proofs.Remaining.{none_held}
use Rattle.vcc_judge.proofs.sequence.ItemConditions.none.Goals as goal

pub returns : goal.returns
returns c = none_held c.new-emitter.result _ _ c.new-emitter.ensures c.new-2.ensures.items

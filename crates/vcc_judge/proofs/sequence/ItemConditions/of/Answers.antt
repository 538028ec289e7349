use Rattle.vcc_judge.proofs.Remaining.{path_held}
use Rattle.vcc_judge.proofs.sequence.ItemConditions.of.Goals as goal

pub returns : goal.returns
returns c = path_held c.new-emitter.result c.new-walk.result c.add_item_path.new.walk _ c.new-emitter.ensures c.new-walk.ensures.path c.in_ok-add_item_path.ensures

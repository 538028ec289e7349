use Rattle.condition_code.proofs.Emitters.{at_start}
use Rattle.condition_code.proofs.emitter.Emitter.new.Goals as goal

pub returns : goal.returns
returns c = at_start c.new.ensures.items c.new-2.ensures.items

use Rattle.condition_code.proofs.Walks.{by_facts}
use Rattle.condition_code.proofs.walk.Walk.all_facts.Goals as goal

pub returns : goal.returns
returns c = λ fs all. by_facts c.in_ok-add_facts.ensures all

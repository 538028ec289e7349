use Rattle.condition_code.proofs.Walks.{by_checks}
use Rattle.condition_code.proofs.walk.Walk.check_each.Goals as goal

pub returns : goal.returns
returns c = λ fs all. by_checks c.in_ok-add_checks.ensures all

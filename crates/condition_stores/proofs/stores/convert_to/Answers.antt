use Rattle.condition_code.proofs.Walks.{gives}
use Rattle.condition_stores.proofs.stores.convert_to.Goals as goal

pub returns-in-None : goal.returns-in-None
returns-in-None c = λ p b w hw. rw c.in-None.is (gives (λ n f h. h) hw)

pub returns-in_ok-inside-in-Some : goal.returns-in_ok-inside-in-Some
returns-in_ok-inside-in-Some c = λ p b w hw. rw c.in-Some.is (c.in_ok-inside-in-Some.ensures p b w hw)

use Rattle.condition_code.proofs.States.{state_later}
use Rattle.condition_code.proofs.Walks.{gives, fact_then}
use Rattle.condition_control.proofs.loops.failed.Goals as goal

pub returns : goal.returns
returns c = λ f s l hf hs hl.
    let went = c.in_ok-fact.ensures _ hf in
    fact_then went (gives (λ n g h. h) (state_later went.later (c.in_ok-behind.ensures _ s l hs hl)))

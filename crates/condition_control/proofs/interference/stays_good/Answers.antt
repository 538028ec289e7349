use Rattle.condition_formulas.proofs.Rows.{more, none}
use Rattle.condition_code.proofs.States.{state_later}
use Rattle.condition_code.proofs.Walks.{gives, run_built, fact_then}
use Rattle.condition_control.proofs.interference.stays_good.Goals as goal

pub returns : goal.returns
returns c = λ s hs.
    let went = c.in_ok-fact.ensures _ (c.in_ok-good.ensures.stands _ (more hs.heap_is none)) in
    run_built c.in_ok-good.ensures.later (fact_then went (gives (λ n f h. h) (state_later went.later (state_later c.in_ok-good.ensures.later hs))))

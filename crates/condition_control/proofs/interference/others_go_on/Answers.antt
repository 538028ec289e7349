use Rattle.condition_formulas.proofs.Rows.{more, none}
use Rattle.condition_code.proofs.States.{state_later}
use Rattle.condition_code.proofs.Walks.{gives, run_built, fact_then}
use Rattle.condition_control.proofs.interference.others_go_on.Goals as goal

pub returns : goal.returns
returns c = λ s hs.
    let moved = state_later c.in_ok-thread.ensures.later (c.in_ok-moved.ensures.stands s hs) in
    let heap = c.in_ok-thread.ensures.later _ _ (c.in_ok-moved.ensures.later _ _ hs.heap_is) in
    let went = c.in_ok-fact.ensures _ (c.in_ok-relied.ensures.stands _ (more c.in_ok-thread.ensures.stands (more heap (more moved.heap_is none)))) in
    run_built c.in_ok-moved.ensures.later (run_built c.in_ok-thread.ensures.later (run_built c.in_ok-relied.ensures.later (fact_then went (gives (λ n f h. h) (state_later went.later (state_later c.in_ok-relied.ensures.later moved))))))

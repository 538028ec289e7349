use Rattle.condition_formulas.proofs.Rows.{both, more, none, all_later, same_ids}
use Rattle.condition_code.proofs.States.{state_later}
use Rattle.condition_code.proofs.Walks.{gives, run_built, fact_then}
use Rattle.condition_control.proofs.interference.frame_step.Goals as goal

pub returns : goal.returns
returns c = λ e w s he hw hs.
    let moved = state_later c.in_ok-thread.ensures.later (c.in_ok-moved.ensures.stands s hs) in
    let heap = c.in_ok-thread.ensures.later _ _ (c.in_ok-moved.ensures.later _ _ hs.heap_is) in
    let entry = c.in_ok-thread.ensures.later _ _ (c.in_ok-moved.ensures.later _ _ he) in
    let writes = all_later c.in_ok-thread.ensures.later (all_later c.in_ok-moved.ensures.later hw) in
    let parts = same_ids c.deref.ensures.value (same_ids c.in_ok-parts.ensures (both (more c.in_ok-thread.ensures.stands (more heap (more moved.heap_is (more entry none)))) writes)) in
    let went = c.in_ok-fact.ensures _ (c.in_ok-framed.ensures.stands _ parts) in
    run_built c.in_ok-moved.ensures.later (run_built c.in_ok-thread.ensures.later (run_built c.in_ok-framed.ensures.later (fact_then went (gives (λ n f h. h) (state_later went.later (state_later c.in_ok-framed.ensures.later moved))))))

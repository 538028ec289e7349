use Rattle.std.specs.Prelude.{map}
use Rattle.condition_formulas.proofs.Rows.{same_ids, all_later}
use Rattle.condition_formulas.proofs.Symbolics.{are_later}
use Rattle.condition_code.proofs.States.{state_later}
use Rattle.condition_code.proofs.Walks.{run_built, checks_then}
use Rattle.condition_actions.specs.Threads.{passable}
use Rattle.condition_actions.proofs.threads.spawn_items.Goals as goal

pub returns : goal.returns
returns c = λ b ws xs s hb hw hx hs.
    let on1 = c.in_ok-tests.ensures.later in
    let first = c.in_ok-check_each.ensures _ (same_ids c.deref.ensures.value (c.in_ok-tests.ensures.stands b s xs hb hs hx)) in
    let hw1 = are_later first.later (are_later on1 hw) in
    let hx1 = all_later first.later (all_later on1 hx) in
    let hs1 = state_later first.later (state_later on1 hs) in
    let on2 = c.in_ok-u.ensures.later in
    let u = c.in_ok-u.ensures.stands s hs1 in
    let on3 = c.in_ok-thread.ensures.later in
    let thread = c.in_ok-thread.ensures.stands _ u.value_is in
    let on4 = c.in_ok-behind.ensures.later in
    let behind = c.in_ok-behind.ensures.stands xs _ s.heap (all_later on3 (all_later on2 hx1)) thread (on3 _ _ (on2 _ _ hs1.heap_is)) in
    let start = c.in_ok-state.ensures b ws xs _ _ _ (are_later on4 (are_later on3 (are_later on2 hw1))) (on4 _ _ thread) behind (state_later on4 (state_later on3 u.state_is)) in
    run_built on1 (checks_then (map (passable c.args.a.now.program.now b s) xs) first (run_built on2 (run_built on3 (run_built on4 start))))

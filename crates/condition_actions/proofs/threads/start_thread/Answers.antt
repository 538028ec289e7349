use Rattle.conditions.specs.Code.{call_scene}
use Rattle.conditions.specs.Actions.{clauses}
use Rattle.condition_formulas.proofs.Rows.{same_ids}
use Rattle.condition_formulas.proofs.Symbolics.{are_later}
use Rattle.condition_code.proofs.States.{state_later}
use Rattle.condition_code.proofs.Walks.{gives, run_built, checks_then, facts_then}
use Rattle.condition_actions.specs.Threads.{newness}
use Rattle.condition_actions.proofs.threads.start_thread.Goals as goal

pub returns : goal.returns
returns c = λ b ws items u h s hw hu hh hs.
    let p = c.args.a.now.program.now in
    let on1 = c.in_ok-facts.ensures.later in
    let first = c.in_ok-all_facts.ensures _ (same_ids c.deref.ensures.value (c.in_ok-facts.ensures.stands u s.heap hu hs.heap_is)) in
    let hu1 = first.later _ _ (on1 _ _ hu) in
    let hh1 = first.later _ _ (on1 _ _ hh) in
    let on2 = c.in_ok-words.ensures.later in
    let words = c.in_ok-words.ensures.stands u h ws hu1 hh1 (are_later first.later (are_later on1 hw)) in
    let on3 = c.in_ok-needs.ensures.later in
    let needs = rw c.deref-2.ensures.value at (c.in_ok-needs.ensures.stands b (call_scene u h ws) words) in
    let second = c.in_ok-check_each.ensures _ (same_ids c.deref-3.ensures.value needs) in
    let hs2 = state_later second.later (state_later on3 (state_later on2 (state_later first.later (state_later on1 hs)))) in
    let end = c.with_heap.ensures _ s h hs2 (second.later _ _ (on3 _ _ (on2 _ _ hh1))) in
    run_built on1 (facts_then (newness u s.heap) first (run_built on2 (run_built on3 (checks_then (clauses p b c.args.f.now.requires_.items (call_scene u h ws)) second (gives (λ n f g. g) end)))))

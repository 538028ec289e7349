use Rattle.std.specs.Prelude.{map}
use Rattle.conditions.specs.Code.{inv}
use Rattle.conditions.specs.Actions.{plain_objects}
use Rattle.condition_formulas.proofs.Rows.{same_ids}
use Rattle.condition_code.proofs.States.{state_later}
use Rattle.condition_code.proofs.Walks.{gives, run_built, checks_then}
use Rattle.condition_actions.specs.Blocks.{kept_test, claim_test}
use Rattle.condition_actions.proofs.BlockEnds.{plain_stand}
use Rattle.condition_actions.proofs.Each.{same_objects, same_claims}
use Rattle.condition_actions.proofs.blocks.block_end.Goals as goal

pub returns : goal.returns
returns c = λ b os h s ho hh hs.
    let plain = same_ids c.deref.ensures.value (same_ids c.in_ok-plain.ensures (plain_stand c.args.listed.now ho)) in
    let on1 = c.in_ok-kept.ensures.later in
    let first = c.in_ok-check_each.ensures _ (same_ids c.deref-2.ensures.value (c.in_ok-kept.ensures.stands _ h s.heap plain hh hs.heap_is)) in
    let hh1 = first.later _ _ (on1 _ _ hh) in
    let hs1 = state_later first.later (state_later on1 hs) in
    let on2 = c.in_ok-changed.ensures.later in
    let second = c.in_ok-check_each-2.ensures _ (same_ids c.deref-4.ensures.value (c.in_ok-changed.ensures.stands h s.heap s.changed hh1 hs1.heap_is (same_objects c.deref-3.ensures.value hs1.changed_are))) in
    let hs2 = state_later second.later (state_later on2 hs1) in
    let on3 = c.in_ok-made.ensures.later in
    let third = c.in_ok-check_each-3.ensures _ (same_ids c.deref-6.ensures.value (c.in_ok-made.ensures.stands s.heap s.made hs2.heap_is (same_claims c.deref-5.ensures.value hs2.made_are))) in
    let hs3 = state_later third.later (state_later on3 hs2) in
    let end = c.in_ok-state.ensures _ s hs3 in
    run_built on1 (checks_then (map (λ o. inv o h s.heap) (plain_objects c.args.listed.now os)) first (run_built on2 (checks_then (map (kept_test h s.heap) s.changed) second (run_built on3 (checks_then (map (claim_test c.args.program.now s.heap) s.made) third (gives (λ n f g. g) end))))))

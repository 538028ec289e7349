use Rattle.std.proofs.Common.{refl}
use Rattle.std.specs.Prelude.{map}
use Rattle.method.specs.Actions.{listed_exprs}
use Rattle.conditions.specs.Formulas.{closed}
use Rattle.conditions.specs.Code.{all_code}
use Rattle.conditions.specs.Actions.{without_deferred, inside_block}
use Rattle.condition_formulas.proofs.Rows.{same_ids, all_later}
use Rattle.condition_code.proofs.States.{spot_later, state_later}
use Rattle.condition_code.proofs.Walks.{run_then, run_built, checks_then}
use Rattle.condition_actions.proofs.Kept.{in_block}
use Rattle.condition_actions.proofs.blocks.atomic.Goals as goal

pub returns : goal.returns
returns c = λ b s hb hs.
    let p = c.args.a.now.program.now in
    let os = (all_code p b s (listed_exprs c.args.listed.now)).gives in
    let x = c.in_ok-objects.ensures b s hb hs in
    let hb1 = spot_later x.goes.later hb in
    let hs1 = state_later x.goes.later hs in
    let on = c.in_ok-closed.ensures.later in
    let tests = c.in_ok-closed.ensures.stands s.heap _ hs1.heap_is (same_ids c.deref.ensures.value x.gives.all) in
    let went = c.in_ok-check_each.ensures _ (same_ids c.deref-2.ensures.value tests) in
    let hb2 = spot_later went.later (spot_later on hb1) in
    let hs2 = state_later went.later (state_later on hs1) in
    let objects = all_later went.later (all_later on x.gives.all) in
    let start = c.in_ok-start.ensures _ s hs2 in
    let run = c.in_ok-end.ensures (inside_block b os) (without_deferred s) (in_block refl refl refl refl hb2 (same_ids c.deref-3.ensures.value objects)) start in
    let last = c.in_ok-state.ensures b _ s.heap _ (same_ids c.deref-4.ensures.value (all_later run.goes.later objects)) (run.goes.later _ _ hs2.heap_is) run.gives in
    run_then x (run_built on (checks_then (map (closed s.heap) os) went (run_then run last)))

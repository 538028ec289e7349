use Rattle.std.proofs.Common.{refl}
use Rattle.condition_code.proofs.States.{spot_later, state_later}
use Rattle.condition_code.proofs.Walks.{run_then}
use Rattle.condition_control.proofs.Steps.{same_interference}
use Rattle.condition_control.proofs.loops.do_end.Goals as goal

pub returns : goal.returns
returns c = λ f b s hb hs.
    let moved = same_interference s c.reads.ensures refl (c.in_ok-moved.ensures s hs) in
    let there = spot_later moved.goes.later hb in
    let fork = c.in_ok-fork.ensures f b _ there moved.gives in
    let before = c.in_ok-before.ensures _ _ fork.gives.state_is in
    let begins = c.in_ok-from.ensures _ fork.gives.test_is in
    let end = c.in_ok-end.ensures f b _ (spot_later begins.later (spot_later fork.goes.later there)) (state_later begins.later fork.gives.state_is) in
    run_then moved (run_then fork (c.in_ok-left.ensures _ _ _ _ _ begins end fork.gives.fails_is before))

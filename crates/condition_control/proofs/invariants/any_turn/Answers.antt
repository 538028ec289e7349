use Rattle.condition_code.proofs.States.{spot_later}
use Rattle.condition_code.proofs.Walks.{run_then}
use Rattle.condition_control.proofs.invariants.any_turn.Goals as goal

pub returns : goal.returns
returns c = λ b s hb hs.
    let checked = c.in_ok-checked.ensures c.args.f.now b s hb hs in
    let changed = c.in_ok-changed.ensures _ checked.gives in
    let there = spot_later changed.goes.later (spot_later checked.goes.later hb) in
    let framed = c.in_ok-framed.ensures _ _ _ there.entry_is there.writes_are changed.gives in
    let known = c.in_ok-known.ensures c.args.f.now b _ (spot_later framed.goes.later there) framed.gives in
    run_then checked (run_then changed (run_then framed known))

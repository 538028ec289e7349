use Rattle.condition_formulas.proofs.Symbolics.{symbolic_later}
use Rattle.condition_code.proofs.States.{spot_later, state_later}
use Rattle.condition_code.proofs.Walks.{run_then, run_built}
use Rattle.condition_walk.proofs.statements.close_object.Goals as goal

pub returns : goal.returns
returns c = λ f b w s hb hw hs.
    let moved = c.in_ok-moved.ensures s hs in
    let on = c.in_ok-object.ensures.later in
    let object = c.in_ok-object.ensures.stands w (symbolic_later moved.goes.later hw) in
    run_then moved (run_built on (c.in_ok-closed.ensures b _ _ (spot_later on (spot_later moved.goes.later hb)) object (state_later on moved.gives)))

use Rattle.condition_code.proofs.States.{spot_later, state_later}
use Rattle.condition_code.proofs.Walks.{run_built}
use Rattle.condition_actions.proofs.wrapping.wrap_object.Goals as goal

pub returns : goal.returns
returns c = λ b x s hb hx hs.
    let p = c.args.a.now.program.now in
    let on = c.in_ok-set.ensures.later in
    let set = c.in_ok-set.ensures.stands b x s.heap hx hs.heap_is in
    let closes = c.in_ok-state.ensures b _ x s (spot_later on hb) set (on _ _ hx) (state_later on hs) in
    run_built on (rw c.has_fixed_owns.ensures at closes)

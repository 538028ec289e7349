use Rattle.condition_code.proofs.States.{spot_later}
use Rattle.condition_code.proofs.Walks.{run_then}
use Rattle.condition_walk.proofs.Receiving.{receiving_later}
use Rattle.condition_walk.proofs.calls.call_unknown.Goals as goal

pub returns : goal.returns
returns c = λ f b ws q s hb hq hs.
    let p = c.args.a.now.program.now in
    let value = c.in_ok-value.ensures p f b s hs in
    run_then value (c.in_ok-received.ensures f b q _ (spot_later value.goes.later hb) (receiving_later value.goes.later hq) value.gives)

use Rattle.std.proofs.Common.{refl}
use Rattle.condition_code.proofs.States.{spot_later}
use Rattle.condition_code.proofs.Walks.{run_then}
use Rattle.condition_control.proofs.Steps.{same_interference}
use Rattle.condition_control.proofs.loops.do_start.Goals as goal

pub returns : goal.returns
returns c = λ b s hb hs.
    let moved = same_interference s c.specs_read.ensures refl (c.in_ok-moved.ensures s hs) in
    run_then moved (c.in_ok-known.ensures b _ (spot_later moved.goes.later hb) moved.gives)

use Rattle.std.proofs.Common.{refl}
use Rattle.condition_code.proofs.States.{spot_later}
use Rattle.condition_code.proofs.Walks.{run_then}
use Rattle.condition_control.proofs.Steps.{same_interference}
use Rattle.condition_control.proofs.loops.while_start.Goals as goal

pub returns : goal.returns
returns c = λ b s hb hs.
    let moved = same_interference s c.while_reads.ensures refl (c.in_ok-moved.ensures s hs) in
    let there = spot_later moved.goes.later hb in
    let known = c.in_ok-known.ensures b _ there moved.gives in
    run_then moved (run_then known (c.in_ok-fork.ensures c.args.f.now b _ (spot_later known.goes.later there) known.gives))

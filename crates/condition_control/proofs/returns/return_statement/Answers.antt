use Rattle.std.proofs.Common.{refl}
use Rattle.condition_code.proofs.States.{spot_later}
use Rattle.condition_code.proofs.Walks.{run_then}
use Rattle.condition_control.proofs.Steps.{same_interference}
use Rattle.condition_control.proofs.returns.return_statement.Goals as goal

pub returns : goal.returns
returns c = λ b s hb hs.
    let moved = same_interference s c.return_reads.ensures refl (c.in_ok-moved.ensures s hs) in
    let checked = c.in_ok-checked.ensures b _ (spot_later moved.goes.later hb) moved.gives in
    run_then moved (run_then checked (c.in_ok-ended.ensures _ checked.gives))

use Rattle.std.specs.Prelude.{◌<◌, ◌≤◌, length}
use Rattle.std.proofs.Common.{arith}
use Rattle.condition_control.proofs.Steps.{havocs_first, havocs_next, havocs_last}
use Rattle.condition_control.proofs.invariants.havoc.Goals as goal

pub loop-i-init : goal.loop-i-init
loop-i-init c = havocs_first

pub loop-i-preserved : goal.loop-i-preserved
loop-i-preserved c =
    let below : c.loop-i.i < length c.args.f.now.variables.items = omega (arith, c.in_ok-count.ensures, c.loop-i-test.true) in
    havocs_next c.loop-i.invariant below c.is_changed-is_set.ensures c.in_ok-st.ensures

pub returns : goal.returns
returns c =
    let above : length c.args.f.now.variables.items ≤ c.loop-i.i = omega (arith, c.in_ok-count.ensures, c.loop-i-test.false) in
    havocs_last c.loop-i.invariant above

use Rattle.std.proofs.Common.{length, ◌-◌}
use Rattle.object_types.proofs.Rows.{From}
use Rattle.object_types.proofs.values.row_before.Given as goal

abbrev pub invariant-loop-i : goal.invariant-loop-i
invariant-loop-i l = From l.left l.right l.i

abbrev pub decreases-loop-i : goal.decreases-loop-i
decreases-loop-i l = length l.left - l.i

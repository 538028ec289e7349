use Rattle.object_types.proofs.Equal.{Agree}
use Rattle.object_types.proofs.shapes.same_conjuncts.Given as goal

abbrev pub invariant-loop-i : goal.invariant-loop-i
invariant-loop-i l = Agree l.left l.right l.i

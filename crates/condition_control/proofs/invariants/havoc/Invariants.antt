use Rattle.condition_control.specs.Forms.{set_outside}
use Rattle.condition_control.proofs.Steps.{HavocsTo}
use Rattle.condition_control.proofs.invariants.havoc.Given as goal

abbrev pub invariant-loop-i : goal.invariant-loop-i
invariant-loop-i l = HavocsTo l.f (set_outside l.sets l.declares) l.initial.st l.fn.walk.graph l.walk.graph l.fn.walk.path.items l.walk.path.items l.st l.i

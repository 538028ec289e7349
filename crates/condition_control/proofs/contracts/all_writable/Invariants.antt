use Rattle.condition_control.proofs.Writables.{Writables}
use Rattle.condition_control.proofs.contracts.all_writable.Given as goal

abbrev pub invariant-loop-item : goal.invariant-loop-item
invariant-loop-item l = Writables l.a.program.now l.a l.fn.graph l.graph l.items l.all.items l.item-index

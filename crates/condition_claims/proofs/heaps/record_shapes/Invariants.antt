use Rattle.conditions.specs.Actions.{record_shapes}
use Rattle.condition_formulas.specs.Standing.{StandsAs}
use Rattle.condition_code.specs.States.{AreEntries}
use Rattle.condition_claims.proofs.Each.{Folds}
use Rattle.condition_claims.proofs.heaps.record_shapes.Given as goal

abbrev pub invariant-loop-entry : goal.invariant-loop-entry
invariant-loop-entry l = Folds (StandsAs l.fn.graph l.claim) (AreEntries l.fn.graph l.entries) (record_shapes l.program) l.fn.graph l.graph l.fn.heap l.recording l.entry-index

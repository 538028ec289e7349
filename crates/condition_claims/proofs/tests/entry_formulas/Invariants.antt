use Rattle.conditions.specs.Annotations.{entry_formula}
use Rattle.condition_formulas.specs.Standing.{StandsAs}
use Rattle.condition_code.specs.States.{AreEntries}
use Rattle.condition_claims.proofs.Each.{OfEach}
use Rattle.condition_claims.proofs.tests.entry_formulas.Given as goal

abbrev pub invariant-loop-entry : goal.invariant-loop-entry
invariant-loop-entry l = OfEach (StandsAs l.fn.graph l.heap) (AreEntries l.fn.graph l.entries) (entry_formula l.program) l.fn.graph l.graph l.all.items l.entry-index

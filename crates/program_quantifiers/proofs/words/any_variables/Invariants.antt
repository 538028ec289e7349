use Rattle.std.specs.Prelude.{List, drop}
use Rattle.terms.specs.declared.term.Term.{Term}
use Rattle.conditions.specs.Formulas.{null}
use Rattle.condition_formulas.specs.Standing.{StandsAs}
use Rattle.annotation_scenes.proofs.Done.{DoneValues}
use Rattle.program_quantifiers.specs.Words.{any_variables}
use Rattle.program_quantifiers.proofs.words.any_variables.Given as goal

abbrev pub invariant-loop-variable : goal.invariant-loop-variable
invariant-loop-variable l = (ts : List Term) → StandsAs ts l.nothing null → DoneValues ts l.values.items (any_variables (drop l.variable-index l.variables)) (any_variables l.variables)

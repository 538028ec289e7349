use Rattle.terms.specs.Formula.{Formula}
use Rattle.conditions.specs.Annotations.{entry_formula}
use Rattle.condition_formulas.specs.Standing.{StandsAs}
use Rattle.condition_code.specs.States.{IsEntry}
use Rattle.condition_actions.proofs.Each.{Makes}
use Rattle.condition_actions.proofs.blocks.entry_formulas.Given as goal

abbrev pub invariant-loop-entry : goal.invariant-loop-entry
invariant-loop-entry l = Makes (λ (h : Formula). StandsAs l.fn.graph l.heap h) IsEntry (λ h e. entry_formula l.program h e) l.fn.graph l.graph l.entries l.formulas.items l.entry-index

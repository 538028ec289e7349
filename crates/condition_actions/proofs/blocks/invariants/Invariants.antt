use Rattle.terms.specs.Formula.{Formula}
use Rattle.conditions.specs.Code.{inv}
use Rattle.condition_formulas.specs.Standing.{StandsAs}
use Rattle.condition_actions.proofs.Each.{Makes}
use Rattle.condition_actions.proofs.blocks.invariants.Given as goal

abbrev pub invariant-loop-o : goal.invariant-loop-o
invariant-loop-o l = Makes (λ (h : Formula × Formula). StandsAs l.fn.graph l.before h.0 × StandsAs l.fn.graph l.after h.1) StandsAs (λ h o. inv o h.0 h.1) l.fn.graph l.graph l.objects l.tests.items l.o-index

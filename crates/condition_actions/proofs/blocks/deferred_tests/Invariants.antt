use Rattle.terms.specs.Formula.{Formula}
use Rattle.condition_formulas.specs.Standing.{StandsAs}
use Rattle.condition_code.specs.States.{IsDeferred}
use Rattle.condition_actions.specs.Blocks.{kept_test}
use Rattle.condition_actions.proofs.Each.{Makes}
use Rattle.condition_actions.proofs.blocks.deferred_tests.Given as goal

abbrev pub invariant-loop-object : goal.invariant-loop-object
invariant-loop-object l = Makes (λ (h : Formula × Formula). StandsAs l.fn.graph l.before h.0 × StandsAs l.fn.graph l.after h.1) IsDeferred (λ h d. kept_test h.0 h.1 d) l.fn.graph l.graph l.changed l.tests.items l.object-index

use Rattle.terms.specs.Formula.{Formula}
use Rattle.condition_formulas.specs.Standing.{StandsAs}
use Rattle.condition_code.specs.States.{IsDeferredClaim}
use Rattle.condition_actions.specs.Blocks.{claim_test}
use Rattle.condition_actions.proofs.Each.{Makes}
use Rattle.condition_actions.proofs.blocks.made_tests.Given as goal

abbrev pub invariant-loop-claim : goal.invariant-loop-claim
invariant-loop-claim l = Makes (λ (h : Formula). StandsAs l.fn.graph l.heap h) IsDeferredClaim (λ h d. claim_test l.program h d) l.fn.graph l.graph l.made l.tests.items l.claim-index

use Rattle.conditions.specs.Code as spec
use Rattle.condition_formulas.specs.Standing.{StandsAs}
use Rattle.condition_code.specs.States.{IsSpot, IsState}
use Rattle.condition_actions.specs.Threads.{passable}
use Rattle.condition_actions.proofs.Each.{Makes}
use Rattle.condition_actions.proofs.threads.each_passable.Given as goal

abbrev pub invariant-loop-o : goal.invariant-loop-o
invariant-loop-o l = Makes (λ (k : spec.Spot × spec.State). IsSpot l.fn.graph l.a k.0 × IsState l.fn.graph l.st k.1) StandsAs (λ k o. passable l.a.program.now k.0 k.1 o) l.fn.graph l.graph l.items l.tests.items l.o-index

-- The test of a branch inside a block. Own.
use Rattle.method.specs.declared.program.Expr.{Expr}
use Rattle.method.specs.declared.program.Program.{Program}
use Rattle.conditions.specs.Code as spec
use Rattle.conditions.specs.Symbolic.{test}
use Rattle.conditions.specs.Formulas.{not'}
use Rattle.condition_formulas.specs.Standing.{StandsAs}
use Rattle.condition_code.specs.Walks.{Went}
use Rattle.condition_code.specs.declared.walk.Walk.{Walk}
use Rattle.condition_actions.specs.declared.inner.Fork.{Fork}

-- the test was worked out, and these are it and its opposite
pub record Forks (p : Program) (b : spec.Spot) (s : spec.State) (e : Expr) (old new : Walk) (c : Fork) : Type 0 where
  pub went : Went old new (spec.code p b s e).path
  pub passes : StandsAs new.graph c.passes (test (spec.code p b s e).gives)
  pub fails : StandsAs new.graph c.fails (not' (test (spec.code p b s e).gives))

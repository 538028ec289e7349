-- What a test comes to, in code as nodes of a graph. Own.
use Rattle.std.specs.Prelude.{List}
use Rattle.terms.specs.declared.term.Term.{Term}
use Rattle.conditions.specs.Formulas.{not'}
use Rattle.conditions.specs.Symbolic.{test}
use Rattle.conditions.specs.Code as spec
use Rattle.condition_formulas.specs.Standing.{StandsAs}
use Rattle.condition_code.specs.States.{IsState}
use Rattle.condition_control.specs.declared.forks.Fork.{Fork}

-- a test of this value, and its denial, in this state
pub record IsFork (ts : List Term) (c : Fork) (v : spec.ValueAndState) : Type 0 where
  pub state_is : IsState ts c.state v.state
  pub test_is : StandsAs ts c.test (test v.value)
  pub fails_is : StandsAs ts c.fails (not' (test v.value))

-- A quantified formula in code, with its body as a node of a graph. Own.
use Rattle.std.specs.Prelude.{◌≡◌, List}
use Rattle.terms.specs.declared.term.Term.{Term}
use Rattle.conditions.specs.Quantified.{QuantifiedFormula}
use Rattle.condition_formulas.specs.Standing.{StandsAs}
use Rattle.quantified_formulas.specs.declared.quantified.Quantified.{Quantified}

-- the code's formula is the definition's
pub record IsQuantified (ts : List Term) (c : Quantified) (q : QuantifiedFormula) : Type 0 where
  pub number_is : c.number ≡ q.number
  pub sorts_are : c.arguments.items ≡ q.arguments
  pub body_is : StandsAs ts c.body q.body

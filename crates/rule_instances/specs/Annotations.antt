-- The formulas of annotations in code. Own.
use Rattle.std.specs.Prelude.{◌≡◌, Option, Some, None, MatchOption}
use Rattle.terms.specs.Formula.{Formula}
use Rattle.condition_formulas.specs.Standing.{StandsAs}
use Rattle.rule_instances.specs.declared.annotations.Annotation.{Annotation}

-- the node of the language's graph is this formula
pub record IsAnnotation (a : Annotation) (f : Option Formula) : Type 0 where
  pub formula : Formula
  pub is : f ≡ Some formula
  pub stands : StandsAs a.graph.now a.root formula

-- there is an annotation in the code just where there is a formula, and it is the formula
abbrev pub IsBody : Option Annotation → Option Formula → Type 0
IsBody body f = MatchOption body (f ≡ None) (λ a. IsAnnotation a f)

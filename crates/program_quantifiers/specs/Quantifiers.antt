-- Quantified formulas in code, with their bodies as nodes of a graph. Own.
use Rattle.std.specs.Prelude.{List, [], ◌∷◌, ◌++◌}
use Rattle.terms.specs.declared.term.Term.{Term}
use Rattle.conditions.specs.Quantified.{QuantifiedFormula}
use Rattle.condition_formulas.specs.Standing.{Later}
use Rattle.quantified_formulas.specs.declared.quantified.Quantified.{Quantified}
use Rattle.quantified_formulas.specs.Forms.{IsQuantified}
use Rattle.program_quantifiers.specs.declared.quantifiers.Quantifiers.{Quantifiers}

abbrev pub EachQuantified : List Term → List Quantified → List QuantifiedFormula → Type 0
EachQuantified ts [] [] = Unit {0}
EachQuantified ts [] (q ∷ qs) = ⊥
EachQuantified ts (c ∷ cs) [] = ⊥
EachQuantified ts (c ∷ cs) (q ∷ qs) = IsQuantified ts c q × EachQuantified ts cs qs

-- one by one
pub record AreQuantified (ts : List Term) (cs : List Quantified) (qs : List QuantifiedFormula) : Type 0 where
  pub each : EachQuantified ts cs qs

-- from the one list to the other these formulas are added at the end
pub record Adds (old new : Quantifiers) (more : List QuantifiedFormula) : Type 0 where
  pub later : Later old.graph new.graph
  pub all : (qs : List QuantifiedFormula) → AreQuantified old.graph old.formulas.items qs → AreQuantified new.graph new.formulas.items (qs ++ more)

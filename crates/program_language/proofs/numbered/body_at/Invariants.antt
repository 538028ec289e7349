use Rattle.std.specs.Prelude.{◌≡◌, List, drop}
use Rattle.conditions.specs.Quantified.{QuantifiedFormula, find_quantifier}
use Rattle.program_quantifiers.specs.Quantifiers.{AreQuantified}
use Rattle.program_language.proofs.numbered.body_at.Given as goal

abbrev pub invariant-loop-formula : goal.invariant-loop-formula
invariant-loop-formula l = (qs : List QuantifiedFormula) → AreQuantified l.fn.graph l.formulas qs → find_quantifier l.number (drop l.formula-index qs) ≡ find_quantifier l.number qs

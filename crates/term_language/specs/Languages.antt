-- What a language in code stands for. Own.
use Rattle.std.specs.Prelude.{◌≡◌, ℕ, List, map}
use Rattle.terms.specs.declared.term.Term.{Term}
use Rattle.term_meaning.specs.Meaning.{Language, Quantified, quantified_sorts}
use Rattle.term_meaning.specs.Columns.{column_sorts}
use Rattle.condition_formulas.specs.Standing.{StandAll}
use Rattle.term_language.specs.declared.language.Language.{Language as Code}

-- the code has the columns and the annotations' formulas of this language
pub record IsLanguage (c : Code) (l : Language) : Type 0 where
  pub columns : c.columns.columns.items ≡ column_sorts l.program
  pub holes : c.columns.quantified.items ≡ quantified_sorts l
  pub bodies : StandAll c.graph c.bodies.items (map (λ (q : Quantified). q.body) l.quantified)
  pub invariants : StandAll c.graph c.invariants.items l.invariants
  pub conjuncts : StandAll c.graph c.conjuncts.items l.conjuncts

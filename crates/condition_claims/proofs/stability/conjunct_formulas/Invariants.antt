use Rattle.terms.specs.Formula.{Formula}
use Rattle.conditions.specs.Annotations.{Scene, entry_formula, entry_of}
use Rattle.condition_formulas.specs.Standing.{StandsAs}
use Rattle.annotation_scenes.specs.Scenes.{IsScene}
use Rattle.condition_annotations.proofs.Mapped.{Mapped}
use Rattle.condition_claims.proofs.stability.conjunct_formulas.Given as goal

abbrev pub invariant-loop-conjunct : goal.invariant-loop-conjunct
invariant-loop-conjunct l =
    Mapped (λ (s : Formula × Scene). StandsAs l.fn.graph l.heap s.0 × IsScene l.fn.graph l.scene s.1) (λ s d. entry_formula l.program s.0 (entry_of s.1 d)) l.fn.graph l.graph l.conjuncts l.all.items l.conjunct-index

use Rattle.conditions.specs.Symbolic.{term}
use Rattle.conditions.specs.Annotations.{translate, formula}
use Rattle.annotation_scenes.specs.Scenes.{IsScene}
use Rattle.condition_annotations.proofs.Mapped.{Mapped}
use Rattle.condition_annotations.proofs.translate.+translate.Given as goal

abbrev pub invariant-tests-loop-e : goal.invariant-tests-loop-e
invariant-tests-loop-e l = Mapped (IsScene l.fn.graph l.scene) (λ s e. formula l.program e s) l.fn.graph l.graph l.es l.all.items l.e-index

abbrev pub invariant-terms_of-loop-e : goal.invariant-terms_of-loop-e
invariant-terms_of-loop-e l = Mapped (IsScene l.fn.graph l.scene) (λ s e. term (translate l.program e s)) l.fn.graph l.graph l.es l.all.items l.e-index

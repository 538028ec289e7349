use Rattle.method.specs.declared.program.Spec.{Spec}
use Rattle.conditions.specs.Annotations.{Scene}
use Rattle.conditions.specs.Quantified.{spec_quantifiers}
use Rattle.annotation_scenes.specs.Scenes.{IsScene}
use Rattle.program_quantifiers.proofs.Adding.{AddsUpTo}
use Rattle.program_quantifiers.proofs.annotations.+add_annotation.Given as goal

abbrev pub invariant-add_annotations-loop-e : goal.invariant-add_annotations-loop-e
invariant-add_annotations-loop-e l = AddsUpTo (IsScene l.fn.list.graph l.scene) (λ (s : Scene) (e : Spec). spec_quantifiers l.program e s) l.fn.list l.list l.es l.e-index

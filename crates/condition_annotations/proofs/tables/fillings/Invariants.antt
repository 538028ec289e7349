use Rattle.conditions.specs.Symbolic.{term}
use Rattle.conditions.specs.Annotations.{hole_value}
use Rattle.annotation_scenes.specs.Scenes.{IsScene}
use Rattle.condition_annotations.proofs.Mapped.{Mapped}
use Rattle.condition_annotations.proofs.tables.fillings.Given as goal

abbrev pub invariant-loop-hole : goal.invariant-loop-hole
invariant-loop-hole l = Mapped (IsScene l.fn.graph l.scene) (λ s h. term (hole_value s h)) l.fn.graph l.graph l.holes l.all.items l.hole-index

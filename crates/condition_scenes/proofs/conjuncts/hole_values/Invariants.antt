use Rattle.conditions.specs.Annotations.{hole_value}
use Rattle.annotation_scenes.specs.Scenes.{IsScene}
use Rattle.condition_scenes.proofs.Filled.{Filled}
use Rattle.condition_scenes.proofs.conjuncts.hole_values.Given as goal

abbrev pub invariant-loop-hole : goal.invariant-loop-hole
invariant-loop-hole l = Filled (IsScene l.fn.graph l.scene) hole_value l.fn.graph l.graph l.holes l.values.items l.hole-index

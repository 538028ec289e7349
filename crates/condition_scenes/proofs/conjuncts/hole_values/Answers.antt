use Rattle.std.proofs.Common.{refl, get_or}
use Rattle.method.specs.declared.program.Hole.TheVariants.{OfVariable}
use Rattle.conditions.specs.Annotations.{hole_value}
use Rattle.annotation_scenes.specs.Scenes.{IsScene}
use Rattle.annotation_scenes.proofs.Scenes.{scene_later}
use Rattle.condition_scenes.proofs.Filled.{filled_next}
use Rattle.condition_scenes.proofs.conjuncts.hole_values.Goals as goal

pub loop-hole-preserved : goal.loop-hole-preserved
loop-hole-preserved c =
    filled_next (IsScene c.args.graph.now c.args.scene.now) hole_value c.args.graph.now c.loop-hole.graph c.hole_value.new.graph c.args.holes.now c.loop-hole.values.items c.push.new.self.items c.loop-hole.hole-index c.in_ok-value.value (OfVariable 0) (get_or c.args.holes.now c.loop-hole.hole-index (OfVariable 0)) c.loop-hole.invariant c.loop-hole-test.true refl c.in_ok-value.ensures.later
    (λ s known. c.in_ok-value.ensures.stands s (scene_later c.loop-hole.invariant.later known)) c.in_ok-push.ensures.items

use Rattle.std.proofs.Common.{refl, get_or}
use Rattle.method.specs.declared.program.Hole.TheVariants.{OfVariable}
use Rattle.conditions.specs.Symbolic.{term}
use Rattle.conditions.specs.Annotations.{hole_value}
use Rattle.annotation_scenes.specs.Scenes.{IsScene}
use Rattle.annotation_scenes.proofs.Scenes.{scene_later}
use Rattle.condition_annotations.proofs.Mapped.{mapped_next}
use Rattle.annotation_scenes.proofs.Done.{then_later}
use Rattle.condition_annotations.proofs.tables.fillings.Goals as goal

pub loop-hole-preserved : goal.loop-hole-preserved
loop-hole-preserved c =
    mapped_next (IsScene c.args.graph.now c.args.scene.now) (λ s h. term (hole_value s h)) c.args.graph.now c.loop-hole.graph c.term.new.graph c.args.holes.now c.loop-hole.all.items c.push.new.self.items c.loop-hole.hole-index c.in_ok-id.id (OfVariable 0) (get_or c.args.holes.now c.loop-hole.hole-index (OfVariable 0)) c.loop-hole.invariant c.loop-hole-test.true refl (then_later c.in_ok-value.ensures.later c.in_ok-id.ensures.later)
    (λ s known. c.in_ok-id.ensures.stands _ (c.in_ok-value.ensures.stands s (scene_later c.loop-hole.invariant.later known))) c.in_ok-push.ensures.items

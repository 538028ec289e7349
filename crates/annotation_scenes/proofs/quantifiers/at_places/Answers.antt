use Rattle.std.proofs.Common.{eq-eqb}
use Rattle.std.proofs.lemmas.Bool.{ne_eqb}
use Rattle.annotation_scenes.proofs.Done.{frees_next, frees_skip}
use Rattle.annotation_scenes.proofs.quantifiers.at_places.Goals as goal

pub loop-place-preserved-then-place-parts : goal.loop-place-preserved-then-place-parts
loop-place-preserved-then-place-parts c =
    frees_skip c.args.graph.now c.loop-place.graph c.args.parts.now c.args.places.now c.loop-place.free.items c.loop-place.place-index c.loop-place.invariant c.loop-place-test.true (eq-eqb _ _ c.if-place-parts.true)

pub loop-place-preserved : goal.loop-place-preserved
loop-place-preserved c =
    frees_next c.args.graph.now c.loop-place.graph c.part.new.graph c.args.parts.now c.args.places.now c.loop-place.free.items c.push.new.self.items c.loop-place.place-index c.in_ok-id.id c.loop-place.invariant c.loop-place-test.true (ne_eqb _ _ c.if-place-parts.false) c.in_ok-id.ensures.later c.in_ok-id.ensures.stands c.in_ok-push.ensures.items

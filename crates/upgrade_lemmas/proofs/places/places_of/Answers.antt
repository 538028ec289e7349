use Rattle.std.proofs.Common.{arith}
use Rattle.std.proofs.lemmas.Grind.{common_steps}
use Rattle.upgrade_lemmas.specs.Chosen.{referents}
use Rattle.upgrade_lemmas.proofs.Placing.{placing_first, placing_more, placing_end}
use Rattle.upgrade_lemmas.proofs.places.places_of.Goals as goal

pub loop-place-init : goal.loop-place-init
loop-place-init c = placing_first c.args.nodes (referents c.args.chosen.now) c.in_ok-places.places.items (grind (arith, common_steps))

pub loop-place-preserved : goal.loop-place-preserved
loop-place-preserved c =
    placing_more c.args.nodes c.args.chosen.now c.loop-place.places.items c.add_place.new.places.items c.loop-place.place c.index-chosen-place.result c.loop-place.invariant (omega arith) c.index-chosen-place.is c.add_place.ensures

pub returns : goal.returns
returns c = placing_end c.args.nodes c.args.chosen.now c.loop-place.places.items c.loop-place.place c.loop-place.invariant (omega arith)

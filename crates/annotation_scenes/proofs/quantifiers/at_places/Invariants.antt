use Rattle.annotation_scenes.proofs.Done.{Frees}
use Rattle.annotation_scenes.proofs.quantifiers.at_places.Given as goal

abbrev pub invariant-loop-place : goal.invariant-loop-place
invariant-loop-place l = Frees l.fn.graph l.graph l.parts l.places l.free.items l.place-index

use Rattle.upgrade_lemmas.specs.Chosen.{referents}
use Rattle.upgrade_lemmas.proofs.Placing.{Placing}
use Rattle.upgrade_lemmas.proofs.places.places_of.Given as goal

abbrev pub invariant-loop-place : goal.invariant-loop-place
invariant-loop-place l = Placing l.nodes (referents l.chosen) l.places.items l.place

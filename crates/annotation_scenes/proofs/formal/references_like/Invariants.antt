use Rattle.annotation_scenes.proofs.Done.{References}
use Rattle.annotation_scenes.proofs.formal.references_like.Given as goal

abbrev pub invariant-loop-i : goal.invariant-loop-i
invariant-loop-i l = References l.fn.graph l.graph l.first l.ids l.like.items l.i

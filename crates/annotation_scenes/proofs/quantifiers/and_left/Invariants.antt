use Rattle.annotation_scenes.proofs.Done.{Lefts}
use Rattle.annotation_scenes.proofs.quantifiers.and_left.Given as goal

abbrev pub invariant-loop-id : goal.invariant-loop-id
invariant-loop-id l = Lefts l.fn.graph l.graph l.first l.rest l.id-index l.all

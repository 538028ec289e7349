use Rattle.annotation_scenes.proofs.Done.{Likes}
use Rattle.annotation_scenes.proofs.formal.constants_like.Given as goal

abbrev pub invariant-loop-i : goal.invariant-loop-i
invariant-loop-i l = Likes l.fn.graph l.graph l.first l.values l.like.items l.i

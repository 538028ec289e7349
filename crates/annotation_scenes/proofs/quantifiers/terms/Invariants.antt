use Rattle.annotation_scenes.proofs.Done.{Terms}
use Rattle.annotation_scenes.proofs.quantifiers.terms.Given as goal

abbrev pub invariant-loop-value : goal.invariant-loop-value
invariant-loop-value l = Terms l.fn.graph l.graph l.values l.all.items l.value-index

use Rattle.condition_annotations.proofs.Mapped.{Listings}
use Rattle.condition_annotations.proofs.tables.each_listed.Given as goal

abbrev pub invariant-loop-id : goal.invariant-loop-id
invariant-loop-id l = Listings l.fn.graph l.graph l.heap l.claim l.ids l.all.items l.id-index

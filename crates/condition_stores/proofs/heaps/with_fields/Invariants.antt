use Rattle.condition_stores.proofs.Filling.{Filling}
use Rattle.condition_stores.proofs.heaps.with_fields.Given as goal

abbrev pub invariant-loop-value : goal.invariant-loop-value
invariant-loop-value l = Filling l.fn.graph l.graph l.o l.first l.values l.heap l.full l.field l.value-index

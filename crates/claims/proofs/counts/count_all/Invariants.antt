use Rattle.std.proofs.Common.{◌≡◌, drop}
use Rattle.object_types.specs.Heap.{count_more}
use Rattle.object_types.specs.Lookups.{heap_of}
use Rattle.claims.specs.Steps.{step_of, Overflows}
use Rattle.claims.proofs.counts.count_all.Given as goal

abbrev pub invariant-loop-o : goal.invariant-loop-o
invariant-loop-o l = record {
  counts : (count_more (step_of l.step) l.objects (heap_of l.fn.h)).get ≡ (count_more (step_of l.step) (drop l.o-index l.objects) (heap_of l.h)).get;
  full : Overflows (step_of l.step) (drop l.o-index l.objects) (heap_of l.h) → Overflows (step_of l.step) l.objects (heap_of l.fn.h);
}

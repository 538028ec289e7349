use Rattle.object_types.specs.Lookups.{heap_of}
use Rattle.method.specs.StableSet.{InStableSet}
use Rattle.ownership.proofs.stable.is_stable_by_owners.Given as goal

abbrev pub invariant-loop-left : goal.invariant-loop-left
invariant-loop-left l = InStableSet l.program l.t (heap_of l.h) l.at → InStableSet l.program l.t (heap_of l.h) l.fn.o

abbrev pub decreases-loop-left : goal.decreases-loop-left
decreases-loop-left l = l.left

use Rattle.std.proofs.Common.{◌-◌, ◌<◌, ◌&&◌}
use Rattle.object_types.specs.References.{ref_lt}
use Rattle.object_types.specs.Heap.{wrapped}
use Rattle.object_types.specs.Lookups.{heap_of}
use Rattle.ownership.specs.Ranks.{rank}
use Rattle.ownership.specs.Searching.{Adds}
use Rattle.ownership.proofs.search.Search.add_roots.Given as goal

abbrev pub invariant-loop-o : goal.invariant-loop-o
invariant-loop-o l = record {
  found : Adds (λ q. ref_lt q l.from && wrapped l.t (heap_of l.h) q) l.fn.self l.self;
  serial : l.from.serial < 4294967296;
  within : rank l.from < 18446744073709551616;
}

abbrev pub decreases-loop-o : goal.decreases-loop-o
decreases-loop-o l = 18446744073709551616 - rank l.from

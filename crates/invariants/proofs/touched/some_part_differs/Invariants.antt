use Rattle.std.proofs.Common.{◌-◌, ◌<◌}
use Rattle.object_types.specs.Lookups.{heap_of}
use Rattle.ownership.specs.Ranks.{rank}
use Rattle.invariants.specs.Counts.{part_differs}
use Rattle.invariants.proofs.Scanning.{NoneBefore}
use Rattle.invariants.proofs.touched.some_part_differs.Given as goal

abbrev pub invariant-loop-q : goal.invariant-loop-q
invariant-loop-q l = record {
  none : NoneBefore (part_differs l.program l.o (heap_of l.before) (heap_of l.after)) l.h l.from;
  serial : l.from.serial < 4294967296;
  within : rank l.from < 18446744073709551616;
}

abbrev pub decreases-loop-q : goal.decreases-loop-q
decreases-loop-q l = 18446744073709551616 - rank l.from

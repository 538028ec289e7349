use Rattle.object_types.specs.Lookups.{heap_of}
use Rattle.ownership.specs.Searching.{left_of}
use Rattle.ownership.proofs.Reaching.{Reached, named}
use Rattle.ownership.proofs.stable.stable_set.Given as goal

abbrev pub invariant-loop-c : goal.invariant-loop-c
invariant-loop-c l = Reached l.program l.fn.t (heap_of l.h) l.search

abbrev pub decreases-loop-c : goal.decreases-loop-c
decreases-loop-c l = left_of (named l.h) l.search

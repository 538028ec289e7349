use Rattle.object_types.specs.Lookups.{heap_of}
use Rattle.invariants.proofs.Entries.{KeptTo}
use Rattle.invariants.proofs.invariant.claim_holds.Given as goal

abbrev pub invariant-loop-entry : goal.invariant-loop-entry
invariant-loop-entry l = KeptTo l.program (heap_of l.heap) l.entry-items l.entry-index

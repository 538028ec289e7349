use Rattle.object_types.specs.Lookups.{heap_of}
use Rattle.method.specs.Invariants.{inv_scene}
use Rattle.spec_values.proofs.Deciding.{HeldTo}
use Rattle.invariants.proofs.invariant.struct_holds.Given as goal

abbrev pub invariant-loop-e : goal.invariant-loop-e
invariant-loop-e l = HeldTo l.program (inv_scene l.o (heap_of l.before) (heap_of l.after)) l.info.invariants.items l.e-index

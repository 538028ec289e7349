use Rattle.std.proofs.Common.{ℕ, List}
use Rattle.object_types.specs.declared.references.Ref.{Ref}
use Rattle.object_types.specs.Heap.{IsFinite}
use Rattle.method.specs.Actions.{listed_exprs}
use Rattle.machine_values.specs.Spots.{heap_at, spot_at}
use Rattle.machine_values.proofs.Listing.{Far}
use Rattle.machine_actions.proofs.blocks.eval_listed.Given as goal

abbrev pub invariant-loop-item : goal.invariant-loop-item
invariant-loop-item l =
    (n : ℕ) (x y : List Ref) → IsFinite (heap_at y l.progress.heap) →
    Far l.at.program.now (spot_at x l.at) (heap_at y l.progress.heap) l.progress.locals.items (listed_exprs l.listed) n l.values.items l.item-index

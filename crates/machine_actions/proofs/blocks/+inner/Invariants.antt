use Rattle.std.proofs.Common.{ℕ, List}
use Rattle.object_types.specs.declared.references.Ref.{Ref}
use Rattle.object_types.specs.Heap.{IsFinite}
use Rattle.method.specs.Actions.{Tally}
use Rattle.machine_values.specs.Spots.{heap_at, context_at}
use Rattle.machine_objects.specs.Runs.{Extra, progress_at}
use Rattle.machine_actions.proofs.Inside.{Onward}
use Rattle.machine_actions.proofs.blocks.+inner.Given as goal

abbrev pub invariant-run_list-loop-inner : goal.invariant-run_list-loop-inner
invariant-run_list-loop-inner l =
    (t : Tally) (n : ℕ) (x : List Ref) (e : Extra) → IsFinite (heap_at e.support l.fn.progress.heap) →
    Onward l.at.program.now (context_at x l.at.context.now) l.at.listed.now l.row n t (progress_at e l.fn.progress) l.progress l.inner-index

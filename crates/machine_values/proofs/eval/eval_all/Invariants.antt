use Rattle.std.proofs.Common.{◌≡◌, ℕ, List, drop}
use Rattle.object_types.specs.declared.references.Ref.{Ref}
use Rattle.object_types.specs.Heap.{IsFinite}
use Rattle.method.specs.Expressions.{eval_all}
use Rattle.machine_values.specs.Spots.{heap_at, spot_at}
use Rattle.machine_values.proofs.Outcomes.{joined}
use Rattle.machine_values.proofs.eval.eval_all.Given as goal

abbrev pub invariant-loop-e : goal.invariant-loop-e
invariant-loop-e l =
    (n : ℕ) (x y : List Ref) → IsFinite (heap_at y l.heap) →
    let whole = eval_all l.at.program.now (spot_at x l.at) (heap_at y l.heap) l.locals in
    (m : ℕ) × (whole l.es n ≡ joined l.values.items (whole (drop l.e-index l.es) m))

use Rattle.object_types.proofs.Present.{found_reference, found_tidy}
use Rattle.object_types.proofs.heap.Heap.get.Goals as goal

pub returns-clause-reference : goal.returns-clause-reference
returns-clause-reference c = found_reference c.find.result _ c.args.reference (c.find.ensures c.self.invariant.ordered)

pub returns-clause-tidy : goal.returns-clause-tidy
returns-clause-tidy c = found_tidy c.find.result _ c.args.reference c.self.invariant (c.find.ensures c.self.invariant.ordered)

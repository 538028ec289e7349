use Rattle.std.proofs.Common.{◌≡◌, drop}
use Rattle.object_types.specs.Sets.{some}
use Rattle.object_types.specs.Shapes.{same_entry}
use Rattle.object_types.specs.Lookups.{look_up}
use Rattle.claims.specs.Making.{entry}
use Rattle.claims.proofs.shape.claims_shape.Given as goal

abbrev pub invariant-loop-other : goal.invariant-loop-other
invariant-loop-other l = some (same_entry (entry l.shape l.values)) (drop l.other-index l.other-items) ≡ some (same_entry (entry l.shape l.values)) (look_up l.fn.h l.fn.c).shapes

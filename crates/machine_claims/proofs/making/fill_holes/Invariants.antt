use Rattle.std.proofs.Common.{◌≡◌, List, ◌++◌, map, drop}
use Rattle.object_types.specs.declared.references.Ref.{Ref}
use Rattle.object_types.specs.Heap.{Heap}
use Rattle.method.specs.SpecValue.{filling}
use Rattle.method.specs.Expressions.{scene}
use Rattle.machine_values.specs.Spots.{spot_at}
use Rattle.machine_claims.proofs.making.fill_holes.Given as goal

abbrev pub invariant-loop-hole : goal.invariant-loop-hole
invariant-loop-hole l = (x : List Ref) (h : Heap) → let f = filling (scene (spot_at x l.at).context h l.locals) in l.values.items ++ map f (drop l.hole-index l.holes) ≡ map f l.holes

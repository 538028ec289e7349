use Rattle.std.proofs.Common.{◌≡◌, List, ◌++◌, map, drop}
use Rattle.object_types.specs.declared.references.Ref.{Ref}
use Rattle.object_types.specs.Heap.{Heap}
use Rattle.method.specs.SpecValue.{entry_of}
use Rattle.method.specs.Expressions.{scene}
use Rattle.machine_values.specs.Spots.{spot_at}
use Rattle.machine_claims.proofs.making.fill_conjuncts.Given as goal

abbrev pub invariant-loop-conjunct : goal.invariant-loop-conjunct
invariant-loop-conjunct l = (x : List Ref) (h : Heap) → let f = entry_of (scene (spot_at x l.at).context h l.locals) in l.entries.items ++ map f (drop l.conjunct-index l.conjuncts) ≡ map f l.conjuncts

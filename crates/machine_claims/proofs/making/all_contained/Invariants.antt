use Rattle.std.proofs.Common.{◌≡◌, Bool, drop}
use Rattle.object_types.specs.declared.references.Ref.{Ref}
use Rattle.object_types.specs.Sets.{every, is_in}
use Rattle.machine_claims.proofs.making.all_contained.Given as goal

abbrev pub invariant-loop-o : goal.invariant-loop-o
invariant-loop-o l = let test : Ref → Bool = λ o. is_in o l.set in every test (drop l.o-index l.objects) ≡ every test l.objects

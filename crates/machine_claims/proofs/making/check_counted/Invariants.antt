use Rattle.std.proofs.Common.{◌≡◌, List, map, drop}
use Rattle.object_types.specs.declared.references.Ref.{Ref}
use Rattle.method.specs.declared.program.CheckKind.TheVariants.{DestroyClaim}
use Rattle.method.specs.Expressions.{Tested}
use Rattle.method.specs.Actions.{may_count}
use Rattle.machine_values.specs.Spots.{heap_at, spot_at}
use Rattle.machine_values.specs.Answers.{verdict, plain}
use Rattle.machine_objects.specs.Runs.{count_tests}
use Rattle.machine_claims.proofs.making.check_counted.Given as goal

abbrev pub invariant-loop-o : goal.invariant-loop-o
invariant-loop-o l = (x y : List Ref) →
    let test : Ref → Tested = λ o. plain (may_count (spot_at x l.at) (heap_at y l.heap) o) in
    verdict l.at.line DestroyClaim (map test (drop l.o-index l.objects)) ≡ verdict l.at.line DestroyClaim (map plain (count_tests (spot_at x l.at) (heap_at y l.heap) l.objects))

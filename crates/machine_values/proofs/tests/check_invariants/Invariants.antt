use Rattle.std.proofs.Common.{◌≡◌, drop, map}
use Rattle.object_types.specs.declared.references.Ref.{Ref}
use Rattle.object_types.specs.Lookups.{heap_of}
use Rattle.method.specs.declared.program.CheckKind.TheVariants.{Invariant}
use Rattle.method.specs.Expressions.{inv_test, Tested}
use Rattle.machine_values.specs.Answers.{verdict}
use Rattle.machine_values.proofs.tests.check_invariants.Given as goal

abbrev pub invariant-loop-o : goal.invariant-loop-o
invariant-loop-o l =
    let test : Ref → Tested = λ o. inv_test l.at.program.now o (heap_of l.before) (heap_of l.after) in
    verdict l.at.line Invariant (map test (drop l.o-index l.objects)) ≡ verdict l.at.line Invariant (map test l.objects)

use Rattle.std.proofs.Common.{◌≡◌, drop, map}
use Rattle.object_types.specs.Lookups.{heap_of}
use Rattle.method.specs.declared.program.CheckKind.TheVariants.{MakeClaim}
use Rattle.method.specs.Expressions.{entry_test}
use Rattle.machine_values.specs.Answers.{verdict}
use Rattle.machine_values.proofs.tests.check_entries.Given as goal

abbrev pub invariant-loop-entry : goal.invariant-loop-entry
invariant-loop-entry l =
    let test = entry_test l.at.program.now (heap_of l.heap) in
    verdict l.at.line MakeClaim (map test (drop l.entry-index l.entries)) ≡ verdict l.at.line MakeClaim (map test l.entries)

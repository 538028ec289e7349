use Rattle.std.proofs.Common.{◌≡◌, List, drop}
use Rattle.object_types.specs.declared.references.Ref.{Ref}
use Rattle.method.specs.declared.program.CheckKind.TheVariants.{Spawn}
use Rattle.method.specs.Expressions.{item_tests}
use Rattle.machine_values.specs.Spots.{heap_at, spot_at}
use Rattle.machine_values.specs.Answers.{verdict}
use Rattle.machine_values.specs.Testing.{code_scene}
use Rattle.machine_ownership.specs.Owned.{is_owned}
use Rattle.machine_ownership.proofs.Naming.{Named}
use Rattle.machine_ownership.proofs.spawn.passing_items.Given as goal

abbrev pub invariant-loop-e : goal.invariant-loop-e
invariant-loop-e l = record {
  named : Named l.at.program.now l.items (code_scene l.env l.h l.h) l.e-index l.objects.items;
  so_far : (x y : List Ref) →
      let tests = item_tests l.at.program.now (is_owned (spot_at x l.at) (heap_at y l.h)) in
      verdict l.at.line Spawn (tests (drop l.e-index l.items) (code_scene l.env l.h l.h)) ≡ verdict l.at.line Spawn (tests l.items (code_scene l.env l.h l.h));
}

use Rattle.std.proofs.Common.{◌≡◌, List, drop}
use Rattle.object_types.specs.declared.references.Ref.{Ref}
use Rattle.method.specs.declared.program.CheckKind.TheVariants.{Writes}
use Rattle.machine_values.specs.Answers.{verdict}
use Rattle.machine_turns.specs.Scenes.{item_tests_at}
use Rattle.machine_turns.proofs.checks.check_items.Given as goal

abbrev pub invariant-loop-e : goal.invariant-loop-e
invariant-loop-e l = (x : List Ref) → verdict l.at.line Writes (item_tests_at x l.at (drop l.e-index l.items) l.env l.heap) ≡ verdict l.at.line Writes (item_tests_at x l.at l.items l.env l.heap)

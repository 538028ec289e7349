use Rattle.std.proofs.Common.{◌≡◌, drop}
use Rattle.method.specs.declared.program.CheckKind.TheVariants.{AtomicClosed}
use Rattle.machine_values.specs.Answers.{verdict}
use Rattle.machine_actions.specs.Inside.{closed_tests}
use Rattle.machine_actions.proofs.blocks.check_closed.Given as goal

abbrev pub invariant-loop-o : goal.invariant-loop-o
invariant-loop-o l = verdict l.at.line AtomicClosed (closed_tests l.heap (drop l.o-index l.objects)) ≡ verdict l.at.line AtomicClosed (closed_tests l.heap l.objects)

use Rattle.std.proofs.Common.{◌≡◌, drop}
use Rattle.machine_values.specs.Testing.{code_scene}
use Rattle.ref_machine.specs.Starting.{start_verdict}
use Rattle.ref_machine.proofs.start.check_requires.Given as goal

abbrev pub invariant-loop-clause : goal.invariant-loop-clause
invariant-loop-clause l = start_verdict l.program (drop l.clause-index l.clauses) (code_scene l.env l.heap l.heap) ≡ start_verdict l.program l.clauses (code_scene l.env l.heap l.heap)

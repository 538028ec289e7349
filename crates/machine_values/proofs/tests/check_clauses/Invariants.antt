use Rattle.std.proofs.Common.{◌≡◌, drop}
use Rattle.object_types.specs.Lookups.{heap_of}
use Rattle.method.specs.Expressions.{clause_tests}
use Rattle.spec_eval.specs.Scenes.{scene_of}
use Rattle.machine_values.specs.Answers.{verdict}
use Rattle.machine_values.proofs.tests.check_clauses.Given as goal

abbrev pub invariant-loop-clause : goal.invariant-loop-clause
invariant-loop-clause l =
    let s = scene_of l.env (heap_of l.before) (heap_of l.after) in
    verdict l.at.line l.kind (clause_tests l.at.program.now (drop l.clause-index l.clauses) s) ≡ verdict l.at.line l.kind (clause_tests l.at.program.now l.clauses s)

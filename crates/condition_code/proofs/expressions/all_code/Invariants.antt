use Rattle.condition_code.proofs.Codes.{CodesTo}
use Rattle.condition_code.proofs.expressions.all_code.Given as goal

abbrev pub invariant-loop-e : goal.invariant-loop-e
invariant-loop-e l = CodesTo l.a.program.now l.a l.st l.es l.fn.walk.graph l.walk.graph l.fn.walk.path.items l.walk.path.items l.terms l.e-index

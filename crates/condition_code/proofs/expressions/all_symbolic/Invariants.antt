use Rattle.condition_code.proofs.Codes.{ValuesTo}
use Rattle.condition_code.proofs.expressions.all_symbolic.Given as goal

abbrev pub invariant-loop-e : goal.invariant-loop-e
invariant-loop-e l = ValuesTo l.a.program.now l.a l.st l.es l.fn.walk.graph l.walk.graph l.fn.walk.path.items l.walk.path.items l.values l.e-index

use Rattle.condition_walk.proofs.Entries.{StmtsTo}
use Rattle.condition_walk.proofs.statements.+statement.Given as goal

abbrev pub invariant-statements-loop-s : goal.invariant-statements-loop-s
invariant-statements-loop-s l = StmtsTo l.a.program.now l.f l.a l.list l.initial.st l.fn.walk.graph l.walk.graph l.fn.walk.path.items l.walk.path.items l.st l.s-index

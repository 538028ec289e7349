use Rattle.condition_stores.proofs.Walking.{Reading}
use Rattle.condition_stores.proofs.objects.contents.Given as goal

abbrev pub invariant-loop : goal.invariant-loop
invariant-loop l = Reading l.a.program.now l.first l.count l.fn.st l.fn.walk.graph l.walk.graph l.fn.walk.path.items l.walk.path.items l.found l.field l.counter

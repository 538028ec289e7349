use Rattle.program_language.proofs.Finding.{BodiesUpTo}
use Rattle.program_language.proofs.numbered.bodies_below.Given as goal

abbrev pub invariant-loop-number : goal.invariant-loop-number
invariant-loop-number l = BodiesUpTo l.fn.graph l.graph l.formulas l.holes.items l.bodies.items l.count l.number

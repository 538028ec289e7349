use Rattle.program_language.proofs.Filled.{HolesUpTo}
use Rattle.program_language.proofs.conjuncts.hole_constants.Given as goal

abbrev pub invariant-loop-i : goal.invariant-loop-i
invariant-loop-i l = HolesUpTo l.fn.graph l.graph l.holes l.values.items l.i

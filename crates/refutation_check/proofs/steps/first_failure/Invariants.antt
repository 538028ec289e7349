use Rattle.std.proofs.Common.{◌≡◌, length}
use Rattle.refutation_check.proofs.Judged.{GivenTo}
use Rattle.refutation_check.proofs.steps.first_failure.Given as goal

abbrev pub invariant-loop-i : goal.invariant-loop-i
invariant-loop-i l = record {
  room : l.scratch ≡ length l.space.graph;
  given : GivenTo l.space l.lemmas.clauses.items l.loaded l.i;
}

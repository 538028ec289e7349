use Rattle.std.proofs.Common.{◌≡◌, ◌++◌, drop}
use Rattle.upgrade_lemmas.specs.Cited.{citations}
use Rattle.upgrade_lemmas.proofs.rewriting.cite_all.Given as goal

abbrev pub invariant-loop-i : goal.invariant-loop-i
invariant-loop-i l = l.new.items ++ citations l.places (drop l.i l.marks) (drop l.i l.steps) ≡ citations l.places l.marks l.steps

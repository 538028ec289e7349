use Rattle.std.proofs.Common.{◌≡◌, ◌++◌, drop}
use Rattle.upgrade_lemmas.specs.Chosen as spec
use Rattle.upgrade_lemmas.proofs.choice.firsts.Given as goal

abbrev pub invariant-loop-conclusion : goal.invariant-loop-conclusion
invariant-loop-conclusion l = spec.referents l.chosen.items ++ spec.firsts l.counts (drop l.conclusion-index l.list) ≡ spec.firsts l.fn.counts l.list

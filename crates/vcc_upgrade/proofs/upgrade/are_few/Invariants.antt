use Rattle.vcc_upgrade.proofs.Counts.{IsLeft}
use Rattle.vcc_upgrade.proofs.upgrade.are_few.Given as goal

abbrev pub invariant-loop-lemma : goal.invariant-loop-lemma
invariant-loop-lemma l = IsLeft l.left l.lemmas l.lemma-index

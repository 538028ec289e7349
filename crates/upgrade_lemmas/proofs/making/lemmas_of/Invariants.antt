use Rattle.upgrade_lemmas.specs.Chosen.{referents}
use Rattle.upgrade_lemmas.proofs.LemmaOver.{Turn}
use Rattle.upgrade_lemmas.proofs.making.lemmas_of.Given as goal

abbrev pub invariant-loop-conclusion : goal.invariant-loop-conclusion
invariant-loop-conclusion l = Turn l.graph (referents l.chosen) l.terms l.lemmas.items l.conclusion-index

use Rattle.block_layout.specs.Space.{Keeps}
use Rattle.refutation_check.proofs.LemmaAnswers.{LemmasTo}
use Rattle.refutation_check.proofs.lemmas.check_lemmas.Given as goal

abbrev pub invariant-loop-i : goal.invariant-loop-i
invariant-loop-i l = record {
  kept : Keeps l.theory.language.now l.fn.space l.space;
  so_far : LemmasTo l.theory l.lemmas l.i l.fn.space l.space l.names.items l.held.clauses.items;
}

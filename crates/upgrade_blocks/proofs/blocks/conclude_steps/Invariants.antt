use Rattle.std.proofs.Common.{List, ◌++◌, take}
use Rattle.terms.specs.Formula.{Formula}
use Rattle.term_meaning.specs.Meaning.{Language}
use Rattle.condition_formulas.specs.Standing.{Later, StandAll}
use Rattle.block_layout.specs.Space.{IsSorted, IsTheory, Keeps, StaysSorted}
use Rattle.certificate_upgrade.specs.Conclusions.{Conclusion, steps_conclusions}
use Rattle.certificate_upgrade.specs.Held.{AreConclusions, AreMarks, step_trees}
use Rattle.upgrade_blocks.proofs.blocks.conclude_steps.Given as goal

abbrev pub invariant-loop-i : goal.invariant-loop-i
invariant-loop-i l = record {
  kept : Keeps l.theory.language.now l.fn.space l.space;
  sorted : StaysSorted l.theory.language.now l.fn.space l.space;
  later : Later l.fn.held.graph l.held.graph;
  list : (m : Language) (trees : List Formula) (cs : List Conclusion) → IsTheory l.theory m → IsSorted m l.fn.space → StandAll l.fn.space.graph l.names trees → AreConclusions m l.fn.held cs → AreConclusions m l.held (cs ++ steps_conclusions m trees (take l.i l.steps));
  marks : (m : Language) (trees : List Formula) → IsTheory l.theory m → IsSorted m l.fn.space → StandAll l.fn.space.graph l.names trees → AreMarks l.held.graph l.marks.items (step_trees m trees (take l.i l.steps));
}

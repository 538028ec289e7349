use Rattle.std.proofs.Common.{List, take}
use Rattle.terms.specs.Formula.{Formula}
use Rattle.condition_formulas.specs.Standing.{Later, StandAll}
use Rattle.upgrade_blocks.proofs.blocks.number_all.Given as goal

abbrev pub invariant-loop-i : goal.invariant-loop-i
invariant-loop-i l = record {
  later : Later l.fn.target l.target;
  shown : (fs : List Formula) → StandAll l.graph l.roots fs → StandAll l.target l.ids.items (take l.i fs);
}

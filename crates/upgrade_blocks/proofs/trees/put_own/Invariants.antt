use Rattle.std.proofs.Common.{List}
use Rattle.terms.specs.Formula.{Formula}
use Rattle.condition_formulas.specs.Standing.{StandAll}
use Rattle.block_layout.specs.Space.{Keeps, StaysSorted}
use Rattle.block_layout.specs.Trees.{tree_over}
use Rattle.upgrade_blocks.proofs.Placing.{Front}
use Rattle.upgrade_blocks.proofs.trees.put_own.Given as goal

abbrev pub invariant-loop-i : goal.invariant-loop-i
invariant-loop-i l = record {
  kept : Keeps l.language l.fn.space l.space;
  sorted : StaysSorted l.language l.fn.space l.space;
  front : (first : List Formula) → StandAll l.fn.space.graph l.fn.names.items first → Front tree_over first l.own l.i l.space.graph l.names.items;
}

use Rattle.std.proofs.Common.{List}
use Rattle.terms.specs.Formula.{Formula}
use Rattle.term_meaning.specs.Meaning.{Language}
use Rattle.condition_formulas.specs.Standing.{StandAll}
use Rattle.term_language.specs.Languages.{IsLanguage}
use Rattle.block_layout.specs.Space.{IsSorted, Keeps, StaysSorted}
use Rattle.block_layout.specs.Trees.{sorted_tree}
use Rattle.upgrade_blocks.proofs.Placing.{Front}
use Rattle.upgrade_blocks.proofs.trees.put_added.Given as goal

abbrev pub invariant-loop-i : goal.invariant-loop-i
invariant-loop-i l = record {
  kept : Keeps l.language l.fn.space l.space;
  sorted : StaysSorted l.language l.fn.space l.space;
  front : (m : Language) (first : List Formula) → IsLanguage l.language m → IsSorted m l.fn.space → StandAll l.fn.space.graph l.fn.names.items first → Front (sorted_tree m) first l.added l.i l.space.graph l.names.items;
}

use Rattle.std.proofs.Common.{[], take}
use Rattle.block_layout.specs.Space.{Keeps, StaysSorted}
use Rattle.block_layout.specs.Trees.{tree_over}
use Rattle.block_layout.specs.Loading.{Shown}
use Rattle.block_layout.proofs.load.put_own.Given as goal

abbrev pub invariant-loop-i : goal.invariant-loop-i
invariant-loop-i l = record {
  kept : Keeps l.language l.fn.space l.space;
  sorted : StaysSorted l.language l.fn.space l.space;
  shown : Shown tree_over [] (take l.i l.own) l.space l.names.items;
}

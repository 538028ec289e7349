use Rattle.block_layout.specs.Space.{Keeps, StaysSorted}
use Rattle.block_layout.specs.Loading.{IsWithinLimit, AddedFront}
use Rattle.block_layout.proofs.load.put_added.Given as goal

abbrev pub invariant-loop-k : goal.invariant-loop-k
invariant-loop-k l = record {
  kept : Keeps l.language l.fn.space l.space;
  sorted : StaysSorted l.language l.fn.space l.space;
  few : IsWithinLimit l.space;
  front : AddedFront l.language l.added l.k l.fn.space l.fn.names.items l.space l.names.items;
}

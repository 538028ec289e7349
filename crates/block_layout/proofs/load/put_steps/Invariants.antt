use Rattle.block_layout.specs.Space.{Keeps, StaysSorted}
use Rattle.block_layout.specs.Loading.{IsWithinLimit, StepsFront}
use Rattle.block_layout.proofs.load.put_steps.Given as goal

abbrev pub invariant-loop-i : goal.invariant-loop-i
invariant-loop-i l = record {
  kept : Keeps l.theory.language.now l.fn.space l.space;
  sorted : StaysSorted l.theory.language.now l.fn.space l.space;
  few : IsWithinLimit l.space;
  front : StepsFront l.theory l.names l.steps l.i l.fn.space l.space l.loaded.items l.clauses.items;
}

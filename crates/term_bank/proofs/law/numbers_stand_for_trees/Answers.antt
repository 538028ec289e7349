use Rattle.term_graph.proofs.Trees.{only}
use Rattle.term_bank.proofs.Banks.{equal, below, numbered, numbered_same}
use Rattle.term_bank.proofs.law.numbers_stand_for_trees.Goals as goal

pub returns-clause-equal : goal.returns-clause-equal
returns-clause-equal c = equal

pub returns-clause-only : goal.returns-clause-only
returns-clause-only c = only

pub returns-clause-below : goal.returns-clause-below
returns-clause-below c = below

pub returns-clause-numbered : goal.returns-clause-numbered
returns-clause-numbered c = numbered

pub returns-clause-one : goal.returns-clause-one
returns-clause-one c = numbered_same

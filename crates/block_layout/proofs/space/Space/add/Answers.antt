use Rattle.block_layout.proofs.Spaces.{keeps_then, sorts_then, grown_stands}
use Rattle.block_layout.proofs.space.Space.add.Goals as goal

pub returns-in_err-sort_all-clause-kept : goal.returns-in_err-sort_all-clause-kept
returns-in_err-sort_all-clause-kept c = keeps_then (grown_stands c.in_ok-id.ensures.later) c.sort_all.ensures.kept

pub returns-clause-kept : goal.returns-clause-kept
returns-clause-kept c = keeps_then (grown_stands c.in_ok-id.ensures.later) c.sort_all.ensures.kept

pub returns-clause-sorted : goal.returns-clause-sorted
returns-clause-sorted c = sorts_then (grown_stands c.in_ok-id.ensures.later) c.in_ok-sort_all.ensures.sorted

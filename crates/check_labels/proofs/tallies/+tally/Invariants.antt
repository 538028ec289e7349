use Rattle.std.proofs.Common.{◌≡◌, drop}
use Rattle.method.specs.Actions.{tally_plus, list_tally}
use Rattle.check_labels.specs.Tallies.{tally_of}
use Rattle.check_labels.proofs.tallies.+tally.Given as goal

abbrev pub invariant-block_tally-loop-inner : goal.invariant-block_tally-loop-inner
invariant-block_tally-loop-inner l = tally_plus (tally_of l.so_far) (list_tally l.program (drop l.inner-index l.inners)) ≡ list_tally l.program l.inners

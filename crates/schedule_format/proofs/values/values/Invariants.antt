use Rattle.std.proofs.Common.{◌≡◌, length}
use Rattle.schedule_format.specs.Reading.{values_in}
use Rattle.schedule_format.proofs.Loops.{in_front}
use Rattle.schedule_format.proofs.values.values.Given as goal

abbrev pub invariant-loop-word : goal.invariant-loop-word
invariant-loop-word l = in_front l.found.items (values_in l.number l.words) ≡ values_in l.number l.fn.words

abbrev pub decreases-loop-word : goal.decreases-loop-word
decreases-loop-word l = length l.words

use Rattle.std.proofs.Common.{◌≡◌, ◌+◌, ◌-◌}
use Rattle.schedule_format.specs.Lines.{lines_of}
use Rattle.schedule_format.specs.Reading.{events_at}
use Rattle.schedule_format.proofs.Loops.{events_in_front}
use Rattle.schedule_format.proofs.read.events.Given as goal

abbrev pub invariant-loop-i : goal.invariant-loop-i
invariant-loop-i l = events_in_front l.found.items (events_at (l.number + l.i) (l.count - l.i) (lines_of l.rest)) ≡ events_at l.number l.count (lines_of l.text)

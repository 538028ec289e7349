use Rattle.std.proofs.Common.{◌≡◌, take}
use Rattle.cert_format.specs.Text.{literals_of}
use Rattle.cert_format.proofs.encode.literal_count.Given as goal

abbrev pub invariant-loop-step : goal.invariant-loop-step
invariant-loop-step l = l.count ≡ literals_of (take l.step-index l.steps)

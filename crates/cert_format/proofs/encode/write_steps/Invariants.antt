use Rattle.std.proofs.Common.{◌≡◌, ◌++◌, drop, map}
use Rattle.cert_format.specs.Text.{step_line}
use Rattle.cert_format.specs.Text.{text_of}
use Rattle.cert_format.proofs.encode.write_steps.Given as goal

abbrev pub invariant-loop-step : goal.invariant-loop-step
invariant-loop-step l = l.out.items ++ text_of (map step_line (drop l.step-index l.steps)) ≡ l.fn.out.items ++ text_of (map step_line l.steps)

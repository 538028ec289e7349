use Rattle.std.proofs.Common.{◌≡◌, ◌++◌, drop}
use Rattle.method.specs.Labels.{on_line}
use Rattle.check_labels.specs.Labels.{checks_of}
use Rattle.check_labels.proofs.lines.add_on_line.Given as goal

abbrev pub invariant-loop-kind : goal.invariant-loop-kind
invariant-loop-kind l = checks_of l.labels.items ++ on_line l.line (drop l.kind-index l.kinds) ≡ checks_of l.fn.labels.items ++ on_line l.line l.kinds

use Rattle.std.proofs.Common.{◌≡◌, drop}
use Rattle.method.specs.Text.{specs_read}
use Rattle.statement_text.proofs.reading.specs_read.Given as goal

abbrev pub invariant-loop-e : goal.invariant-loop-e
invariant-loop-e l = specs_read (drop l.e-index l.es) ≡ specs_read l.es

use Rattle.std.proofs.Common.{◌≡◌, ◌++◌, drop, map}
use Rattle.cert_format.specs.Text.{term_line}
use Rattle.cert_format.specs.Text.{text_of}
use Rattle.cert_format.proofs.encode.write_terms.Given as goal

abbrev pub invariant-loop-term : goal.invariant-loop-term
invariant-loop-term l = l.out.items ++ text_of (map term_line (drop l.term-index l.terms)) ≡ l.fn.out.items ++ text_of (map term_line l.terms)

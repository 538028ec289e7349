use Rattle.std.proofs.Common.{◌≡◌, bytes_eq, find, drop}
use Rattle.cert_format.specs.Text as text
use Rattle.cert_lines.proofs.names.find_kind.Given as goal

abbrev pub invariant-loop-kind : goal.invariant-loop-kind
invariant-loop-kind l = find (λ x. bytes_eq (text.kind_text x) l.word) (drop l.kind-index l.among) ≡ find (λ x. bytes_eq (text.kind_text x) l.word) l.among

use Rattle.std.proofs.Common.{◌≡◌, bytes_eq, find, drop}
use Rattle.cert_format.specs.Text as text
use Rattle.cert_lines.proofs.names.find_rule.Given as goal

abbrev pub invariant-loop-rule : goal.invariant-loop-rule
invariant-loop-rule l = find (λ x. bytes_eq (text.rule_text x) l.word) (drop l.rule-index l.among) ≡ find (λ x. bytes_eq (text.rule_text x) l.word) l.among

use Rattle.std.proofs.Common.{◌≡◌, ◌++◌, drop, map}
use Rattle.cert_format.specs.Text.{literal_text}
use Rattle.cert_format.specs.Text.{words_behind}
use Rattle.cert_format.proofs.encode.write_literals.Given as goal

abbrev pub invariant-loop-literal : goal.invariant-loop-literal
invariant-loop-literal l = l.out.items ++ words_behind (map literal_text (drop l.literal-index l.literals)) ≡ l.fn.out.items ++ words_behind (map literal_text l.literals)

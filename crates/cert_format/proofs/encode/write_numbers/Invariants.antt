use Rattle.std.proofs.Common.{◌≡◌, ◌++◌, drop, map}
use Rattle.std.specs.Fmt.{signed_decimal}
use Rattle.cert_format.specs.Text.{words_behind}
use Rattle.cert_format.proofs.encode.write_numbers.Given as goal

abbrev pub invariant-loop-number : goal.invariant-loop-number
invariant-loop-number l = l.out.items ++ words_behind (map signed_decimal (drop l.number-index l.numbers)) ≡ l.fn.out.items ++ words_behind (map signed_decimal l.numbers)

use Rattle.std.proofs.Common.{◌≡◌, take}
use Rattle.std.specs.Str.Parse.{digits_value}
use Rattle.c_syntax.specs.Numbers.{radix}
use Rattle.vcc_lexer.specs.NumberTexts.{base_of}
use Rattle.vcc_lexer.proofs.numbers.value_of_digits.Given as goal

abbrev pub invariant-loop-digit : goal.invariant-loop-digit
invariant-loop-digit l = l.value ≡ digits_value (radix (base_of l.fn.base)) (take l.digit-index l.digits)

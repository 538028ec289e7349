use Rattle.std.proofs.Common.{◌≡◌, ◌+◌, ◌*◌, ap, sym, ◌∙◌, arith}
use Rattle.c_syntax.specs.Numbers.{radix}
use Rattle.vcc_lexer.specs.NumberTexts.{base_of}
use Rattle.vcc_lexer.proofs.DigitValues.{too_large, too_large_sum, one_more}
use Rattle.vcc_lexer.proofs.numbers.value_of_digits.Goals as goal

pub returns-in_err-checked_mul : goal.returns-in_err-checked_mul
returns-in_err-checked_mul c = rw c.from_residual.ensures (too_large (base_of c.args.base) c.args.digits.now c.loop-digit.digit-index c.loop-digit.value c.radix-radix.result _ c.loop-digit-test.true c.loop-digit.invariant c.radix-radix.ensures (omega (arith, c.in_err-checked_mul.ensures)))

pub returns-in_err-value : goal.returns-in_err-value
returns-in_err-value c =
    let product : c.in_ok-checked_mul.field-0 ≡ c.loop-digit.value * radix (base_of c.args.base) = c.in_ok-checked_mul.ensures.1 ∙ ap (λ r. c.loop-digit.value * r) c.radix-radix.ensures in
    rw c.from_residual-in_err-value.ensures (too_large_sum (base_of c.args.base) c.args.digits.now c.loop-digit.digit-index c.loop-digit.value c.in_ok-checked_mul.field-0 c.from.result _ c.loop-digit-test.true c.loop-digit.invariant product (c.from.ensures ∙ c.value_of_digit.ensures) (omega (arith, c.in_err-value.ensures)))

pub loop-digit-preserved : goal.loop-digit-preserved
loop-digit-preserved c =
    let one = one_more (radix (base_of c.args.base)) c.args.digits.now c.loop-digit.digit-index c.loop-digit.value c.from.result c.loop-digit-test.true c.loop-digit.invariant (c.from.ensures ∙ c.value_of_digit.ensures) in
    c.in_ok-value.ensures.1 ∙ ap (λ n. n + c.from.result) (c.in_ok-checked_mul.ensures.1 ∙ ap (λ r. c.loop-digit.value * r) c.radix-radix.ensures) ∙ sym one

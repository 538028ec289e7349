use Rattle.std.proofs.Common.{arith}
use Rattle.vcc_lexer.specs.NumberTexts.{base_of}
use Rattle.vcc_lexer.proofs.Runs.{runs_from}
use Rattle.vcc_lexer.proofs.numbers.count.Goals as goal

pub returns-clause-runs : goal.returns-clause-runs
returns-clause-runs c = runs_from (base_of c.args.base) c.args.text.now c.prefix_length.result c.run-digits.result c.run-letters.result c.digit_class.result c.prefix_length.ensures (omega arith) c.digit_class.ensures c.split_at.result.1.now c.split_at-2.result.1.now c.split_at.ensures.back c.split_at-2.ensures.back
    (record { within = c.run-digits.ensures.within; all = c.run-digits.ensures.all; ends = c.run-digits.ensures.ends })
    (record { within = c.run-letters.ensures.within; all = c.run-letters.ensures.all; ends = c.run-letters.ensures.ends })

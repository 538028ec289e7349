use Rattle.vcc_lexer.proofs.SignChoice.{long_longest, two_longest, last_choice}
use Rattle.vcc_lexer.proofs.signs.first_sign.Goals as goal

pub returns-in-Some : goal.returns-in-Some
returns-in-Some c = (c.in-Some.ensures.0, long_longest c.args.text.now c.in-Some.sign c.in-Some.ensures.0 c.in-Some.ensures.1)

pub returns-in-Some-find_sign : goal.returns-in-Some-find_sign
returns-in-Some-find_sign c = (c.in-Some-find_sign.ensures.0, two_longest c.args.text.now c.in-Some-find_sign.sign c.in_default.ensures c.in-Some-find_sign.ensures.1)

pub returns : goal.returns
returns c = last_choice c.args.text.now c.find_sign-3.result c.in_default.ensures c.in_default-find_sign.ensures c.find_sign-3.ensures

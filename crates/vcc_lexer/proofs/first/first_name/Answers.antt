use Rattle.c_syntax.specs.Tokens as t
use Rattle.vcc_lexer.proofs.Longest.{name_taken, key_is, name_is}
use Rattle.vcc_lexer.proofs.first.first_name.Goals as goal

pub returns-in-Some : goal.returns-in-Some
returns-in-Some c =
    name_taken c.args.text.now c.run-length.result (t.Key c.in-Some.key) (record { within = c.run-length.ensures.within; all = c.run-length.ensures.all; ends = c.run-length.ensures.ends }) c.requires.begins c.requires.no_sign
    (key_is c.args.text.now c.split_at.result.0.now c.run-length.result c.in-Some.key c.split_at.ensures.front c.in-Some.ensures)

pub returns-in-None : goal.returns-in-None
returns-in-None c =
    name_taken c.args.text.now c.run-length.result (t.Name c.split_at.result.0.now) (record { within = c.run-length.ensures.within; all = c.run-length.ensures.all; ends = c.run-length.ensures.ends }) c.requires.begins c.requires.no_sign
    (name_is c.args.text.now c.split_at.result.0.now c.run-length.result (record { within = c.run-length.ensures.within; all = c.run-length.ensures.all; ends = c.run-length.ensures.ends }) c.requires.begins c.split_at.ensures.front c.in-None.ensures)

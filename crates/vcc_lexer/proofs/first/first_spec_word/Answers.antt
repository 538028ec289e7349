use Rattle.c_syntax.specs.Tokens as t
use Rattle.vcc_lexer.proofs.Longest.{IsSpecRun, spec_taken, spec_is, other_is}
use Rattle.vcc_lexer.proofs.first.first_spec_word.Goals as goal

pub returns-in-Some : goal.returns-in-Some
returns-in-Some c =
    let run : IsSpecRun c.args.text.now c.split_at.result.1.now c.run-length.result = record { backslash = c.requires.backslash; letter = c.requires.letter; cut = c.split_at.ensures.back; run = record { within = c.run-length.ensures.within; all = c.run-length.ensures.all; ends = c.run-length.ensures.ends } } in
    spec_taken c.args.text.now c.split_at.result.1.now c.run-length.result (t.Spec c.in-Some.word) run (spec_is c.args.text.now c.split_at.result.1.now c.split_at-2.result.0.now c.run-length.result c.in-Some.word run c.split_at-2.ensures.front c.in-Some.ensures)

pub returns-in-None : goal.returns-in-None
returns-in-None c =
    let run : IsSpecRun c.args.text.now c.split_at.result.1.now c.run-length.result = record { backslash = c.requires.backslash; letter = c.requires.letter; cut = c.split_at.ensures.back; run = record { within = c.run-length.ensures.within; all = c.run-length.ensures.all; ends = c.run-length.ensures.ends } } in
    spec_taken c.args.text.now c.split_at.result.1.now c.run-length.result t.OtherSpec run (other_is c.args.text.now c.split_at.result.1.now c.split_at-2.result.0.now c.run-length.result run c.split_at-2.ensures.front c.in-None.ensures)

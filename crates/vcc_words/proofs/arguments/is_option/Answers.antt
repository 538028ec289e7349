use Rattle.std.proofs.lemmas.Bool.{false≢true}
use Rattle.vcc_words.proofs.Pieces.{stripped, not_stripped}
use Rattle.vcc_words.proofs.Plain.{no_option, word_by_end}
use Rattle.vcc_words.proofs.arguments.is_option.Goals as goal

pub returns-in_default : goal.returns-in_default
returns-in_default c = (λ e. absurd (false≢true e), λ w. absurd (no_option c.args.option.now c.args.word.now (not_stripped c.args.word.now c.args.option.now c.in_default.ensures.cases) w))

pub returns : goal.returns
returns c = word_by_end c.args.option.now c.args.word.now c.in-Some.more.now c.is_end.result (stripped c.args.word.now c.args.option.now c.in-Some.more c.in-Some.ensures.cases) c.is_end.ensures

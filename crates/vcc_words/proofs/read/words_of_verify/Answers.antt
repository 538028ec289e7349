use Rattle.std.proofs.Common.{ap, string_bytes}
use Rattle.vcc_words.specs.Words.{texts}
use Rattle.vcc_words.proofs.Parts.{words_behind}
use Rattle.vcc_words.proofs.Words.{verify_word}
use Rattle.vcc_words.proofs.read.words_of_verify.Goals as goal

pub returns : goal.returns
returns c =
    words_behind (texts c.args.words.now) (texts c.in_ok-word.rest.now) (string_bytes c.in_ok-word.word.now) (ap texts c.in_ok-word.ensures.cases.0) (verify_word _ _ _ c.ne.ensures c.if-ne.false c.as_str.ensures.value)

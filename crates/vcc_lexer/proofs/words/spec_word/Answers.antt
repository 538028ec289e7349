use Rattle.std.proofs.Common.{◌≡◌, ◌≢◌}
use Rattle.c_syntax.specs.Words.{spec_word_text}
use Rattle.vcc_lexer.proofs.Lists.{where_none}
use Rattle.vcc_lexer.proofs.WordTables.{each_spec_word}
use Rattle.vcc_lexer.proofs.words.spec_word.Goals as goal

pub returns : goal.returns
returns c = where_none (λ x. spec_word_text x ≡ c.args.name.now) c.find_spec_word.result (each_spec_word (λ x. spec_word_text x ≢ c.args.name.now)) c.find_spec_word.ensures

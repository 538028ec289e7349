use Rattle.std.proofs.Common.{◌≡◌, ◌≢◌}
use Rattle.c_syntax.specs.Words.{keyword_text}
use Rattle.vcc_lexer.proofs.Lists.{where_none}
use Rattle.vcc_lexer.proofs.WordTables.{each_keyword}
use Rattle.vcc_lexer.proofs.words.keyword.Goals as goal

pub returns : goal.returns
returns c = where_none (λ x. keyword_text x ≡ c.args.name.now) c.find_keyword.result (each_keyword (λ x. keyword_text x ≢ c.args.name.now)) c.find_keyword.ensures

use Rattle.std.proofs.Common.{◌≢◌, take}
use Rattle.std.specs.Prelude.{All}
use Rattle.c_syntax.specs.Words.{keyword_text}
use Rattle.vcc_lexer.proofs.words.find_keyword.Given as goal

abbrev pub invariant-loop-x : goal.invariant-loop-x
invariant-loop-x l = All (λ x. keyword_text x ≢ l.name) (take l.x-index l.among)

use Rattle.std.proofs.Common.{◌≢◌, take}
use Rattle.std.specs.Prelude.{All}
use Rattle.c_syntax.specs.Words.{spec_word_text}
use Rattle.vcc_lexer.proofs.words.find_spec_word.Given as goal

abbrev pub invariant-loop-x : goal.invariant-loop-x
invariant-loop-x l = All (λ x. spec_word_text x ≢ l.name) (take l.x-index l.among)

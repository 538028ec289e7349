use Rattle.std.proofs.Common.{take}
use Rattle.std.specs.Prelude.{All}
use Rattle.vcc_lexer.specs.First.{NotBegins}
use Rattle.vcc_lexer.proofs.signs.find_sign.Given as goal

abbrev pub invariant-loop-x : goal.invariant-loop-x
invariant-loop-x l = All (NotBegins l.text) (take l.x-index l.among)

use Rattle.std.proofs.Common.{◌≤◌, length, map}
use Rattle.c_syntax.specs.Lexing.{Reaches, first_position, lexeme}
use Rattle.vcc_lexer.specs.Places.{position}
use Rattle.vcc_lexer.proofs.Places.{Room}
use Rattle.vcc_lexer.proofs.tokens.Given as goal

abbrev pub invariant-loop-rest : goal.invariant-loop-rest
invariant-loop-rest l = record {
  reaches : Reaches first_position l.bytes (map lexeme l.found.items) (position l.place) l.rest;
  few : length l.found.items ≤ 262144;
  room : Room (position l.place) (length l.rest);
}

abbrev pub decreases-loop-rest : goal.decreases-loop-rest
decreases-loop-rest l = length l.rest

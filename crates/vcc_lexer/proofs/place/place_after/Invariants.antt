use Rattle.std.proofs.Common.{◌≡◌, ◌≤◌, ◌<◌, ◌+◌, ◌-◌, length, take}
use Rattle.c_syntax.specs.Lexing as lexing
use Rattle.vcc_lexer.specs.Places.{position}
use Rattle.vcc_lexer.proofs.place.place_after.Given as goal

abbrev pub invariant-loop-byte : goal.invariant-loop-byte
invariant-loop-byte l = record {
  place : position l.place ≡ lexing.place_after (take l.byte-index l.text) (position l.fn.from);
  offset : l.place.offset + (length l.text - l.byte-index) ≤ 4294967295;
  line : l.place.span.line + (length l.text - l.byte-index) ≤ 4294967295;
  column : l.place.span.column + (length l.text - l.byte-index) ≤ 4294967295;
  counted : 0 < l.place.span.column;
}

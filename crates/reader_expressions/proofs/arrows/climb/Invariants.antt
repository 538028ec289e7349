use Rattle.std.proofs.Common.{◌≡◌, ◌≤◌, ◌+◌, ◌-◌}
use Rattle.c_syntax.specs.Views.{exp}
use Rattle.reader_expressions.specs.Suffixes.{climbed}
use Rattle.reader_expressions.specs.Reading.{lexemes}
use Rattle.reader_expressions.proofs.arrows.climb.Given as goal

abbrev pub invariant-loop : goal.invariant-loop
invariant-loop l = record {
  low : l.found.height ≤ l.room;
  same : climbed (l.room + 1 - l.counter) l.room (exp l.found.value) l.found.height (lexemes l.found.rest.now) ≡ climbed (l.room + 1) l.room (exp l.fn.left.value) l.fn.left.height (lexemes l.fn.left.rest.now);
}

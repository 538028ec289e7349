use Rattle.std.proofs.Common.{◌≡◌, ◌≤◌, ◌+◌, ◌-◌}
use Rattle.c_syntax.specs.Views.{exp}
use Rattle.reader_expressions.specs.Levels.{mode_of, arrow, linked}
use Rattle.reader_expressions.specs.Reading.{lexemes}
use Rattle.reader_expressions.proofs.arrows.arrows.Given as goal

abbrev pub invariant-loop : goal.invariant-loop
invariant-loop l = record {
  low : l.found.height ≤ l.room + 1;
  same : linked (l.room + 1 - l.counter) l.room (arrow (mode_of l.mode)) (exp l.found.value) l.found.height (lexemes l.found.rest.now) ≡ linked (l.room + 1) l.room (arrow (mode_of l.mode)) (exp l.fn.left.value) l.fn.left.height (lexemes l.fn.left.rest.now);
}

use Rattle.std.proofs.Common.{◌≡◌, ◌≤◌, map, length}
use Rattle.c_syntax.specs.Views.{item}
use Rattle.reader_expressions.specs.Reading.{lexemes, part}
use Rattle.reader_assignments.proofs.Repeats.{going}
use Rattle.reader_program.specs.Rows as rows
use Rattle.reader_program.proofs.program.items.Given as goal

abbrev pub invariant-more : goal.invariant-more
invariant-more l = record {
  low : l.found.height ≤ l.room;
  same : going l.room rows.one_item (λ xs. xs) (map item l.found.value.items) l.found.height (lexemes l.found.rest.now) ≡ part l.room rows.items (lexemes l.fn.tokens);
}

abbrev pub decreases-more : goal.decreases-more
decreases-more l = length l.found.rest.now

use Rattle.std.proofs.Common.{◌≡◌, ◌≤◌, map, length}
use Rattle.c_syntax.specs.Views.{parameter}
use Rattle.reader_expressions.specs.Reading.{lexemes, part}
use Rattle.reader_assignments.proofs.Repeats.{going}
use Rattle.c_syntax.specs.Grammar as g
use Rattle.reader_items.specs.Rows as rows
use Rattle.reader_items.proofs.parameters.ghost_parameters.Given as goal

abbrev pub invariant-more : goal.invariant-more
invariant-more l = record {
  low : l.found.height ≤ l.room;
  same : going l.room g.ghost_param (λ xs. xs) (map parameter l.found.value.items) l.found.height (lexemes l.found.rest.now) ≡ part l.room rows.ghost_parameters (lexemes l.fn.tokens);
}

abbrev pub decreases-more : goal.decreases-more
decreases-more l = length l.found.rest.now

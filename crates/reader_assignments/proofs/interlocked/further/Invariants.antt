use Rattle.std.proofs.Common.{◌≡◌, ◌≤◌, length}
use Rattle.c_syntax.specs.Views.{exps}
use Rattle.reader_expressions.specs.Reading.{lexemes, part}
use Rattle.reader_assignments.specs.Rows as rows
use Rattle.reader_assignments.proofs.Repeats.{going}
use Rattle.reader_assignments.proofs.interlocked.further.Given as goal

abbrev pub invariant-loop-alloc : goal.invariant-loop-alloc
invariant-loop-alloc l = record {
  low : l.found.height ≤ l.room;
  same : going l.room rows.further (λ xs. xs) (exps l.found.value.items) l.found.height (lexemes l.found.rest.now) ≡ part l.room rows.all_further (lexemes l.fn.tokens);
}

abbrev pub decreases-loop-alloc : goal.decreases-loop-alloc
decreases-loop-alloc l = length l.found.rest.now

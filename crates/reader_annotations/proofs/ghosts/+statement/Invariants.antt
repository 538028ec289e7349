use Rattle.std.proofs.Common.{◌≡◌, ◌≤◌, ◌+◌, ◌*◌, map, length}
use Rattle.c_syntax.specs.Views.{ghost}
use Rattle.reader_expressions.specs.Reading.{lexemes, part}
use Rattle.reader_assignments.proofs.Repeats.{going}
use Rattle.reader_annotations.specs.Rows as rows
use Rattle.reader_annotations.proofs.ghosts.+statement.Given as goal

abbrev pub decreases-ghost_statement : goal.decreases-ghost_statement
decreases-ghost_statement l = 16 * l.room

abbrev pub decreases-ghost_body : goal.decreases-ghost_body
decreases-ghost_body l = 16 * l.room

abbrev pub decreases-add_statement : goal.decreases-add_statement
decreases-add_statement l = 16 * l.room + 1

abbrev pub decreases-statements : goal.decreases-statements
decreases-statements l = 16 * l.room + 2

abbrev pub decreases-block_rule : goal.decreases-block_rule
decreases-block_rule l = 16 * l.room + 3

abbrev pub decreases-some_else : goal.decreases-some_else
decreases-some_else l = 16 * l.room + 1

abbrev pub decreases-else_or_none : goal.decreases-else_or_none
decreases-else_or_none l = 16 * l.room + 2

abbrev pub decreases-if_rule : goal.decreases-if_rule
decreases-if_rule l = 16 * l.room + 3

abbrev pub decreases-chosen : goal.decreases-chosen
decreases-chosen l = 16 * l.room + 4

abbrev pub decreases-statement_rule : goal.decreases-statement_rule
decreases-statement_rule l = 16 * l.room + 5

abbrev pub decreases-body_rule : goal.decreases-body_rule
decreases-body_rule l = 16 * l.room + 6

abbrev pub invariant-statements-loop-alloc : goal.invariant-statements-loop-alloc
invariant-statements-loop-alloc l = record {
  low : l.found.height ≤ l.room;
  same : going l.room rows.statement (λ xs. xs) (map ghost l.found.value.items) l.found.height (lexemes l.found.rest.now) ≡ part l.room rows.statements (lexemes l.fn.tokens);
}

abbrev pub decreases-statements-loop-alloc : goal.decreases-statements-loop-alloc
decreases-statements-loop-alloc l = length l.found.rest.now

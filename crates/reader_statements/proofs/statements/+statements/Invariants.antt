use Rattle.std.proofs.Common.{◌≡◌, ◌≤◌, ◌+◌, ◌*◌, map, length}
use Rattle.c_syntax.specs.Views.{stm}
use Rattle.reader_expressions.specs.Reading.{lexemes, part}
use Rattle.reader_assignments.proofs.Repeats.{going}
use Rattle.reader_statements.specs.Rows as rows
use Rattle.reader_statements.proofs.statements.+statements.Given as goal

abbrev pub decreases-statements : goal.decreases-statements
decreases-statements l = 16 * l.room + 3

abbrev pub decreases-one_more : goal.decreases-one_more
decreases-one_more l = 16 * l.room + 2

abbrev pub decreases-block_rule : goal.decreases-block_rule
decreases-block_rule l = 16 * l.room + 4

abbrev pub decreases-block : goal.decreases-block
decreases-block l = 16 * l.room + 5

abbrev pub decreases-block_tail : goal.decreases-block_tail
decreases-block_tail l = 16 * l.room

abbrev pub decreases-inner : goal.decreases-inner
decreases-inner l = 16 * l.room

abbrev pub decreases-maybe_else : goal.decreases-maybe_else
decreases-maybe_else l = 16 * l.room + 2

abbrev pub decreases-branch_end : goal.decreases-branch_end
decreases-branch_end l = 16 * l.room + 4

abbrev pub decreases-loop_body : goal.decreases-loop_body
decreases-loop_body l = 16 * l.room + 2

abbrev pub decreases-loop_statement : goal.decreases-loop_statement
decreases-loop_statement l = 16 * l.room + 4

abbrev pub decreases-annotated_block : goal.decreases-annotated_block
decreases-annotated_block l = 16 * l.room + 4

abbrev pub decreases-complete : goal.decreases-complete
decreases-complete l = 16 * l.room + 8

abbrev pub invariant-statements-loop-alloc : goal.invariant-statements-loop-alloc
invariant-statements-loop-alloc l = record {
  low : l.found.height ≤ l.room;
  same : going l.room rows.one_statement (λ xs. xs) (map stm l.found.value.items) l.found.height (lexemes l.found.rest.now) ≡ part l.room rows.statements (lexemes l.fn.tokens);
}

abbrev pub decreases-statements-loop-alloc : goal.decreases-statements-loop-alloc
decreases-statements-loop-alloc l = length l.found.rest.now

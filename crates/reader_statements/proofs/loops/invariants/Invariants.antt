use Rattle.std.proofs.Common.{◌≡◌, ◌≤◌, map, length}
use Rattle.c_syntax.specs.Views.{invariant}
use Rattle.c_syntax.specs.Grammar as g
use Rattle.reader_expressions.specs.Reading.{lexemes, part}
use Rattle.reader_statements.proofs.Bodies.{going}
use Rattle.reader_statements.proofs.loops.invariants.Given as goal

abbrev pub invariant-loop-alloc : goal.invariant-loop-alloc
invariant-loop-alloc l = record {
  low : l.found.height ≤ l.room;
  same : going l.room (map invariant l.found.value.items) l.found.height (lexemes l.found.rest.now) ≡ part l.room g.loop_body (lexemes l.fn.tokens);
}

abbrev pub decreases-loop-alloc : goal.decreases-loop-alloc
decreases-loop-alloc l = length l.found.rest.now

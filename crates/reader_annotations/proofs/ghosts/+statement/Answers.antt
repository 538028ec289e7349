use Rattle.std.proofs.Common.{◌≡◌, ◌≤◌, ◌∙◌, sym, ap, arith, map, Vec}
use Rattle.std.proofs.lemmas.Result.{err_from_is_err_and}
use Rattle.std.specs.declared.alloc.Global.{Global}
use Rattle.c_syntax.specs.declared.ghosts.GhostStmt.{GhostStmt}
use Rattle.c_syntax.specs.Views.{ghost}
use Rattle.reader_expressions.specs.Reading.{lexemes}
use Rattle.reader_assignments.proofs.Repeats.{going, start, stop, goes, fails, shorter}
use Rattle.reader_annotations.specs.Rows.{statement}
use Rattle.reader_annotations.proofs.Listed.{fine_statement, some_statement}
use Rattle.reader_annotations.proofs.ghosts.+statement.Goals as goal

pub statements-loop-alloc-init : goal.statements-loop-alloc-init
statements-loop-alloc-init t c = record { low = omega arith; same = ap (λ xs. going c.args.room statement (λ ys. ys) (map ghost xs) 0 (lexemes c.args.tokens.now)) c.new.ensures.items ∙ start c.args.room statement (λ xs. xs) (lexemes c.args.tokens.now) }

pub statements-returns-in_err-found-clause-gives : goal.statements-returns-in_err-found-clause-gives
statements-returns-in_err-found-clause-gives t c =
    let p = err_from_is_err_and c.from_residual.result c.from_residual.ensures.1 in
    rw (p.1, p.2) (fails c.args.room statement (λ xs. xs) fine_statement some_statement (λ (v : Vec GhostStmt Global). map ghost v.items) (λ (v : Vec GhostStmt Global). map ghost v.items) _ _ _ _ _ (sym c.begins_statement.ensures ∙ c.loop-alloc-test.true) c.in_err-found.ensures.gives c.loop-alloc.invariant.same)

pub statements-loop-alloc-smaller : goal.statements-loop-alloc-smaller
statements-loop-alloc-smaller t c = shorter c.args.room statement (λ xs. xs) fine_statement some_statement _ _ _ _ _ _ c.in_ok-found.ensures.gives

pub statements-loop-alloc-preserved : goal.statements-loop-alloc-preserved
statements-loop-alloc-preserved t c = record {
  low = c.in_ok-found.ensures.low;
  same = goes c.args.room statement (λ xs. xs) fine_statement some_statement _ _ _ _ _ _ _ (sym c.begins_statement.ensures ∙ c.loop-alloc-test.true) c.in_ok-found.ensures.gives c.loop-alloc.invariant.same;
}

pub statements-returns-clause-gives : goal.statements-returns-clause-gives
statements-returns-clause-gives t c = stop c.args.room statement (λ xs. xs) fine_statement some_statement _ _ _ _ (sym c.begins_statement.ensures ∙ c.loop-alloc-test.false) c.loop-alloc.invariant.same

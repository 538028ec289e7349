use Rattle.std.proofs.Common.{◌∙◌, ◌-◌, sym, ap, arith, map, Vec, Ok}
use Rattle.std.proofs.lemmas.Result.{err_from_is_err_and}
use Rattle.std.specs.declared.alloc.Global.{Global}
use Rattle.c_syntax.specs.declared.statements.Stmt.{Stmt}
use Rattle.c_syntax.specs.Grammar as g
use Rattle.c_syntax.specs.Views.{stm, invariant}
use Rattle.reader_expressions.specs.Reading.{lexemes}
use Rattle.reader_expressions.proofs.Outcomes.{first_err, same_gives}
use Rattle.reader_expressions.proofs.Primaries.{reads_rule, reads_none}
use Rattle.reader_assignments.proofs.Begun.{mapped}
use Rattle.reader_assignments.proofs.Repeats.{going, start, stop, goes, fails, shorter}
use Rattle.reader_statements.specs.Fronts.{completed}
use Rattle.reader_statements.specs.Rows.{one_statement, bodied, as_block}
use Rattle.reader_statements.specs.Views.{braces, body, in_box}
use Rattle.reader_statements.proofs.Alike.{block_mapped}
use Rattle.reader_statements.proofs.Forms.{begins_one, fine_statement, some_statement}
use Rattle.reader_statements.proofs.Openings.{begun_err}
use Rattle.reader_statements.proofs.statements.+statements.Goals as goal

pub statements-loop-alloc-init : goal.statements-loop-alloc-init
statements-loop-alloc-init t c = record { low = omega arith; same = ap (λ xs. going c.args.room one_statement (λ ys. ys) (map stm xs) 0 (lexemes c.args.tokens.now)) c.new.ensures.items ∙ start c.args.room one_statement (λ xs. xs) (lexemes c.args.tokens.now) }

pub statements-returns-in_err-found-clause-gives : goal.statements-returns-in_err-found-clause-gives
statements-returns-in_err-found-clause-gives t c = let p = err_from_is_err_and c.from_residual.result c.from_residual.ensures.1 in rw (p.1, p.2) (fails c.args.room one_statement (λ xs. xs) fine_statement some_statement (λ (v : Vec Stmt Global). map stm v.items) (λ (v : Vec Stmt Global). map stm v.items) _ _ _ _ _ (begins_one _ ∙ sym c.begins_statement.ensures ∙ c.loop-alloc-test.true) c.in_err-found.ensures.gives c.loop-alloc.invariant.same)

pub statements-loop-alloc-smaller : goal.statements-loop-alloc-smaller
statements-loop-alloc-smaller t c = shorter c.args.room one_statement (λ xs. xs) fine_statement some_statement _ _ _ _ _ _ c.in_ok-found.ensures.gives

pub statements-loop-alloc-preserved : goal.statements-loop-alloc-preserved
statements-loop-alloc-preserved t c = record {
  low = c.in_ok-found.ensures.low;
  same = goes c.args.room one_statement (λ xs. xs) fine_statement some_statement _ _ _ _ _ _ _ (begins_one _ ∙ sym c.begins_statement.ensures ∙ c.loop-alloc-test.true) c.in_ok-found.ensures.gives c.loop-alloc.invariant.same;
}

pub statements-returns-clause-gives : goal.statements-returns-clause-gives
statements-returns-clause-gives t c = stop c.args.room one_statement (λ xs. xs) fine_statement some_statement _ _ _ _ (begins_one _ ∙ sym c.begins_statement.ensures ∙ c.loop-alloc-test.false) c.loop-alloc.invariant.same

pub block_tail-returns-then-room-eq0-clause-gives : goal.block_tail-returns-then-room-eq0-clause-gives
block_tail-returns-then-room-eq0-clause-gives t c = reads_none c.args.room g.BlockOf (lexemes c.args.tokens.now) c.if-room-eq0.true

pub block_tail-returns-clause-gives : goal.block_tail-returns-clause-gives
block_tail-returns-clause-gives t c = same_gives braces c.block_rule.result _ _ (reads_rule c.args.room g.BlockOf (lexemes c.args.tokens.now) c.if-room-eq0.false) c.block_rule.ensures.gives

pub block-returns-in_err-found-clause-gives : goal.block-returns-in_err-found-clause-gives
block-returns-in_err-found-clause-gives t c = let p = err_from_is_err_and c.from_residual.result c.from_residual.ensures.1 in rw (p.1, p.2) (first_err braces in_box _ _ _ _ (block_mapped c.args.room (lexemes c.args.tokens.now)) c.in_err-found.ensures.gives)

pub block-returns-clause-gives : goal.block-returns-clause-gives
block-returns-clause-gives t c = block_mapped c.args.room (lexemes c.args.tokens.now) ∙ ap (mapped as_block) c.in_ok-found.ensures.gives ∙ ap (λ v. Ok (v, c.in_ok-found.found.height, lexemes c.in_ok-found.found.rest.now)) (sym c.block_of.ensures) ∙ ap (λ x. Ok (stm x, c.in_ok-found.found.height, lexemes c.in_ok-found.found.rest.now)) (sym c.in_ok-value.ensures.ok)

pub loop_body-returns-in_err-found-clause-gives : goal.loop_body-returns-in_err-found-clause-gives
loop_body-returns-in_err-found-clause-gives t c = let p = err_from_is_err_and c.from_residual.result c.from_residual.ensures.1 in rw (p.1, p.2) c.in_err-found.ensures.err

pub loop_body-returns-in_err-held-clause-gives : goal.loop_body-returns-in_err-held-clause-gives
loop_body-returns-in_err-held-clause-gives t c = let p = err_from_is_err_and c.from_residual-in_err-held.result c.from_residual-in_err-held.ensures.1 in rw (p.1, p.2) (first_err in_box body _ _ _ _ c.in_ok-found.ensures.ok c.in_err-held.ensures.gives)

pub loop_body-returns-clause-gives : goal.loop_body-returns-clause-gives
loop_body-returns-clause-gives t c = c.in_ok-found.ensures.ok ∙ ap (bodied _ _) c.in_ok-held.ensures.gives ∙ ap (λ i. Ok ((map invariant c.in_ok-found.found.value.items, stm c.in_ok-held.held.value.value), i, lexemes c.in_ok-held.held.rest.now)) (sym c.max.ensures)

pub complete-returns-in-Block-clause-gives : goal.complete-returns-in-Block-clause-gives
complete-returns-in-Block-clause-gives t c = same_gives in_box c.block.result _ _ (ap (λ x. completed c.args.room x c.args.height (lexemes c.args.tokens.now)) c.in-Block.is) c.block.ensures.gives

pub inner-returns-then-room-eq0-clause-gives : goal.inner-returns-then-room-eq0-clause-gives
inner-returns-then-room-eq0-clause-gives t c = reads_none c.args.room g.Statement (lexemes c.args.tokens.now) c.if-room-eq0.true

pub inner-returns-in_err-opening-clause-gives : goal.inner-returns-in_err-opening-clause-gives
inner-returns-in_err-opening-clause-gives t c = let p = err_from_is_err_and c.from_residual.result c.from_residual.ensures.1 in rw (p.1, p.2) (begun_err (c.args.room - 1) _ _ _ (reads_rule c.args.room g.Statement (lexemes c.args.tokens.now) c.if-room-eq0.false) c.in_err-opening.ensures.begins)

pub inner-returns-clause-gives : goal.inner-returns-clause-gives
inner-returns-clause-gives t c = same_gives in_box c.complete.result _ _ (reads_rule c.args.room g.Statement (lexemes c.args.tokens.now) c.if-room-eq0.false ∙ c.in_ok-opening.ensures.begins) c.complete.ensures.gives

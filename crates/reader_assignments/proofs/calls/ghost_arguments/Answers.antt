use Rattle.std.proofs.Common.{◌∙◌, sym, ap, arith, Vec}
use Rattle.std.proofs.lemmas.Result.{err_from_is_err_and}
use Rattle.std.specs.declared.alloc.Global.{Global}
use Rattle.c_syntax.specs.declared.expressions.Expr.{Expr}
use Rattle.c_syntax.specs.Views.{exps}
use Rattle.reader_expressions.specs.Reading.{lexemes}
use Rattle.reader_assignments.specs.Rows.{ghost_argument}
use Rattle.reader_assignments.proofs.Repeats.{going, start, stop, goes, fails, shorter, begins_ghost, fine_ghost, some_ghost}
use Rattle.reader_assignments.proofs.calls.ghost_arguments.Goals as goal

pub loop-alloc-init : goal.loop-alloc-init
loop-alloc-init c = record { low = omega arith; same = ap (λ xs. going c.args.room ghost_argument (λ ys. ys) (exps xs) 0 (lexemes c.args.tokens.now)) c.new.ensures.items ∙ start c.args.room ghost_argument (λ xs. xs) (lexemes c.args.tokens.now) }

pub returns-in_err-found-clause-gives : goal.returns-in_err-found-clause-gives
returns-in_err-found-clause-gives c =
    let p = err_from_is_err_and c.from_residual.result c.from_residual.ensures.1 in
    rw (p.1, p.2) (fails c.args.room ghost_argument (λ xs. xs) fine_ghost some_ghost (λ (v : Vec Expr Global). exps v.items) (λ (v : Vec Expr Global). exps v.items) _ _ _ _ _ (begins_ghost _ ∙ sym c.next_is.ensures ∙ c.loop-alloc-test.true) c.in_err-found.ensures.gives c.loop-alloc.invariant.same)

pub loop-alloc-smaller : goal.loop-alloc-smaller
loop-alloc-smaller c = shorter c.args.room ghost_argument (λ xs. xs) fine_ghost some_ghost _ _ _ _ _ _ c.in_ok-found.ensures.gives

pub loop-alloc-preserved : goal.loop-alloc-preserved
loop-alloc-preserved c = record {
  low = c.in_ok-found.ensures.low;
  same = goes c.args.room ghost_argument (λ xs. xs) fine_ghost some_ghost _ _ _ _ _ _ _ (begins_ghost _ ∙ sym c.next_is.ensures ∙ c.loop-alloc-test.true) c.in_ok-found.ensures.gives c.loop-alloc.invariant.same;
}

pub returns-clause-gives : goal.returns-clause-gives
returns-clause-gives c = stop c.args.room ghost_argument (λ xs. xs) fine_ghost some_ghost _ _ _ _ (begins_ghost _ ∙ sym c.next_is.ensures ∙ c.loop-alloc-test.false) c.loop-alloc.invariant.same

use Rattle.std.proofs.Common.{◌∙◌, sym, ap, arith, Vec}
use Rattle.std.proofs.lemmas.Result.{err_from_is_err_and}
use Rattle.std.specs.declared.alloc.Global.{Global}
use Rattle.c_syntax.specs.declared.expressions.Expr.{Expr}
use Rattle.c_syntax.specs.Views.{exps}
use Rattle.reader_expressions.specs.Reading.{lexemes}
use Rattle.reader_assignments.specs.Rows.{further}
use Rattle.reader_assignments.proofs.Repeats.{going, start, stop, goes, fails, shorter, begins_further, fine_further, some_further}
use Rattle.reader_assignments.proofs.interlocked.further.Goals as goal

pub loop-alloc-init : goal.loop-alloc-init
loop-alloc-init c = record { low = omega arith; same = ap (λ xs. going c.args.room further (λ ys. ys) (exps xs) 0 (lexemes c.args.tokens.now)) c.new.ensures.items ∙ start c.args.room further (λ xs. xs) (lexemes c.args.tokens.now) }

pub returns-in_err-found-clause-gives : goal.returns-in_err-found-clause-gives
returns-in_err-found-clause-gives c =
    let p = err_from_is_err_and c.from_residual.result c.from_residual.ensures.1 in
    rw (p.1, p.2) (fails c.args.room further (λ xs. xs) fine_further some_further (λ (v : Vec Expr Global). exps v.items) (λ (v : Vec Expr Global). exps v.items) _ _ _ _ _ (begins_further _ ∙ sym c.next_is.ensures ∙ c.loop-alloc-test.true) c.in_err-found.ensures.gives c.loop-alloc.invariant.same)

pub loop-alloc-smaller : goal.loop-alloc-smaller
loop-alloc-smaller c = shorter c.args.room further (λ xs. xs) fine_further some_further _ _ _ _ _ _ c.in_ok-found.ensures.gives

pub loop-alloc-preserved : goal.loop-alloc-preserved
loop-alloc-preserved c = record {
  low = c.in_ok-found.ensures.low;
  same = goes c.args.room further (λ xs. xs) fine_further some_further _ _ _ _ _ _ _ (begins_further _ ∙ sym c.next_is.ensures ∙ c.loop-alloc-test.true) c.in_ok-found.ensures.gives c.loop-alloc.invariant.same;
}

pub returns-clause-gives : goal.returns-clause-gives
returns-clause-gives c = stop c.args.room further (λ xs. xs) fine_further some_further _ _ _ _ (begins_further _ ∙ sym c.next_is.ensures ∙ c.loop-alloc-test.false) c.loop-alloc.invariant.same

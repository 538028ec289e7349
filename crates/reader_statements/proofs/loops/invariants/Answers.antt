use Rattle.std.proofs.Common.{◌∙◌, sym, ap, arith, map, Vec}
use Rattle.std.proofs.lemmas.Result.{err_from_is_err_and}
use Rattle.std.specs.declared.alloc.Global.{Global}
use Rattle.c_syntax.specs.declared.statements.Invariant.{Invariant}
use Rattle.c_syntax.specs.Views.{invariant}
use Rattle.reader_expressions.specs.Reading.{lexemes}
use Rattle.reader_statements.specs.Views.{body}
use Rattle.reader_statements.proofs.Bodies.{going, start, stop, goes, fails, shorter}
use Rattle.reader_statements.proofs.loops.invariants.Goals as goal

pub loop-alloc-init : goal.loop-alloc-init
loop-alloc-init c = record { low = omega arith; same = ap (λ xs. going c.args.room (map invariant xs) 0 (lexemes c.args.tokens.now)) c.new.ensures.items ∙ start c.args.room (lexemes c.args.tokens.now) }

pub returns-in_err-found-clause-err : goal.returns-in_err-found-clause-err
returns-in_err-found-clause-err c =
    let p = err_from_is_err_and c.from_residual.result c.from_residual.ensures.1 in
    rw (p.1, p.2) (fails c.args.room (λ (v : Vec Invariant Global). map invariant v.items) body _ _ _ _ _ (sym c.begins_invariant.ensures ∙ c.loop-alloc-test.true) c.in_err-found.ensures.gives c.loop-alloc.invariant.same)

pub loop-alloc-smaller : goal.loop-alloc-smaller
loop-alloc-smaller c = shorter c.args.room _ _ _ _ _ _ (sym c.begins_invariant.ensures ∙ c.loop-alloc-test.true) c.in_ok-found.ensures.gives

pub loop-alloc-preserved : goal.loop-alloc-preserved
loop-alloc-preserved c = record {
  low = c.in_ok-found.ensures.low;
  same = goes c.args.room _ _ _ _ _ _ _ (sym c.begins_invariant.ensures ∙ c.loop-alloc-test.true) c.in_ok-found.ensures.gives c.loop-alloc.invariant.same;
}

pub returns-clause-ok : goal.returns-clause-ok
returns-clause-ok c = stop c.args.room _ _ _ _ (sym c.begins_invariant.ensures ∙ c.loop-alloc-test.false) c.loop-alloc.invariant.same

use Rattle.std.proofs.Common.{◌≡◌, ◌+◌, ◌-◌, ℕ, suc, Bool, true, false, ap, sym, ◌∙◌, subst, arith}
use Rattle.std.proofs.lemmas.Result.{err_from_is_err_and}
use Rattle.c_syntax.specs.Views.{exp}
use Rattle.reader_expressions.specs.Reading.{lexemes}
use Rattle.reader_annotations.specs.Rows.{linked}
use Rattle.reader_annotations.proofs.GhostLinks.{none, over_from, goes_from, fails_from}
use Rattle.reader_annotations.proofs.ghost_places.arrows.Goals as goal

pub returns-then-not-goes_on-clause-gives : goal.returns-then-not-goes_on-clause-gives
returns-then-not-goes_on-clause-gives c = sym c.loop.invariant.same ∙ none c.args.room _ _ _ _ (sym c.goes_on.ensures ∙ c.if-not-goes_on.true)

pub returns-in_err-found-clause-gives : goal.returns-in_err-found-clause-gives
returns-in_err-found-clause-gives c =
    let p = err_from_is_err_and c.from_residual.result c.from_residual.ensures.1 in
    let n : c.args.room + 1 - c.loop.counter ≡ suc (c.args.room - c.loop.counter) = omega (arith, c.loop-test.true) in
    rw (p.1, p.2) (fails_from c.args.room exp exp _ _ _ _ _ _ _ n (sym c.goes_on.ensures ∙ c.if-not-goes_on.false) c.in_err-found.ensures.gives c.loop.invariant.same)

pub loop-preserved : goal.loop-preserved
loop-preserved c =
    let n : c.args.room + 1 - c.loop.counter ≡ suc (c.args.room + 1 - (c.loop.counter + 1)) = omega (arith, c.loop-test.true) in
    record {
      low = omega (arith, c.in_ok-found.ensures.low);
      same = goes_from c.args.room _ _ _ _ _ _ _ _ _ n (sym c.goes_on.ensures ∙ c.if-not-goes_on.false) c.in_ok-found.ensures.gives c.loop.invariant.same;
    }

pub returns-then-goes_on-clause-gives : goal.returns-then-goes_on-clause-gives
returns-then-goes_on-clause-gives c =
    let n : c.args.room + 1 - c.loop.counter ≡ 0 = omega (arith, c.loop-test.false) in
    over_from c.args.room _ _ _ _ _ n (sym c.goes_on-2.ensures ∙ c.if-goes_on.true) c.loop.invariant.same

pub returns-clause-gives : goal.returns-clause-gives
returns-clause-gives c = sym c.loop.invariant.same ∙ none c.args.room _ _ _ _ (sym c.goes_on-2.ensures ∙ c.if-goes_on.false)

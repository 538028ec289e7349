use Rattle.std.proofs.Common.{◌≡◌, ◌+◌, ◌-◌, ℕ, suc, Bool, true, false, ap, sym, ◌∙◌, subst, arith}
use Rattle.std.proofs.lemmas.Result.{err_from_is_err_and}
use Rattle.c_syntax.specs.Views.{exp}
use Rattle.reader_expressions.specs.Levels.{mode_of, arrow, linked}
use Rattle.reader_expressions.specs.Reading.{lexemes}
use Rattle.reader_expressions.proofs.Chains.{stop, over_from, goes_from, fails_from, begins_arrow}
use Rattle.reader_expressions.proofs.arrows.arrows.Goals as goal

pub returns-then-not-next_is-clause-gives : goal.returns-then-not-next_is-clause-gives
returns-then-not-next_is-clause-gives c = sym c.loop.invariant.same ∙ stop c.args.room (arrow (mode_of c.args.mode)) _ _ _ _ (begins_arrow (mode_of c.args.mode) _ ∙ sym c.next_is.ensures ∙ c.if-not-next_is.true)

pub returns-in_err-found-clause-gives : goal.returns-in_err-found-clause-gives
returns-in_err-found-clause-gives c =
    let p = err_from_is_err_and c.from_residual.result c.from_residual.ensures.1 in
    let n : c.args.room + 1 - c.loop.counter ≡ suc (c.args.room - c.loop.counter) = omega (arith, c.loop-test.true) in
    rw (p.1, p.2) (fails_from c.args.room (arrow (mode_of c.args.mode)) exp exp _ _ _ _ _ _ _ n (begins_arrow (mode_of c.args.mode) _ ∙ sym c.next_is.ensures ∙ c.if-not-next_is.false) c.in_err-found.ensures.gives c.loop.invariant.same)

pub loop-preserved : goal.loop-preserved
loop-preserved c =
    let n : c.args.room + 1 - c.loop.counter ≡ suc (c.args.room + 1 - (c.loop.counter + 1)) = omega (arith, c.loop-test.true) in
    record {
      low = omega (arith, c.in_ok-found.ensures.low);
      same = goes_from c.args.room (arrow (mode_of c.args.mode)) _ _ _ _ _ _ _ _ _ n (begins_arrow (mode_of c.args.mode) _ ∙ sym c.next_is.ensures ∙ c.if-not-next_is.false) c.in_ok-found.ensures.gives c.loop.invariant.same;
    }

pub returns-then-next_is-clause-gives : goal.returns-then-next_is-clause-gives
returns-then-next_is-clause-gives c =
    let n : c.args.room + 1 - c.loop.counter ≡ 0 = omega (arith, c.loop-test.false) in
    over_from c.args.room (arrow (mode_of c.args.mode)) _ _ _ _ _ n (begins_arrow (mode_of c.args.mode) _ ∙ sym c.next_is-2.ensures ∙ c.if-next_is.true) c.loop.invariant.same

pub returns-clause-gives : goal.returns-clause-gives
returns-clause-gives c = sym c.loop.invariant.same ∙ stop c.args.room (arrow (mode_of c.args.mode)) _ _ _ _ (begins_arrow (mode_of c.args.mode) _ ∙ sym c.next_is-2.ensures ∙ c.if-next_is.false)

use Rattle.std.proofs.Common.{◌≡◌, ◌+◌, ◌-◌, ℕ, suc, Bool, true, false, ap, sym, ◌∙◌, subst, arith}
use Rattle.std.proofs.lemmas.Result.{err_from_is_err_and}
use Rattle.c_syntax.specs.Views.{exp}
use Rattle.reader_expressions.specs.Reading.{lexemes}
use Rattle.reader_expressions.proofs.Climbs.{ends_gives, goes, fails, over}
use Rattle.reader_expressions.proofs.arrows.climb.Goals as goal

pub returns-in_err-found-clause-gives : goal.returns-in_err-found-clause-gives
returns-in_err-found-clause-gives c =
    let p = err_from_is_err_and c.from_residual.result c.from_residual.ensures.1 in
    let n : c.args.room + 1 - c.loop.counter ≡ suc (c.args.room - c.loop.counter) = omega (arith, c.loop-test.true) in
    rw (p.1, p.2) (fails exp exp _ _ c.args.room _ _ _ _ _ n (sym c.next_goes_on.ensures ∙ c.if-not-next_goes_on.false) c.in_err-found.ensures.gives c.loop.invariant.same)

pub loop-preserved : goal.loop-preserved
loop-preserved c =
    let n : c.args.room + 1 - c.loop.counter ≡ suc (c.args.room + 1 - (c.loop.counter + 1)) = omega (arith, c.loop-test.true) in
    record {
      low = omega (arith, c.in_ok-found.ensures.low);
      same = goes _ _ c.args.room _ _ _ _ _ _ _ n (sym c.next_goes_on.ensures ∙ c.if-not-next_goes_on.false) c.in_ok-found.ensures.gives c.loop.invariant.same;
    }

pub returns-clause-gives : goal.returns-clause-gives
returns-clause-gives c =
    let n : c.args.room + 1 - c.loop.counter ≡ 0 = omega (arith, c.loop-test.false) in
    over _ c.args.room _ _ _ _ n c.loop.invariant.same

pub returns-then-not-next_goes_on-clause-gives : goal.returns-then-not-next_goes_on-clause-gives
returns-then-not-next_goes_on-clause-gives c =
    let n : c.args.room + 1 - c.loop.counter ≡ suc (c.args.room - c.loop.counter) = omega (arith, c.loop-test.true) in
    ends_gives exp c.climb_end.result _ _ c.args.room _ _ _ _ n (sym c.next_goes_on.ensures ∙ c.if-not-next_goes_on.true) c.loop.invariant.same c.climb_end.ensures.gives

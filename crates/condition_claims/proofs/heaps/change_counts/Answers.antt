use Rattle.std.specs.Prelude.{◌≤◌, length}
use Rattle.std.proofs.Common.{refl, get_or, arith}
use Rattle.condition_formulas.specs.Standing.{StandsAs}
use Rattle.condition_formulas.proofs.Rows.{as_long}
use Rattle.condition_claims.specs.Pieces.{with_count}
use Rattle.condition_claims.proofs.Each.{folds_none, folds_next, folds_last, next_formula}
use Rattle.condition_claims.proofs.heaps.change_counts.Goals as goal

pub loop-o-init : goal.loop-o-init
loop-o-init c = folds_none

pub loop-o-preserved : goal.loop-o-preserved
loop-o-preserved c =
    folds_next (StandsAs c.args.graph.now (get_or c.args.objects.now c.loop-o.o-index 0)) (λ u. with_count c.args.way) c.loop-o.invariant (λ u o os h. refl) (λ os all. next_formula c.loop-o.o-index all c.loop-o-test.true) c.in_ok-changed.ensures.later
    (λ u o h known is hh. c.in_ok-changed.ensures.stands o h (c.loop-o.invariant.later _ _ is) hh)

pub returns-clause-stands : goal.returns-clause-stands
returns-clause-stands c = λ os h all hh.
    let long : length os ≤ c.loop-o.o-index = omega (arith, as_long all, c.loop-o-test.false) in
    folds_last c.loop-o.invariant (λ u h. refl) tt os h long tt all hh

use Rattle.std.proofs.lemmas.Int.{to_z-of_z}
use Rattle.std.proofs.lemmas.Result.{err_from_is_err_and}
use Rattle.rule_linear.specs.Bounds.{bound_steps}
use Rattle.rule_linear.specs.Sides.{first_total}
use Rattle.rule_linear.proofs.Adding.{sums_known}
use Rattle.rule_linear.proofs.InOrder.{fit_both, leaves_first, leaves_second}
use Rattle.rule_linear.proofs.steps.add_bound.Goals as goal

pub returns-in_err-walk_two-clause-wide : goal.returns-in_err-walk_two-clause-wide
returns-in_err-walk_two-clause-wide c =
    let m = c.ranges.m in
    let h = c.in_err-walk_two.ensures in
    let p = err_from_is_err_and c.from_residual-in_err-walk_two.result c.from_residual-in_err-walk_two.ensures.1 in
    rw (p.1, p.2) (leaves_second (bound_steps c.args.terms.now c.args.b) _ _ c.in_ok-bound_form.ensures.known.fit (leaves_first _ _ _ (simp to_z-of_z at h)))

pub returns-in_err-walk_two-2-clause-wide : goal.returns-in_err-walk_two-2-clause-wide
returns-in_err-walk_two-2-clause-wide c =
    let m = c.ranges.m in
    let h = c.in_ok-walk_two.ensures in
    let k = c.in_err-walk_two-2.ensures in
    let p = err_from_is_err_and c.from_residual-in_err-walk_two-2.result c.from_residual-in_err-walk_two-2.ensures.1 in
    rw (p.1, p.2) (leaves_second (bound_steps c.args.terms.now c.args.b) _ _ c.in_ok-bound_form.ensures.known.fit (leaves_second _ _ _ (simp to_z-of_z at h) (simp to_z-of_z at k)))

pub returns-clause-fit : goal.returns-clause-fit
returns-clause-fit c =
    let m = c.ranges.m in
    let h = c.in_ok-walk_two.ensures in
    let k = c.in_ok-walk_two-2.ensures in
    let k' = simp to_z-of_z at k in
    record {
      fit = fit_both (bound_steps c.args.terms.now c.args.b) _ c.in_ok-bound_form.ensures.known.fit (fit_both _ _ (simp to_z-of_z at h) k');
      known = sums_known c.args.terms.now c.args.b (first_total c.args.weights c.args.terms.now c.args.end) c.args.m c.requires.known k';
    }

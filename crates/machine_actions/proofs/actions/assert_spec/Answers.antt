use Rattle.std.proofs.Common.{Ok, Err, List, refl, sym, subst, ◌∙◌}
use Rattle.std.proofs.lemmas.Result.{err_from_is_err_and}
use Rattle.object_types.specs.declared.values.Value.{Value}
use Rattle.method.specs.declared.program.CheckKind.TheVariants.{Assert}
use Rattle.method.specs.Expressions.{Gives, spec_test, scene, check_spec}
use Rattle.machine_values.specs.Spots.{context_at, spot_at}
use Rattle.machine_values.specs.Answers.{Tests}
use Rattle.machine_objects.specs.Runs.{progress_at, Follows}
use Rattle.machine_objects.proofs.Checks.{lands_gives}
use Rattle.machine_actions.specs.Running.{IsRunEnv}
use Rattle.machine_actions.proofs.Tested.{test_passes, test_fails, test_stops, same_run_test}
use Rattle.machine_actions.proofs.actions.assert_spec.Goals as goal

pub returns-in_err-spec_test : goal.returns-in_err-spec_test
returns-in_err-spec_test c n x e finite =
    let a = c.args in
    let at_ = a.at.now in
    let g = progress_at e a.progress.now in
    let env = subst (λ (l : List Value). IsRunEnv at_.context.now l c.in_ok-env.env) c.deref.ensures.value c.in_ok-env.ensures in
    let same = same_run_test at_.program.now at_.context.now a.progress.now.locals.items c.in_ok-env.env a.e.now a.progress.now.heap x e.support env in
    let p = err_from_is_err_and c.from_residual-in_err-spec_test.result c.from_residual-in_err-spec_test.ensures.1 in
    rw (p.1, p.2)
    (test_stops (spot_at x at_) (spec_test at_.program.now a.e.now (scene (context_at x at_.context.now) g.heap g.locals)) n Assert (Gives g) c.in_err-spec_test.field-0.0
    (subst (Tests (Err c.in_err-spec_test.field-0.0)) same c.in_err-spec_test.ensures))

pub returns-then-not-branch : goal.returns-then-not-branch
returns-then-not-branch c n x e finite =
    let a = c.args in
    let at_ = a.at.now in
    let g = progress_at e a.progress.now in
    let env = subst (λ (l : List Value). IsRunEnv at_.context.now l c.in_ok-env.env) c.deref.ensures.value c.in_ok-env.ensures in
    let same = same_run_test at_.program.now at_.context.now a.progress.now.locals.items c.in_ok-env.env a.e.now a.progress.now.heap x e.support env in
    let tested = subst (Tests (Ok c.in_ok-spec_test.field-0)) same c.in_ok-spec_test.ensures in
    rw c.fault.ensures
    (n, test_fails (spot_at x at_) (spec_test at_.program.now a.e.now (scene (context_at x at_.context.now) g.heap g.locals)) n Assert (Gives g) tested.0 (sym c.if-not-branch.true ∙ tested.1))

pub returns : goal.returns
returns c n x e finite =
    let a = c.args in
    let at_ = a.at.now in
    let g = progress_at e a.progress.now in
    let env = subst (λ (l : List Value). IsRunEnv at_.context.now l c.in_ok-env.env) c.deref.ensures.value c.in_ok-env.ensures in
    let same = same_run_test at_.program.now at_.context.now a.progress.now.locals.items c.in_ok-env.env a.e.now a.progress.now.heap x e.support env in
    let tested = subst (Tests (Ok c.in_ok-spec_test.field-0)) same c.in_ok-spec_test.ensures in
    let t = spec_test at_.program.now a.e.now (scene (context_at x at_.context.now) g.heap g.locals) in
    lands_gives (Follows a.progress.now) (check_spec (spot_at x at_) t n Assert (Gives g)) g
    (test_passes (spot_at x at_) t n Assert (Gives g) tested.0 (sym c.if-not-branch.false ∙ tested.1))
    (record { extra = e; finite = finite; is = refl })

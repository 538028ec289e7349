use Rattle.std.proofs.Common.{◌≡◌, ◌+◌, List, sym, subst, ◌∙◌}
use Rattle.std.proofs.lemmas.Result.{err_from_is_err_and}
use Rattle.object_types.specs.declared.values.Value.{Value}
use Rattle.method.specs.declared.program.Inner.{Inner}
use Rattle.method.specs.Expressions.{Gives, checks, eval}
use Rattle.method.specs.Actions as m
use Rattle.machine_values.specs.Spots.{context_at, spot_at}
use Rattle.machine_values.specs.Answers.{Stops, StopsOr}
use Rattle.machine_values.proofs.Outcomes.{anyhow}
use Rattle.machine_objects.specs.Runs.{progress_at, RunsOr}
use Rattle.machine_actions.specs.RunsOut.{SimpleRunsOut, InnerRunsOut, ListRunsOut}
use Rattle.machine_actions.proofs.Inside.{carried, else_checks, else_tally, test_stops, comes_then, comes_else, list_next, list_stops, list_end}
use Rattle.machine_actions.proofs.blocks.+inner.Goals as goal

pub run_inner-returns-in-Inside : goal.run_inner-returns-in-Inside
run_inner-returns-in-Inside t c k n x e finite =
    let a = c.args in
    let p = a.at.now.program.now in
    let g = progress_at e a.progress.now in
    let r = c.run_simple.result in
    let last = c.run_simple.new.progress in
    let z = context_at x a.at.now.context.now in
    let os = a.at.now.listed.now in
    subst (λ (i : Inner). RunsOr (InnerRunsOut p z os i n k g) r last (m.run_inner p z os i n k g)) (sym c.in-Inside.is)
    (carried (λ q s. RunsOr (SimpleRunsOut q s c.in-Inside.simple n g) r last (m.run_simple q s c.in-Inside.simple n k g)) c.inside.result.program.now p (spot_at x c.inside.result) (m.inner_spot p (context_at x a.at.now.context.now) a.at.now.listed.now c.in-Inside.line) c.inside.ensures.program (c.inside.ensures.spot x) (c.run_simple.ensures k n x e finite))

pub run_inner-returns-in_err-v-in-InsideIf : goal.run_inner-returns-in_err-v-in-InsideIf
run_inner-returns-in_err-v-in-InsideIf t c k n x e finite =
    let a = c.args in
    let p = a.at.now.program.now in
    let z = context_at x a.at.now.context.now in
    let os = a.at.now.listed.now in
    let g = progress_at e a.progress.now in
    let i = c.in-InsideIf in
    let inside = c.inside-in-InsideIf in
    let stop = c.in_err-v-in-InsideIf.field-0.0 in
    let q = err_from_is_err_and c.from_residual.result c.from_residual.ensures.1 in
    let there = subst (λ (l : List Value). Stops stop (eval inside.result.program.now (spot_at x inside.result) g.heap l i.test n)) c.deref.ensures.value (c.in_err-v-in-InsideIf.ensures n x e.support finite) in
    rw (q.1, q.2)
    (subst (λ (j : Inner). StopsOr (InnerRunsOut p z os j n k g) stop (m.run_inner p z os j n k g)) (sym i.is)
    (anyhow _ stop _
    (test_stops p z os i.line i.test i.a i.b n k g stop (carried (λ r s. Stops stop (eval r s g.heap g.locals i.test n)) inside.result.program.now p (spot_at x inside.result) (m.inner_spot p z os i.line) inside.ensures.program (inside.ensures.spot x) there))))

pub run_inner-returns-then-is_true : goal.run_inner-returns-then-is_true
run_inner-returns-then-is_true t c k n x e finite =
    let a = c.args in
    let p = a.at.now.program.now in
    let z = context_at x a.at.now.context.now in
    let os = a.at.now.listed.now in
    let g = progress_at e a.progress.now in
    let i = c.in-InsideIf in
    let inside = c.inside-in-InsideIf in
    let v = c.in_ok-v-in-InsideIf.v in
    let r = c.run_list.result in
    let last = c.run_list.new.progress in
    let there = subst (λ (l : List Value). eval inside.result.program.now (spot_at x inside.result) g.heap l i.test n ≡ Gives v) c.deref.ensures.value (c.in_ok-v-in-InsideIf.ensures n x e.support finite) in
    let gives = carried (λ q s. eval q s g.heap g.locals i.test n ≡ Gives v) inside.result.program.now p (spot_at x inside.result) (m.inner_spot p z os i.line) inside.ensures.program (inside.ensures.spot x) there in
    subst (λ (j : Inner). RunsOr (InnerRunsOut p z os j n k g) r last (m.run_inner p z os j n k g)) (sym i.is)
    (comes_then p z os i.line i.test i.a i.b n k g v gives r last (sym c.is_true.ensures ∙ c.if-is_true.true)
    (subst (λ (row : List Inner). RunsOr (ListRunsOut p z os row (n + checks i.test) k g) r last (m.run_list p z os row (n + checks i.test) k g)) c.deref-then-is_true.ensures.value (c.run_list.ensures k (n + checks i.test) x e finite)))

pub run_inner-returns-else-is_true : goal.run_inner-returns-else-is_true
run_inner-returns-else-is_true t c k n x e finite =
    let a = c.args in
    let p = a.at.now.program.now in
    let z = context_at x a.at.now.context.now in
    let os = a.at.now.listed.now in
    let g = progress_at e a.progress.now in
    let i = c.in-InsideIf in
    let inside = c.inside-in-InsideIf in
    let v = c.in_ok-v-in-InsideIf.v in
    let r = c.run_list-in-InsideIf.result in
    let last = c.run_list-in-InsideIf.new.progress in
    let there = subst (λ (l : List Value). eval inside.result.program.now (spot_at x inside.result) g.heap l i.test n ≡ Gives v) c.deref.ensures.value (c.in_ok-v-in-InsideIf.ensures n x e.support finite) in
    let gives = carried (λ q s. eval q s g.heap g.locals i.test n ≡ Gives v) inside.result.program.now p (spot_at x inside.result) (m.inner_spot p z os i.line) inside.ensures.program (inside.ensures.spot x) there in
    let before = else_checks p z os i.line i.test i.a i.b n k g in
    let tally = else_tally p z os i.line i.test i.a i.b n k g in
    subst (λ (j : Inner). RunsOr (InnerRunsOut p z os j n k g) r last (m.run_inner p z os j n k g)) (sym i.is)
    (comes_else p z os i.line i.test i.a i.b n k g v gives r last (sym c.is_true.ensures ∙ c.if-is_true.false)
    (subst (λ (row : List Inner). RunsOr (ListRunsOut p z os row before tally g) r last (m.run_list p z os row before tally g)) c.deref-in-InsideIf.ensures.value (c.run_list-in-InsideIf.ensures tally before x e finite)))

pub run_list-loop-inner-init : goal.run_list-loop-inner-init
run_list-loop-inner-init t c k n x e finite r last rest = rest k n e finite

pub run_list-loop-inner-preserved : goal.run_list-loop-inner-preserved
run_list-loop-inner-preserved t c k n x e finite =
    let a = c.args in
    let l = c.loop-inner in
    list_next a.at.now.program.now (context_at x a.at.now.context.now) a.at.now.listed.now a.row.now n k (progress_at e a.progress.now) l.progress l.inner-index (l.invariant k n x e finite) c.inner-item.result c.loop-inner-test.true c.inner-item.is c.run_inner.new.progress (λ u m d fits. c.in_ok-run_inner.ensures u m x d fits)

pub run_list-returns-in_err-run_inner : goal.run_list-returns-in_err-run_inner
run_list-returns-in_err-run_inner t c k n x e finite =
    let a = c.args in
    let l = c.loop-inner in
    let q = err_from_is_err_and c.from_residual.result c.from_residual.ensures.1 in
    rw (q.1, q.2)
    (list_stops a.at.now.program.now (context_at x a.at.now.context.now) a.at.now.listed.now a.row.now n k (progress_at e a.progress.now) l.progress l.inner-index (l.invariant k n x e finite) c.inner-item.result c.loop-inner-test.true c.inner-item.is c.in_err-run_inner.field-0.0 c.run_inner.new.progress (λ u m d fits. c.in_err-run_inner.ensures u m x d fits))

pub run_list-returns : goal.run_list-returns
run_list-returns t c k n x e finite =
    let a = c.args in
    let l = c.loop-inner in
    list_end a.at.now.program.now (context_at x a.at.now.context.now) a.at.now.listed.now a.row.now n k (progress_at e a.progress.now) l.progress l.inner-index (l.invariant k n x e finite) c.loop-inner-test.false

use Rattle.std.proofs.Common.{◌≡◌, List, subst}
use Rattle.object_types.specs.declared.values.Value.{Value}
use Rattle.method.specs.Expressions.{Gives, eval}
use Rattle.machine_values.specs.Answers.{Stops}
use Rattle.std.proofs.lemmas.Result.{err_from_is_err_and}
use Rattle.machine_values.specs.Spots.{heap_at, spot_at}
use Rattle.machine_values.proofs.Outcomes.{joined_nothing}
use Rattle.machine_actions.proofs.ListedObjects.{listed_next, listed_stops, listed_end}
use Rattle.machine_actions.proofs.blocks.eval_listed.Goals as goal

pub loop-item-init : goal.loop-item-init
loop-item-init c n x y finite = (n, joined_nothing _ _ c.new-values.ensures.items)

pub loop-item-preserved : goal.loop-item-preserved
loop-item-preserved c n x y finite =
    let a = c.args in
    let l = c.loop-item in
    listed_next a.at.now.program.now (spot_at x a.at.now) (heap_at y a.progress.now.heap) a.progress.now.locals.items a.listed.now n l.values.items l.item-index (l.invariant n x y finite) c.item-item.result c.loop-item-test.true c.item-item.is c.in_ok-eval.field-0 c.push.new.self.items (λ m. subst (λ (vs : List Value). eval a.at.now.program.now (spot_at x a.at.now) (heap_at y a.progress.now.heap) vs c.item-item.result.object m ≡ Gives c.in_ok-eval.field-0) c.deref.ensures.value (c.in_ok-eval.ensures m x y finite)) c.in_ok-push.ensures.items

pub returns-in_err-eval : goal.returns-in_err-eval
returns-in_err-eval c n x e finite =
    let a = c.args in
    let l = c.loop-item in
    let y = e.support in
    let p = err_from_is_err_and c.from_residual.result c.from_residual.ensures.1 in
    rw (p.1, p.2)
    (listed_stops a.at.now.program.now (spot_at x a.at.now) (heap_at y a.progress.now.heap) a.progress.now.locals.items a.listed.now n l.values.items l.item-index (l.invariant n x y finite) c.item-item.result c.loop-item-test.true c.item-item.is c.in_err-eval.field-0.0 (λ m. subst (λ (vs : List Value). Stops c.in_err-eval.field-0.0 (eval a.at.now.program.now (spot_at x a.at.now) (heap_at y a.progress.now.heap) vs c.item-item.result.object m)) c.deref.ensures.value (c.in_err-eval.ensures m x y finite)))

pub returns : goal.returns
returns c n x e finite =
    let a = c.args in
    let l = c.loop-item in
    let y = e.support in
    listed_end a.at.now.program.now (spot_at x a.at.now) (heap_at y a.progress.now.heap) a.progress.now.locals.items a.listed.now n l.values.items l.item-index (l.invariant n x y finite) c.loop-item-test.false

use Rattle.std.proofs.lemmas.Result.{err_from_is_err_and}
use Rattle.machine_values.specs.Spots.{heap_at, spot_at}
use Rattle.machine_values.proofs.Outcomes.{joined_nothing}
use Rattle.machine_values.proofs.Listing.{all_next, all_stops, all_end}
use Rattle.machine_values.proofs.eval.eval_all.Goals as goal

pub loop-e-init : goal.loop-e-init
loop-e-init c n x y finite = (n, joined_nothing _ _ c.new-values.ensures.items)

pub loop-e-preserved : goal.loop-e-preserved
loop-e-preserved c n x y finite =
    let a = c.args in
    all_next a.at.now.program.now (spot_at x a.at.now) (heap_at y a.heap.now) a.locals.now a.es.now n c.loop-e.values.items c.loop-e.e-index (c.loop-e.invariant n x y finite) c.e-item.result c.loop-e-test.true c.e-item.is c.in_ok-eval.field-0 c.push.new.self.items (λ m. c.in_ok-eval.ensures m x y finite) c.in_ok-push.ensures.items

pub returns-in_err-eval : goal.returns-in_err-eval
returns-in_err-eval c n x y finite =
    let a = c.args in
    let p = err_from_is_err_and c.from_residual.result c.from_residual.ensures.1 in
    rw (p.1, p.2) (all_stops a.at.now.program.now (spot_at x a.at.now) (heap_at y a.heap.now) a.locals.now a.es.now n c.loop-e.values.items c.loop-e.e-index (c.loop-e.invariant n x y finite) c.e-item.result c.loop-e-test.true c.e-item.is c.in_err-eval.field-0.0 (λ m. c.in_err-eval.ensures m x y finite))

pub returns : goal.returns
returns c n x y finite =
    let a = c.args in
    all_end a.at.now.program.now (spot_at x a.at.now) (heap_at y a.heap.now) a.locals.now a.es.now n c.loop-e.values.items c.loop-e.e-index (c.loop-e.invariant n x y finite) c.loop-e-test.false

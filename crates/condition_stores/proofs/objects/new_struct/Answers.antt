use Rattle.condition_code.proofs.States.{state_later}
use Rattle.condition_code.proofs.Walks.{run_built, run_then}
use Rattle.condition_stores.proofs.Places.{then_later}
use Rattle.condition_stores.proofs.objects.new_struct.Goals as goal

pub returns : goal.returns
returns c = λ b s hs.
    let l = c.in_ok-r.ensures.later in
    let r = c.in_ok-r.ensures.stands _ hs in
    let m = c.in_ok-o.ensures.later in
    let o = c.in_ok-o.ensures.stands _ r.value_is in
    let w = c.in_ok-w.ensures b _ (state_later m r.state_is) in
    let k = then_later l (then_later m w.goes.later) in
    let object = c.in_ok-object.ensures c.args.a.now.program.now b _ _ _ (w.goes.later _ _ o) (k _ _ hs.heap_is) w.gives in
    run_built l (run_built m (run_then w object))

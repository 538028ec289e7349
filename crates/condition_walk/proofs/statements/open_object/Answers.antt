use Rattle.annotation_scenes.proofs.Done.{then_later}
use Rattle.condition_formulas.proofs.Symbolics.{symbolic_later}
use Rattle.condition_code.proofs.States.{spot_later, state_later}
use Rattle.condition_code.proofs.Walks.{gives, run_then, run_built}
use Rattle.condition_walk.proofs.statements.open_object.Goals as goal

pub returns : goal.returns
returns c = λ f b s hb hs.
    let moved = c.in_ok-moved.ensures s hs in
    let here = spot_later moved.goes.later hb in
    let value = c.in_ok-value.ensures b _ here moved.gives in
    let on = c.in_ok-object.ensures.later in
    let off = then_later value.goes.later on in
    let opened = c.in_ok-opened.ensures b _ _ (spot_later off here) (c.in_ok-object.ensures.stands _ value.gives) (state_later off moved.gives) in
    run_then moved (run_then value (run_built on (run_then opened (gives (λ n g h. h) (record { value_is = symbolic_later opened.goes.later (symbolic_later on value.gives); state_is = opened.gives })))))

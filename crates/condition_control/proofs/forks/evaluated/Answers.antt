use Rattle.annotation_scenes.proofs.Done.{then_later}
use Rattle.condition_formulas.proofs.Symbolics.{symbolic_later}
use Rattle.condition_code.proofs.States.{state_later}
use Rattle.condition_code.proofs.Walks.{gives, run_then}
use Rattle.condition_control.proofs.forks.evaluated.Goals as goal

pub returns : goal.returns
returns c = λ f b s hb hs.
    let value = c.in_ok-value.ensures b s hb hs in
    let holds = c.in_ok-holds.ensures.stands _ value.gives in
    let fails = c.in_ok-fails.ensures.stands _ (symbolic_later c.in_ok-holds.ensures.later value.gives) in
    let on = then_later c.in_ok-holds.ensures.later c.in_ok-fails.ensures.later in
    run_then value (gives on (record { state_is = state_later on (state_later value.goes.later hs); test_is = c.in_ok-fails.ensures.later _ _ holds; fails_is = fails }))

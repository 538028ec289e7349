use Rattle.condition_code.proofs.States.{state_later}
use Rattle.condition_code.proofs.Walks.{gives, run_built, run_then}
use Rattle.condition_formulas.proofs.Symbolics.{symbolic_later}
use Rattle.condition_stores.proofs.Places.{then_later}
use Rattle.condition_stores.proofs.exchange.compared_result.Goals as goal

pub returns : goal.returns
returns c = λ b w s hb hw hs.
    let p = c.args.a.now.program.now in
    let y = c.in_ok-y.ensures b s hb hs in
    let l = c.in_ok-test.ensures.later in
    let test = c.in_ok-test.ensures.stands p b w _ (symbolic_later y.goes.later hw) y.gives in
    let value = c.in_ok-value.ensures p b _ test in
    let k = then_later y.goes.later (then_later l value.goes.later) in
    run_then y (run_built l (run_then value (gives (λ n f h. h) (record { value_is = value.gives; state_is = state_later k hs }))))

use Rattle.condition_code.proofs.States.{spot_later, state_later}
use Rattle.condition_code.proofs.Walks.{gives, run_then}
use Rattle.condition_stores.proofs.exchange.exchange_result.Goals as goal

pub returns-in_ok-value-in-Plainly : goal.returns-in_ok-value-in-Plainly
returns-in_ok-value-in-Plainly c = λ b w hb hw.
    let x = c.in_ok-value-in-Plainly.ensures c.args.a.now.program.now b _ hw.value_is in
    rw c.in-Plainly.is (run_then x (gives (λ n f h. h) (record { value_is = x.gives; state_is = state_later x.goes.later hw.state_is })))

pub returns-in_ok-value-in-Compared : goal.returns-in_ok-value-in-Compared
returns-in_ok-value-in-Compared c = λ b w hb hw.
    let x = c.in_ok-x-in-Compared.ensures c.args.a.now.program.now b _ hw.value_is in
    let value = c.in_ok-value-in-Compared.ensures b _ _ (spot_later x.goes.later hb) x.gives (state_later x.goes.later hw.state_is) in
    rw c.in-Compared.is (run_then x value)

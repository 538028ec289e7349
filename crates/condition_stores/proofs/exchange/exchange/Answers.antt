use Rattle.condition_code.proofs.States.{spot_later, state_later}
use Rattle.condition_code.proofs.Walks.{gives, run_built, run_then}
use Rattle.condition_formulas.proofs.Rows.{all_later}
use Rattle.condition_formulas.proofs.Symbolics.{is_number}
use Rattle.condition_stores.proofs.Places.{in_field, then_later}
use Rattle.condition_stores.proofs.Walking.{checks_more}
use Rattle.condition_stores.proofs.exchange.exchange.Goals as goal

pub returns : goal.returns
returns c = λ b x xs s hb hx hxs hs.
    let p = c.args.a.now.program.now in
    let l = c.in_ok-was.ensures.later in
    let was = c.in_ok-was.ensures.stands _ _ hs.heap_is hx in
    let m = c.in_ok-now.ensures.later in
    let now = c.in_ok-now.ensures.stands p b xs _ (all_later l hxs) was in
    let k = then_later l m in
    let went = c.in_ok-check_exchange.ensures b x _ s (spot_later k hb) (k _ _ hx) now (state_later k hs) in
    let j = then_later k went.later in
    let state = c.in_ok-state.ensures b _ _ s (spot_later j hb) (in_field (j _ _ hx)) (is_number (went.later _ _ now)) (state_later j hs) in
    let i = then_later went.later state.goes.later in
    let value = c.operation_result-value.ensures p b _ _ _ (i _ _ (m _ _ was)) (i _ _ now) in
    run_built l (run_built m (checks_more _ went (run_then state (gives (λ n f h. h) (record { value_is = is_number value; state_is = state.gives })))))

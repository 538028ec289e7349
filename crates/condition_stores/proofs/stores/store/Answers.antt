use Rattle.condition_code.proofs.Walks.{gives}
use Rattle.condition_code.specs.States.{IsState}
use Rattle.condition_code.specs.Walks.{Ran}
use Rattle.condition_stores.proofs.Places.{by_field, by_local}
use Rattle.conditions.specs.Actions as actions
use Rattle.condition_stores.proofs.stores.store.Goals as goal

pub returns-in-Local : goal.returns-in-Local
returns-in-Local c = λ b q w s hb hq hw hs.
    let state = c.put_local.ensures c.args.walk.now.graph (record { value = w; state = s }) (record { value_is = hw; state_is = hs }) in
    by_local (λ u. Ran IsState c.args.walk.now c.args.walk.now c.put_local.result (actions.store c.args.a.now.program.now b u w s)) c.in-Local.is (gives (λ n f h. h) state) q hq

pub returns-in_ok-state-in-Field : goal.returns-in_ok-state-in-Field
returns-in_ok-state-in-Field c = λ b q w s hb hq hw hs.
    by_field (λ u. Ran IsState c.args.walk.now c.store_field.new.walk c.in_ok-state-in-Field.state (actions.store c.args.a.now.program.now b u w s)) c.in-Field.is (λ x hx. c.in_ok-state-in-Field.ensures b x w s hb hx hw hs) q hq

use Rattle.std.specs.Prelude.{Option}
use Rattle.conditions.specs.Actions as actions
use Rattle.conditions.specs.Statements.{receive}
use Rattle.condition_code.specs.States.{IsState}
use Rattle.condition_code.specs.Walks.{Ran}
use Rattle.condition_code.proofs.States.{spot_later, state_later}
use Rattle.condition_code.proofs.Walks.{gives, run_then}
use Rattle.condition_walk.proofs.Receiving.{place_later, by_some, by_none}
use Rattle.condition_walk.proofs.calls.receive.Goals as goal

pub returns-in_ok-stored-in-Some : goal.returns-in_ok-stored-in-Some
returns-in_ok-stored-in-Some c = λ f b q w hb hq hw.
    let p = c.args.a.now.program.now in
    let converted = c.in_ok-converted.ensures p b w.value hw.value_is in
    let on = converted.goes.later in
    let P : Option actions.Place → Type 0 = λ o. Ran IsState c.args.walk.now c.store.new.walk c.in_ok-stored-in-Some.stored (receive p f b o c.args.conversion w) in
    by_some P c.in-Some.is (λ d hd. run_then converted (c.in_ok-stored-in-Some.ensures b d _ w.state (spot_later on hb) (place_later on hd) converted.gives (state_later on hw.state_is))) q hq

pub returns-in-None : goal.returns-in-None
returns-in-None c = λ f b q w hb hq hw.
    let p = c.args.a.now.program.now in
    let converted = c.in_ok-converted.ensures p b w.value hw.value_is in
    let P : Option actions.Place → Type 0 = λ o. Ran IsState c.args.walk.now c.convert_to.new.walk c.args.v.state (receive p f b o c.args.conversion w) in
    by_none P c.in-None.is (run_then converted (gives (λ n g h. h) (state_later converted.goes.later hw.state_is))) q hq

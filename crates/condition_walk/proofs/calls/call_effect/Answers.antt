use Rattle.annotation_scenes.proofs.Done.{then_later}
use Rattle.condition_formulas.proofs.Rows.{same_ids}
use Rattle.condition_formulas.proofs.Symbolics.{are_later}
use Rattle.condition_code.proofs.States.{spot_later, value_and_state_later}
use Rattle.condition_code.proofs.Walks.{run_then, run_built, facts_then}
use Rattle.condition_walk.proofs.Receiving.{receiving_later}
use Rattle.condition_walk.proofs.calls.call_effect.Goals as goal

pub returns : goal.returns
returns c = λ f b h fs ws q s hb hh hfs hws hq hs.
    let p = c.args.a.now.program.now in
    let framed = c.in_ok-framed.ensures h fs s hh hfs hs in
    let value = c.in_ok-value.ensures p f b _ framed.gives in
    let on = then_later framed.goes.later value.goes.later in
    let ensured = c.in_ok-ensured.ensures.stands b _ _ ws _ (on _ _ hh) (are_later on hws) value.gives.state_is.heap_is value.gives.value_is in
    let went = c.in_ok-all_facts.ensures _ (same_ids c.deref.ensures.value ensured) in
    let off = then_later c.in_ok-ensured.ensures.later went.later in
    let received = c.in_ok-received.ensures f b q _ (spot_later off (spot_later on hb)) (receiving_later off (receiving_later on hq)) (value_and_state_later off value.gives) in
    run_then framed (run_then value (run_built c.in_ok-ensured.ensures.later (facts_then _ went received)))

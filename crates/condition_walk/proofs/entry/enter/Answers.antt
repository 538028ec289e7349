use Rattle.std.proofs.Common.{ap}
use Rattle.method.specs.declared.program.Program.{Program}
use Rattle.conditions.specs.Actions.{items_of}
use Rattle.conditions.specs.Code as spec
use Rattle.conditions.specs.Formulas.{me}
use Rattle.conditions.specs.Statements.{body, entry_facts, outside_spot}
use Rattle.annotation_scenes.proofs.Done.{then_later}
use Rattle.condition_formulas.proofs.Rows.{same_ids}
use Rattle.condition_formulas.proofs.Symbolics.{are_later}
use Rattle.condition_code.proofs.States.{state_later}
use Rattle.condition_code.proofs.Walks.{run_built, facts_then}
use Rattle.condition_control.proofs.Runs.{as_run}
use Rattle.condition_walk.proofs.entry.enter.Goals as goal

pub returns : goal.returns
returns c = λ s ws hs hws.
    let p = c.args.program.now in
    let f = c.args.f.now in
    let there : spec.Spot = outside_spot p f s.heap ws in
    let here : spec.Spot = record there { writes = items_of p there f.writes.items (spec.call_scene me s.heap ws) } in
    let facts = c.in_ok-facts.ensures.stands s ws hs.heap_is hws in
    let went = c.in_ok-all_facts.ensures _ (same_ids c.deref.ensures.value facts) in
    let on = then_later c.in_ok-facts.ensures.later went.later in
    let writes = same_ids c.deref-2.ensures.value (c.in_ok-writes.ensures.stands there s.heap ws (on _ _ hs.heap_is) (are_later on hws)) in
    let off = then_later on c.in_ok-writes.ensures.later in
    let spot = c.outside_spot-a.ensures.spot _ s.heap _ ws (off _ _ hs.heap_is) writes (are_later off hws) in
    let ended = as_run (ap (λ (q : Program). body q f here f.body.items s) c.outside_spot-a.ensures.program) (c.in_ok-ended.ensures here s spot (state_later off hs)) in
    run_built c.in_ok-facts.ensures.later (facts_then (entry_facts p f there s) went (run_built c.in_ok-writes.ensures.later ended))

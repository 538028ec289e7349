use Rattle.condition_code.specs.States.{IsEntry}
use Rattle.condition_code.proofs.States.{entry_later}
use Rattle.condition_claims.proofs.Each.{of_none, of_next, of_entries, next_entry}
use Rattle.condition_claims.proofs.tests.entry_formulas.Goals as goal

pub loop-entry-init : goal.loop-entry-init
loop-entry-init c = of_none c.new-all.ensures.items

pub loop-entry-preserved : goal.loop-entry-preserved
loop-entry-preserved c =
    let on = c.loop-entry.invariant.later in
    of_next (IsEntry c.args.graph.now c.entry-item.result) c.loop-entry.invariant (λ es all. next_entry c.loop-entry.entry-index _ all c.loop-entry-test.true c.entry-item.is) c.in_ok-id.ensures.later (λ h e known is. c.in_ok-id.ensures.stands h e (on _ _ known) (entry_later on is)) c.in_ok-push.ensures.items

pub returns-clause-stands : goal.returns-clause-stands
returns-clause-stands c = λ h es hh all. of_entries c.loop-entry.invariant c.loop-entry-test.false h es hh all

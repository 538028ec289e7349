use Rattle.condition_walk.proofs.Entries.{new_first, new_next, new_last}
use Rattle.condition_walk.proofs.entry.new_values.Goals as goal

pub loop-variable-init : goal.loop-variable-init
loop-variable-init c = new_first c.new-values.ensures.items

pub loop-variable-preserved : goal.loop-variable-preserved
loop-variable-preserved c =
    new_next _ c.variable-item.is c.loop-variable.invariant c.loop-variable-test.true c.in_ok-made.ensures.later (λ s hs. ((c.in_ok-made.ensures.stands s hs).value_is, (c.in_ok-made.ensures.stands s hs).state_is)) c.in_ok-push.ensures.items

pub returns-clause-stands : goal.returns-clause-stands
returns-clause-stands c = λ s hs.
    let made = new_last c.loop-variable.invariant c.loop-variable-test.false s hs in
    record { values_are = made.0; state_is = made.1 }

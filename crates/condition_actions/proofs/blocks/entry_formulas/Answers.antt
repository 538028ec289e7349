use Rattle.condition_code.proofs.States.{entry_later}
use Rattle.condition_actions.proofs.Each.{makes_none, makes_one, makes_all, of_entries}
use Rattle.condition_actions.proofs.blocks.entry_formulas.Goals as goal

pub loop-entry-init : goal.loop-entry-init
loop-entry-init c = makes_none _ _ _ _ _ _ c.new-formulas.ensures.items

pub loop-entry-preserved : goal.loop-entry-preserved
loop-entry-preserved c =
    let l = c.loop-entry in
    makes_one _ _ _ c.entry-item.result c.entry-item.result c.entry-item.is l.invariant c.loop-entry-test.true c.in_ok-formula.ensures.later
    (λ h known e is. c.in_ok-formula.ensures.stands h e (l.invariant.later _ _ known) (entry_later l.invariant.later is)) c.in_ok-push.ensures.items

pub returns-clause-stands : goal.returns-clause-stands
returns-clause-stands c = λ h es hh all. makes_all c.loop-entry.invariant c.loop-entry-test.false h hh es (of_entries all)

use Rattle.condition_control.proofs.contracts.requires_at.Goals as goal

pub returns-clause-stands : goal.returns-clause-stands
returns-clause-stands c = λ b h ws hh hws.
    rw c.deref.ensures.value at (c.in_ok-all.ensures.stands b _ (c.in_ok-words.ensures.stands h ws hh hws))

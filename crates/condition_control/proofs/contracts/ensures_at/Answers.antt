use Rattle.condition_control.proofs.contracts.ensures_at.Goals as goal

pub returns-clause-stands : goal.returns-clause-stands
returns-clause-stands c = λ b e h ws w he hws hh hw.
    rw c.deref.ensures.value at (c.in_ok-all.ensures.stands b _ (c.in_ok-words.ensures.stands e ws h w he hws hh hw))

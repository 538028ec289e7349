use Rattle.condition_stores.proofs.objects.is_absent.Goals as goal

pub returns-clause-stands : goal.returns-clause-stands
returns-clause-stands c = λ h x hh hx.
    c.eq.ensures.stands _ _ (c.in_ok-zero.ensures.later _ _ (c.in_ok-now.ensures.stands _ _ hh hx)) c.in_ok-zero.ensures.stands

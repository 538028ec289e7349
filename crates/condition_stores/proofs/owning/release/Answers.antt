use Rattle.condition_stores.proofs.owning.release.Goals as goal

pub returns-clause-stands : goal.returns-clause-stands
returns-clause-stands c = λ h x y hh hx hy.
    let l = c.in_ok-thread.ensures.later in
    c.hand_over.ensures.stands _ _ _ _ (l _ _ hh) (l _ _ hx) (l _ _ hy) c.in_ok-thread.ensures.stands

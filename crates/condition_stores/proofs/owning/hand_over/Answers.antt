use Rattle.condition_stores.proofs.owning.hand_over.Goals as goal

pub returns-clause-stands : goal.returns-clause-stands
returns-clause-stands c = λ h x y t hh hx hy ht.
    let l = c.in_ok-counted.ensures.later in
    c.with_owner.ensures.stands _ _ _ (c.in_ok-counted.ensures.stands _ _ _ hh hx hy) (l _ _ hy) (l _ _ ht)

use Rattle.condition_stores.proofs.heaps.with_value.Goals as goal

pub returns-clause-stands : goal.returns-clause-stands
returns-clause-stands c = λ h x w hh hx hw.
    let l = c.in_ok-held.ensures.later in
    c.with_field.ensures.stands _ _ _ (l _ _ hh) (l _ _ hx) (c.in_ok-held.ensures.stands _ hw)

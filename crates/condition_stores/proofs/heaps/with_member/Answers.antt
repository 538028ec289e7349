use Rattle.condition_formulas.proofs.Rows.{more, none}
use Rattle.condition_stores.proofs.heaps.with_member.Goals as goal

pub returns-clause-stands : goal.returns-clause-stands
returns-clause-stands c = λ h x y hh hx hy.
    let l = c.in_ok-value.ensures.later in
    c.stored.ensures.stands _ (more (l _ _ hh) (more (l _ _ hx) (more (l _ _ hy) (more c.in_ok-value.ensures.stands none))))

use Rattle.condition_formulas.proofs.Rows.{all_later}
use Rattle.condition_stores.proofs.owning.set_members.Goals as goal

pub returns-clause-stands : goal.returns-clause-stands
returns-clause-stands c = λ x qs h hx hqs hh.
    let l = c.in_ok-empty.ensures.later in
    c.add_members.ensures.stands _ _ _ (l _ _ hx) (all_later l hqs) (c.in_ok-empty.ensures.stands _ _ hh hx)

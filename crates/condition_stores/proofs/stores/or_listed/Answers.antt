use Rattle.condition_formulas.proofs.Rows.{both, more, none, same_ids}
use Rattle.condition_stores.proofs.stores.or_listed.Goals as goal

pub returns-clause-stands : goal.returns-clause-stands
returns-clause-stands c = λ b f x hb hf hx.
    let listed = c.in_ok-listed.ensures.stands b x hb hx in
    let ways = both (more (c.in_ok-listed.ensures.later _ _ hf) none) (same_ids c.deref.ensures.value listed) in
    c.any_of.ensures.stands _ (same_ids c.deref-2.ensures.value (same_ids c.in_ok-ways.ensures ways))

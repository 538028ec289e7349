use Rattle.condition_formulas.proofs.Rows.{all_later, both, same_ids}
use Rattle.condition_formulas.proofs.Symbolics.{are_later}
use Rattle.condition_claims.proofs.Settling.{setting_later}
use Rattle.condition_claims.proofs.stability.site_facts.Goals as goal

pub returns-clause-stands : goal.returns-clause-stands
returns-clause-stands c = λ ws fs hs hws hfs.
    let l1 = c.in_ok-all.ensures.later in
    let l2 = c.in_ok-conjuncts.ensures.later in
    let conjuncts = c.in_ok-conjuncts.ensures.stands _ _ (setting_later l1 hs).before_is (are_later l1 hws) in
    let front = same_ids c.in_ok-extend_from_slice.ensures.items (both (all_later l2 (c.in_ok-all.ensures.stands hs)) (all_later l2 (all_later l1 hfs))) in
    same_ids c.in_ok-extend_from_slice-2.ensures.items (both front (same_ids c.deref.ensures.value conjuncts))

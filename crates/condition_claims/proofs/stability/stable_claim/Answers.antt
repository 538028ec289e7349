use Rattle.condition_formulas.proofs.Rows.{all_later, same_ids}
use Rattle.condition_formulas.proofs.Symbolics.{are_later}
use Rattle.condition_claims.proofs.Settling.{setting_later}
use Rattle.condition_claims.proofs.stability.stable_claim.Goals as goal

pub returns-clause-stands : goal.returns-clause-stands
returns-clause-stands c = λ t hws hfs.
    let l1 = c.in_ok-on.ensures.later in
    let l2 = c.in_ok-known.ensures.later in
    let l3 = c.in_ok-first.ensures.later in
    let h0 = c.in_ok-on.ensures.stands in
    let known = c.in_ok-known.ensures.stands _ _ h0 (are_later l1 hws) (all_later l1 hfs) in
    let first = c.in_ok-first.ensures.stands _ (same_ids c.deref.ensures.value known) in
    let h3 = setting_later l3 (setting_later l2 h0) in
    let conjuncts = c.in_ok-conjuncts.ensures.stands _ _ h3.after_is (are_later l3 (are_later l2 (are_later l1 hws))) in
    let last = c.in_ok-last.ensures.stands _ (same_ids c.deref-2.ensures.value conjuncts) in
    c.imp.ensures.stands _ _ (c.in_ok-last.ensures.later _ _ (c.in_ok-conjuncts.ensures.later _ _ first)) last

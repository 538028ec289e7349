use Rattle.condition_formulas.proofs.Rows.{same_ids}
use Rattle.condition_claims.proofs.Settling.{setting_later}
use Rattle.condition_claims.proofs.admissible.reflexive.Goals as goal

pub returns-clause-stands : goal.returns-clause-stands
returns-clause-stands c =
    let h0 = c.in_ok-on.ensures.stands in
    let h1 = setting_later c.in_ok-step.ensures.later h0 in
    let h2 = setting_later c.in_ok-all.ensures.later h1 in
    let step = c.in_ok-step.ensures.stands h0 in
    let all = c.in_ok-all.ensures.stands _ (same_ids c.deref.ensures.value step) in
    let holds = c.in_ok-holds.ensures.stands _ _ _ h2.object_is h2.after_is h2.after_is in
    c.imp.ensures.stands _ _ (c.in_ok-holds.ensures.later _ _ all) holds
